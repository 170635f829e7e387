-- Decoding an even and an odd code together (RTCA DO-260B, appendix on compact position reporting: globally unambiguous
-- decoding, airborne and surface; ICAO Doc 9871).
use Rattle.std.specs.Prelude.{◌≡◌, ◌≢◌, ℕ, ℤ, pos, Result, Ok, Err}
use Rattle.sq_angle.specs.Angle.{degrees as degrees_of}
use Rattle.sq_angle.specs.Fraction.{Fraction}
use Rattle.sq_angle.specs.Position.{lat_of, lon_of}
use Rattle.sq_angle.specs.declared.position.Position.{Position}
use Rattle.sq_angle.specs.Whole.{IsCongruent}
use Rattle.sq_zones.specs.declared.parity.Parity.{Parity}
use Rattle.sq_zones.specs.declared.parity.Parity.TheVariants.{Even, Odd}
use Rattle.sq_cpr.specs.declared.faults.PairFault.{PairFault}
use Rattle.sq_cpr.specs.declared.faults.PairFault.TheVariants.{OutOfRange, ZoneCounts}
use Rattle.sq_cpr.specs.Code.{CodeNumbers}
use Rattle.sq_cpr.specs.Span.{Span, air}
use Rattle.sq_cpr.specs.Grid.{Point, IsGridPoint, IsLatitude, lat_zones, circle, grid_latitude}
use Rattle.sq_cpr.specs.Near.{IsRepresentative, angle_at}
use Rattle.sq_cpr.specs.Close.{IsClosePair, count_at, zones_of, HaveOneCount}

-- the value of the parity: the even or the odd one
abbrev pub of_parity : {A : Type 0} → Parity → (even odd : A) → A
of_parity Even even odd = even
of_parity Odd even odd = odd

-- an even and an odd code, and the parity of the newer
pub record CodePair : Type 0 where
  pub even : CodeNumbers
  pub odd : CodeNumbers
  pub newest : Parity

abbrev pub code_pair : (even odd : CodeNumbers) (newest : Parity) → CodePair
code_pair even odd newest = record { even = even; odd = odd; newest = newest }

-- p and q are the latitude indices of a close pair with these codes
abbrev pub AreLatitudes : (degrees : ℕ) → (even odd : CodeNumbers) → (p q : ℤ) → Type 0
AreLatitudes degrees even odd p q = IsClosePair degrees (lat_zones Even) (lat_zones Odd) even.lat odd.lat p q

-- both latitudes lie in -90 to 90 degrees
pub record AreInRange (degrees : ℕ) (p q : ℤ) : Type 0 where
  pub even : IsLatitude degrees Even p
  pub odd : IsLatitude degrees Odd q

-- both latitudes are their representatives at the reference latitude
pub record AreAt (degrees : ℕ) (lat : Fraction) (p q : ℤ) : Type 0 where
  pub even : IsRepresentative degrees lat (grid_latitude degrees Even p)
  pub odd : IsRepresentative degrees lat (grid_latitude degrees Odd q)

-- The newest point of a close pair with these codes. Both latitudes lie in -90 to 90 degrees and have one zone count,
-- and the longitudes are close by the zones of that count.
pub record IsPointOfPair (span : Span) (codes : CodePair) (point : Point) : Type 0 where
  pub even_lat : ℤ
  pub odd_lat : ℤ
  pub even_lon : ℤ
  pub odd_lon : ℤ
  pub latitudes : AreLatitudes span.degrees codes.even codes.odd even_lat odd_lat
  pub in_range : AreInRange span.degrees even_lat odd_lat
  pub counts : HaveOneCount span.degrees even_lat odd_lat
  pub longitudes : IsClosePair span.degrees (zones_of Even (count_at span.degrees Even even_lat))
      (zones_of Odd (count_at span.degrees Even even_lat)) codes.even.lon codes.odd.lon even_lon odd_lon
  pub of_grid : IsGridPoint span point
  pub parity : point.parity ≡ codes.newest
  pub lat_index : point.lat_index ≡ of_parity codes.newest even_lat odd_lat
  pub lon_index : IsCongruent (circle point.zones span.repeats) (pos point.lon_index)
      (of_parity codes.newest even_lon odd_lon)

-- both latitudes lie in -90 to 90 degrees, and their zone counts are these two different numbers
pub record HaveTwoCounts (degrees : ℕ) (p q : ℤ) (even_count odd_count : ℕ) : Type 0 where
  pub in_range : AreInRange degrees p q
  pub even : even_count ≡ count_at degrees Even p
  pub odd : odd_count ≡ count_at degrees Odd q
  pub differ : even_count ≢ odd_count

-- The result of decoding a pair of airborne codes: the newest point of the close pair, or an error. It is
-- `OutOfRange` if the close latitudes are not both in -90 to 90 degrees, or their two zone counts if these differ.
abbrev pub AirPairAnswer : CodePair → Result Point PairFault → Type 0
AirPairAnswer codes (Ok point) = IsPointOfPair air codes point
AirPairAnswer codes (Err OutOfRange) =
    (p q : ℤ) → AreLatitudes air.degrees codes.even codes.odd p q → ¬ AreInRange air.degrees p q
AirPairAnswer codes (Err (ZoneCounts even_count odd_count)) = (p q : ℤ)
    × AreLatitudes air.degrees codes.even codes.odd p q × HaveTwoCounts air.degrees p q even_count odd_count

-- the newest point of the close pair, with each coordinate at its representative at (lat, lon)
pub record IsPointOfPairAt (span : Span) (codes : CodePair) (lat lon : Fraction) (point : Point) : Type 0 where
  pub of_pair : IsPointOfPair span codes point
  pub lat_at : AreAt span.degrees lat of_pair.even_lat of_pair.odd_lat
  pub lon_at : IsRepresentative span.degrees lon
      (angle_at span.degrees point.zones (of_parity codes.newest of_pair.even_lon of_pair.odd_lon))

-- The result of decoding a pair of codes at (lat, lon). Each latitude is taken at its own representative there,
-- independently of the other.
abbrev pub PairAnswer : Span → CodePair → (lat lon : Fraction) → Result Point PairFault → Type 0
PairAnswer span codes lat lon (Ok point) = IsPointOfPairAt span codes lat lon point
PairAnswer span codes lat lon (Err OutOfRange) = (p q : ℤ) × AreLatitudes span.degrees codes.even codes.odd p q
    × AreAt span.degrees lat p q × ¬ AreInRange span.degrees p q
PairAnswer span codes lat lon (Err (ZoneCounts even_count odd_count)) = (p q : ℤ)
    × AreLatitudes span.degrees codes.even codes.odd p q × AreAt span.degrees lat p q
    × HaveTwoCounts span.degrees p q even_count odd_count

-- the result of decoding a pair of codes at a position
abbrev pub PairAnswerAt : Span → CodePair → Position → Result Point PairFault → Type 0
PairAnswerAt span codes place answer =
    PairAnswer span codes (degrees_of (lat_of place)) (degrees_of (lon_of place)) answer
