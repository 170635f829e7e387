-- Close angles of an even and an odd grid (RTCA DO-260B, appendix on compact position reporting: decoding from two
-- positions; ICAO Doc 9871).
use Rattle.std.specs.Prelude.{◌≡◌, ℕ, ◌-◌, ◌*◌, max, ℤ, pos, ◌*ℤ◌}
use Rattle.sq_angle.specs.Fraction.{Fraction, ◌≼◌, ◌≺◌, plus, minus, opposite}
use Rattle.sq_angle.specs.Whole.{IsCongruent}
use Rattle.sq_zones.specs.Zones.{zones_at, parity_index}
use Rattle.sq_zones.specs.declared.parity.Parity.{Parity}
use Rattle.sq_zones.specs.declared.parity.Parity.TheVariants.{Even, Odd}
use Rattle.sq_cpr.specs.Span.{Span}
use Rattle.sq_cpr.specs.Grid.{Point, codes_of_zone, lat_zones, grid_latitude}
use Rattle.sq_cpr.specs.Near.{angle_at}

-- x - y plus a number of turns of so many degrees
abbrev pub difference : (degrees : ℕ) → (x y : Fraction) → (turns : ℤ) → Fraction
difference degrees x y turns = plus (minus x y) (record { num = pos degrees *ℤ turns; den = 1 })

-- the limit for close angles: the span over twice the product of both numbers of zones
abbrev pub closeness : (degrees even_zones odd_zones : ℕ) → Fraction
closeness degrees even_zones odd_zones = record { num = pos degrees; den = 2 * even_zones * odd_zones }

-- The angles of the even index p and the odd index q are close: -k ≤ p - q < k, where some whole number of spans is
-- added to the difference. If each grid has one zone, any two angles are close.
pub record IsClose (degrees even_zones odd_zones : ℕ) (p q : ℤ) : Type 0 where
  pub turns : ℤ
  pub from : opposite (closeness degrees even_zones odd_zones) ≼ difference degrees (angle_at degrees even_zones p)
      (angle_at degrees odd_zones q) turns
  pub below : difference degrees (angle_at degrees even_zones p)
      (angle_at degrees odd_zones q) turns ≺ closeness degrees even_zones odd_zones

-- p and q are close and have these codes
pub record IsClosePair (degrees even_zones odd_zones even odd : ℕ) (p q : ℤ) : Type 0 where
  pub even_code : IsCongruent codes_of_zone p (pos even)
  pub odd_code : IsCongruent codes_of_zone q (pos odd)
  pub close : IsClose degrees even_zones odd_zones p q

-- two latitude indices are close, with 60 even and 59 odd zones
abbrev pub AreCloseLatitudes : (degrees : ℕ) → (p q : ℤ) → Type 0
AreCloseLatitudes degrees p q = IsClose degrees (lat_zones Even) (lat_zones Odd) p q

-- the zone count (NL) of a latitude index
abbrev pub count_at : (degrees : ℕ) → Parity → (lat_index : ℤ) → ℕ
count_at degrees parity lat_index = zones_at (grid_latitude degrees parity lat_index)

-- the number of longitude zones of a parity for a zone count (NL): one less for odd, and at least one
abbrev pub zones_of : Parity → (count : ℕ) → ℕ
zones_of parity count = max (count - parity_index parity) 1

-- both latitudes have the same zone count
abbrev pub HaveOneCount : (degrees : ℕ) → (p q : ℤ) → Type 0
HaveOneCount degrees p q = count_at degrees Even p ≡ count_at degrees Odd q

-- an even and an odd point are close: they have the same zone count, and both coordinates are close
pub record AreClosePoints (span : Span) (a b : Point) : Type 0 where
  pub even : a.parity ≡ Even
  pub odd : b.parity ≡ Odd
  pub latitudes : AreCloseLatitudes span.degrees a.lat_index b.lat_index
  pub counts : HaveOneCount span.degrees a.lat_index b.lat_index
  pub longitudes : IsClose span.degrees a.zones b.zones (pos a.lon_index) (pos b.lon_index)

-- an even and an odd point are tame: their latitudes are close and, if their zone counts are equal, so are their
-- longitudes
pub record AreTamePoints (span : Span) (a b : Point) : Type 0 where
  pub even : a.parity ≡ Even
  pub odd : b.parity ≡ Odd
  pub latitudes : AreCloseLatitudes span.degrees a.lat_index b.lat_index
  pub longitudes : HaveOneCount span.degrees a.lat_index b.lat_index
      → IsClose span.degrees a.zones b.zones (pos a.lon_index) (pos b.lon_index)
