-- Laws of decoding, as statements.
use Rattle.std.specs.Prelude.{◌≡◌, ◌↔◌, ℕ, ◌*◌, ◌<◌, ◌≤◌, ℤ, pos, Result, Ok, Err}
use Rattle.sq_angle.specs.Fraction.{Fraction}
use Rattle.sq_angle.specs.Whole.{ExactlyOne, IsCongruent}
use Rattle.sq_angle.specs.declared.position.Position.{Position}
use Rattle.sq_zones.specs.declared.parity.Parity.{Parity}
use Rattle.sq_zones.specs.declared.parity.Parity.TheVariants.{Even, Odd}
use Rattle.sq_cpr.specs.declared.faults.LocalFault.{LocalFault}
use Rattle.sq_cpr.specs.declared.faults.PairFault.{PairFault}
use Rattle.sq_cpr.specs.declared.faults.PairFault.TheVariants.{OutOfRange, ZoneCounts}
use Rattle.sq_cpr.specs.Code.{CodeNumbers}
use Rattle.sq_cpr.specs.Span.{Span, air, ground}
use Rattle.sq_cpr.specs.Grid.{Point, IsGridPoint, HasCode, codes_of_zone, lat_zones, circle, latitude, longitude}
use Rattle.sq_cpr.specs.Near.{IsNear, IsStrictlyNear, IsRepresentative, half_zone, angle_at, IsNearLongitude}
use Rattle.sq_cpr.specs.Near.{IsNearPoint, IsStrictlyNearPoint}
use Rattle.sq_cpr.specs.Close.{IsClose, IsClosePair, zones_of, AreClosePoints, AreTamePoints}
use Rattle.sq_cpr.specs.Multiplied.{LiesWithin, LiesStrictlyWithin, LiesClose}
use Rattle.sq_cpr.specs.Local.{IsNearLatitude, LocalAnswer}
use Rattle.sq_cpr.specs.Pair.{CodePair, of_parity, HaveTwoCounts, AirPairAnswer, PairAnswer, PairAnswerAt}
use Rattle.sq_cpr.specs.Rounds.{PositionRoundsTo}
use Rattle.sq_cpr.specs.Slow.{AreSlow, AreSlowForFollowing, AreWithin, IsPointWithin}

-- the windows with fractions agree with their multiplied-out forms
pub record FractionsAgree (span : Span) : Type 0 where
  pub near : (zones : ℕ) (index : ℤ) (r : Fraction) → 0 < zones → LiesWithin 1 span.degrees zones index r
      ↔ IsNear (half_zone span.degrees zones) r (angle_at span.degrees zones index)
  pub strictly_near : (zones : ℕ) (index : ℤ) (r : Fraction) → 0 < zones → LiesStrictlyWithin span.degrees zones index r
      ↔ IsStrictlyNear (half_zone span.degrees zones) r (angle_at span.degrees zones index)
  pub representative : (zones : ℕ) (index : ℤ) (r : Fraction) → LiesWithin zones span.degrees zones index r
      ↔ IsRepresentative span.degrees r (angle_at span.degrees zones index)
  pub close : (n m : ℕ) (p q : ℤ) → 0 < n → 0 < m → LiesClose n m p q ↔ IsClose span.degrees n m p q

-- exactly one latitude index with this code is near a latitude
abbrev pub OneNearLatitude : Span → Type 0
OneNearLatitude span =
    (parity : Parity) (lat : Fraction) (code : ℕ) → 0 < lat.den
    → ExactlyOne (IsNearLatitude span.degrees parity lat code)

-- exactly one longitude index on the circle with this code is near a longitude, for any number of zones
abbrev pub OneNearLongitude : Span → Type 0
OneNearLongitude span =
    (zones : ℕ) (lon : Fraction) (code : ℕ) → 0 < zones → 0 < lon.den
    → ExactlyOne (λ (index : ℕ). (index < circle zones span.repeats) × IsCongruent codes_of_zone (pos index) (pos code)
    × IsNearLongitude span zones lon index)

-- decoding near a reference has at most one result
abbrev pub OneLocalAnswer : Span → Type 0
OneLocalAnswer span =
    (code : CodeNumbers) (parity : Parity) (lat lon : Fraction) (answer other : Result Point LocalFault) → 0 < lat.den
    → 0 < lon.den
    → LocalAnswer span code parity lat lon answer → LocalAnswer span code parity lat lon other
    → answer ≡ other

-- a strictly near point is near
abbrev pub StrictlyNearIsNear : Span → Type 0
StrictlyNearIsNear span = (lat lon : Fraction) (point : Point)
    → IsStrictlyNearPoint span lat lon point → IsNearPoint span lat lon point

-- a near point with the code is the result of local decoding
abbrev pub NearPointIsLocal : Span → Type 0
NearPointIsLocal span =
    (code : CodeNumbers) (parity : Parity) (lat lon : Fraction) (answer : Result Point LocalFault) (point : Point)
    → 0 < lat.den → 0 < lon.den
    → LocalAnswer span code parity lat lon answer
    → IsGridPoint span point → point.parity ≡ parity → HasCode point code
    → IsNearPoint span lat lon point → answer ≡ Ok point

-- a strictly near point with the code is the result of local decoding
abbrev pub StrictlyNearPointIsLocal : Span → Type 0
StrictlyNearPointIsLocal span =
    (code : CodeNumbers) (parity : Parity) (lat lon : Fraction) (answer : Result Point LocalFault) (point : Point)
    → 0 < lat.den → 0 < lon.den
    → LocalAnswer span code parity lat lon answer
    → IsGridPoint span point → point.parity ≡ parity → HasCode point code
    → IsStrictlyNearPoint span lat lon point → answer ≡ Ok point

-- the decoded point has the code and the parity that were given
abbrev pub LocalKeepsCode : Span → Type 0
LocalKeepsCode span =
    (code : CodeNumbers) (parity : Parity) (lat lon : Fraction) (point : Point)
    → LocalAnswer span code parity lat lon (Ok point) → (point.parity ≡ parity) × HasCode point code

-- an even and an odd index
pub record IndexPair : Type 0 where
  pub even : ℕ
  pub odd : ℕ

-- Any two codes have exactly one close pair on an even and an odd grid. Angles that differ by whole spans count as
-- one: each index is below the number of steps of a span.
abbrev pub HaveOneClosePair : (degrees even_zones odd_zones : ℕ) → Type 0
HaveOneClosePair degrees even_zones odd_zones =
    (even odd : ℕ) → ExactlyOne (λ (pair : IndexPair). (pair.even < even_zones * codes_of_zone)
    × (pair.odd < odd_zones * codes_of_zone)
    × IsClosePair degrees even_zones odd_zones even odd (pos pair.even) (pos pair.odd))

abbrev pub OneCloseLatitudes : Span → Type 0
OneCloseLatitudes span = HaveOneClosePair span.degrees (lat_zones Even) (lat_zones Odd)

abbrev pub OneCloseLongitudes : Span → Type 0
OneCloseLongitudes span =
    (count : ℕ) → 1 ≤ count → count ≤ 59 → HaveOneClosePair span.degrees (zones_of Even count) (zones_of Odd count)

-- if each grid has one zone, any two angles are close
abbrev pub OneZoneIsClose : Span → Type 0
OneZoneIsClose span = (p q : ℤ) → IsClose span.degrees 1 1 p q

-- decoding a pair has at most one result
abbrev pub OnePairAnswer : Span → Type 0
OnePairAnswer span =
    (codes : CodePair) (lat lon : Fraction) (answer other : Result Point PairFault)
    → 0 < lat.den → 0 < lon.den
    → PairAnswer span codes lat lon answer
    → PairAnswer span codes lat lon other → answer ≡ other

abbrev pub OneAirPairAnswer : Type 0
OneAirPairAnswer =
    (codes : CodePair) (answer other : Result Point PairFault)
    → AirPairAnswer codes answer → AirPairAnswer codes other → answer ≡ other

-- the decoded point has the newest code and parity
abbrev pub PairKeepsCode : Span → Type 0
PairKeepsCode span =
    (codes : CodePair) (lat lon : Fraction) (point : Point)
    → PairAnswer span codes lat lon (Ok point) → (point.parity ≡ codes.newest)
    × HasCode point (of_parity codes.newest codes.even codes.odd)

abbrev pub AirPairKeepsCode : Type 0
AirPairKeepsCode =
    (codes : CodePair) (point : Point)
    → AirPairAnswer codes (Ok point)
    → (point.parity ≡ codes.newest) × HasCode point (of_parity codes.newest codes.even codes.odd)

-- the codes of close airborne points decode to the newest point
abbrev pub CloseAirPointsAreAnswered : Type 0
CloseAirPointsAreAnswered =
    (codes : CodePair) (answer : Result Point PairFault) (a b : Point)
    → AirPairAnswer codes answer → IsGridPoint air a → IsGridPoint air b → HasCode a codes.even → HasCode b codes.odd
    → AreClosePoints air a b → answer ≡ Ok (of_parity codes.newest a b)

-- the codes of close surface points decode to the newest point if both lie less than 45 degrees from the site
abbrev pub CloseGroundPointsAreAnswered : Type 0
CloseGroundPointsAreAnswered =
    (codes : CodePair) (site : Position) (answer : Result Point PairFault) (a b : Point)
    → PairAnswerAt ground codes site answer
    → IsGridPoint ground a → IsGridPoint ground b → HasCode a codes.even → HasCode b codes.odd
    → AreClosePoints ground a b → IsPointWithin 45 ground a site → IsPointWithin 45 ground b site
    → answer ≡ Ok (of_parity codes.newest a b)

-- the result of decoding the codes of tame points a and b: the newest, or their zone counts if these differ; never
-- `OutOfRange`
abbrev pub TameAnswer : Span → Parity → Point → Point → Result Point PairFault → Type 0
TameAnswer span newest a b (Ok point) = point ≡ of_parity newest a b
TameAnswer span newest a b (Err OutOfRange) = ⊥
TameAnswer span newest a b (Err (ZoneCounts even_count odd_count)) =
    HaveTwoCounts span.degrees a.lat_index b.lat_index even_count odd_count

abbrev pub TameAirPointsAreAnswered : Type 0
TameAirPointsAreAnswered =
    (codes : CodePair) (answer : Result Point PairFault) (a b : Point)
    → AirPairAnswer codes answer → IsGridPoint air a → IsGridPoint air b → HasCode a codes.even → HasCode b codes.odd
    → AreTamePoints air a b → TameAnswer air codes.newest a b answer

abbrev pub TameGroundPointsAreAnswered : Type 0
TameGroundPointsAreAnswered =
    (codes : CodePair) (site : Position) (answer : Result Point PairFault) (a b : Point)
    → PairAnswerAt ground codes site answer
    → IsGridPoint ground a → IsGridPoint ground b → HasCode a codes.even → HasCode b codes.odd
    → AreTamePoints ground a b → IsPointWithin 45 ground a site → IsPointWithin 45 ground b site
    → TameAnswer ground codes.newest a b answer

-- slow positions round to tame points
abbrev pub SlowIsTame : Span → Type 0
SlowIsTame span =
    (x y : Position) (a b : Point) → PositionRoundsTo span x a → PositionRoundsTo span y b
    → a.parity ≡ Even → b.parity ≡ Odd
    → AreSlow span a b x y → AreTamePoints span a b

-- a position less than 44 degrees from the site rounds to a point less than 45 degrees from it
abbrev pub RoundsNearSite : Span → Type 0
RoundsNearSite span =
    (x site : Position) (point : Point) → PositionRoundsTo span x point → AreWithin 44 x site
    → IsPointWithin 45 span point site

-- positions that are slow for following round to points that are strictly near one another
abbrev pub FollowingIsNear : Span → Type 0
FollowingIsNear span =
    (x y : Position) (a b : Point) → PositionRoundsTo span x a → PositionRoundsTo span y b
    → AreSlowForFollowing span a b x y
    → IsStrictlyNearPoint span (latitude span b) (longitude span b) a
    × IsStrictlyNearPoint span (latitude span a) (longitude span a) b

-- decoding near a reference has a result
abbrev pub SomeLocalAnswer : Span → Type 0
SomeLocalAnswer span =
    (code : CodeNumbers) (parity : Parity) (lat lon : Fraction) → 0 < lat.den → 0 < lon.den
    → (answer : Result Point LocalFault) × LocalAnswer span code parity lat lon answer

-- decoding a pair at a place has a result
abbrev pub SomePairAnswer : Span → Type 0
SomePairAnswer span =
    (codes : CodePair) (lat lon : Fraction) → 0 < lat.den → 0 < lon.den
    → (answer : Result Point PairFault) × PairAnswer span codes lat lon answer

-- decoding an airborne pair has a result
abbrev pub SomeAirPairAnswer : Type 0
SomeAirPairAnswer = (codes : CodePair) → (answer : Result Point PairFault)
    × AirPairAnswer codes answer
