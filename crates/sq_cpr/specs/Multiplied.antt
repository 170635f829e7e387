-- The windows of `Near` and `Close` with their denominators multiplied out: the form that bodies and proofs cite. The
-- law `fractions_agree` says that each means the same as the definition with fractions.
use Rattle.std.specs.Prelude.{ℕ, ◌*◌, ℤ, pos, neg_ℤ, ◌+ℤ◌, ◌-ℤ◌, ◌*ℤ◌, ◌≤ℤ◌, ◌<ℤ◌}
use Rattle.sq_angle.specs.Fraction.{Fraction}
use Rattle.sq_cpr.specs.Grid.{codes_of_zone}

-- how far the angle of the index lies above r, with both denominators multiplied out
abbrev pub apart : (degrees zones : ℕ) → (index : ℤ) → Fraction → ℤ
apart degrees zones index r = pos (degrees * r.den) *ℤ index -ℤ pos (zones * codes_of_zone) *ℤ r.num

-- the angle of the index lies in (r - h, r + h], where 2h is as wide as `count` zones
abbrev pub LiesWithin : (count degrees zones : ℕ) → (index : ℤ) → Fraction → Type 0
LiesWithin count degrees zones index r =
    let width = pos (count * codes_of_zone * (degrees * r.den)) in
    (neg_ℤ width <ℤ (pos 2 *ℤ apart degrees zones index r)) × ((pos 2 *ℤ apart degrees zones index r) ≤ℤ width)

-- the angle of the index lies in (r - h, r + h), where 2h is as wide as one zone
abbrev pub LiesStrictlyWithin : (degrees zones : ℕ) → (index : ℤ) → Fraction → Type 0
LiesStrictlyWithin degrees zones index r =
    let width = pos (codes_of_zone * (degrees * r.den)) in
    (neg_ℤ width <ℤ (pos 2 *ℤ apart degrees zones index r)) × ((pos 2 *ℤ apart degrees zones index r) <ℤ width)

-- the angles of p and q are close: -k ≤ p - q + turns*W < k, multiplied out so that W cancels
abbrev pub LiesClose : (even_zones odd_zones : ℕ) → (p q : ℤ) → Type 0
LiesClose even_zones odd_zones p q = (turns : ℤ) ×
    (let between = pos odd_zones *ℤ p -ℤ pos even_zones *ℤ q
    +ℤ pos (even_zones * odd_zones * codes_of_zone) *ℤ turns in
    (neg_ℤ (pos codes_of_zone) ≤ℤ (pos 2 *ℤ between)) × ((pos 2 *ℤ between) <ℤ pos codes_of_zone))

-- The standard's j, for latitudes, and m, for longitudes: the whole number nearest to (odd_zones * even - even_zones
-- * odd) / 2^17, halves rounded up.
pub record IsZoneIndex (even_zones odd_zones even odd : ℕ) (j : ℤ) : Type 0 where
  pub from : neg_ℤ (pos codes_of_zone)
      ≤ℤ (pos 2 *ℤ (pos (odd_zones * even) -ℤ pos (even_zones * odd) -ℤ pos codes_of_zone *ℤ j))
  pub below : (pos 2 *ℤ (pos (odd_zones * even) -ℤ pos (even_zones * odd) -ℤ pos codes_of_zone *ℤ j))
      <ℤ pos codes_of_zone
