-- Exactly one of the indices that lie `count` zones apart is within half of `count` zones of a reference.
use Rattle.std.proofs.Common.{◌≡◌, ℕ, ◌*◌, ◌<◌, refl, ap, arith, ℤ, pos, neg_ℤ, ◌+ℤ◌, ◌*ℤ◌, ◌≤ℤ◌, ◌<ℤ◌, ◌∙◌}
use Rattle.std.proofs.lemmas.Int.{ints}
use Rattle.sq_angle.specs.Fraction.{Fraction}
use Rattle.sq_angle.specs.Whole.{ExactlyOne, IsCongruent}
use Rattle.sq_angle.specs.Scale.{scales}
use Rattle.sq_angle.proofs.Windows.{one_upper}
use Rattle.sq_angle.proofs.Sizes.{mul_pos}
use Rattle.sq_cpr.specs.Grid.{codes_of_zone}
use Rattle.sq_cpr.specs.Multiplied.{apart, LiesWithin}

-- twice the distance from the reference to the index j * `count` zones above the base
pub shifted : (count degrees zones : ℕ) (base : ℤ) (r : Fraction) (j : ℤ) →
    (pos 2 *ℤ apart degrees zones base r) +ℤ pos (2 * (count * codes_of_zone * (degrees * r.den))) *ℤ j
    ≡ pos 2 *ℤ apart degrees zones (base +ℤ pos (count * codes_of_zone) *ℤ j) r
shifted count degrees zones base r j = simp scales (omega (arith, ints))

pub one_within : (count degrees zones : ℕ) (base : ℤ) (r : Fraction) → 0 < count → 0 < degrees → 0 < r.den →
    ExactlyOne (λ (index : ℤ). IsCongruent (count * codes_of_zone) index base × LiesWithin count degrees zones index r)
one_within count degrees zones base r o p q =
    let width : ℕ = count * codes_of_zone * (degrees * r.den) in
    let start : ℤ = pos 2 *ℤ apart degrees zones base r in
    let positive : 0 < width = mul_pos (count * codes_of_zone) (degrees * r.den) (omega arith)
    (mul_pos degrees r.den p q) in
    let one : ExactlyOne (λ (j : ℤ). (neg_ℤ (pos width) <ℤ (start +ℤ pos (2 * width) *ℤ j))
    × ((start +ℤ pos (2 * width) *ℤ j) ≤ℤ pos width)) = one_upper width start positive in (
      base +ℤ pos (count * codes_of_zone) *ℤ one.0,
      (record { times = one.0; apart = refl }, rw (shifted count degrees zones base r one.0) at one.1),
      λ y (w : IsCongruent (count * codes_of_zone) y base × LiesWithin count degrees zones y r).
          let near : LiesWithin count degrees zones (base +ℤ pos (count * codes_of_zone) *ℤ w.0.times) r =
          rw w.0.apart at w.1 in
          w.0.apart ∙ ap (λ (j : ℤ). base +ℤ pos (count * codes_of_zone) *ℤ j)
          (one.2 w.0.times (rw (shifted count degrees zones base r w.0.times) near)),
    )
