use Rattle.std.proofs.Common.{◌≡◌, ℕ, ◌*◌, ◌<◌, ◌≤◌, ◌^◌, ℤ, pos, ◌+ℤ◌, ◌*ℤ◌, ◌≤ℤ◌, ◌<ℤ◌, unsigned_abs, to_z, of_z}
use Rattle.std.proofs.Common.{arith, ap, ap₂, sym, subst, ◌∙◌, subst₂, w64, mul-le-mul_right}
use Rattle.std.specs.Int.{w128}
use Rattle.std.proofs.lemmas.Int.{ints}
use Rattle.std.proofs.lemmas.Nat.{mul-le}
use Rattle.sq_angle.specs.declared.angle.Angle.{Angle}
use Rattle.sq_angle.specs.Angle.{degrees}
use Rattle.sq_angle.proofs.Rounding.{IsRounded, nearest_from_rounded}
use Rattle.sq_angle.proofs.Sizes.{mul_pos, scaled_size}
use Rattle.sq_cpr.proofs.Grids.Indices.{rounded_small}
use Rattle.sq_cpr.proofs.index.nearest_index.Goals as goal

-- Half a step, as the code computes it, has a bound.
half_small_of : (den span d s : ℕ) → d ≡ den → s ≡ span → den ≤ 1000000000000 → span ≤ 360
    → d * s ≤ 1000000000000 * 360
half_small_of den span d s same alike small few =
    omega (arith, ap₂ (λ (m n : ℕ). m * n) same alike, mul-le den span 1000000000000 360 small few)

pub overflow_mul-half : goal.overflow_mul-half
overflow_mul-half c =
    let small = half_small_of c.args.angle.now.den c.args.span c.den.result c.from.result c.den.ensures c.from.ensures
    c.args.angle.now.in_range.at_most c.requires.span_small in
    omega (arith, small)

pub scaled-steps-requires : goal.scaled-steps-requires
scaled-steps-requires c =
    let num : ℤ = c.args.angle.now.num in
    let value : to_z w128 (of_z w128 c.from-3.result) ≡ num =
    omega (arith, ints, c.args.angle.now.in_range.within, c.args.angle.now.in_range.at_most) in
    let wide : 2 * (c.from-2.result * 131072) * unsigned_abs num ≤ 2 * (60 * 131072) * (360 * 1000000000000) =
    mul-le (2 * (c.from-2.result * 131072)) (unsigned_abs num) (2 * (60 * 131072)) (360 * 1000000000000)
    (omega (arith, c.from-2.ensures, c.requires.zones_small))
    (omega (arith, c.args.angle.now.in_range.within, c.args.angle.now.in_range.at_most)) in
    subst (λ z. 2 * (c.from-2.result * 131072) * unsigned_abs z < 2 ^ 127) (sym value) (omega (arith, wide))

-- The steps, as the code scales them, have a bound.
steps_small : (zones : ℕ) (z steps : ℤ) → zones ≤ 60 → unsigned_abs z ≤ 360 * 1000000000000
    → steps ≡ pos (2 * (zones * 131072)) *ℤ z → unsigned_abs steps ≤ 2 * (60 * 131072) * (360 * 1000000000000)
steps_small zones z steps few small is =
    subst (λ s. unsigned_abs s ≤ 2 * (60 * 131072) * (360 * 1000000000000)) (sym is)
    (scaled_size (2 * (zones * 131072)) (2 * (60 * 131072)) (360 * 1000000000000) z (omega (arith, few)) small)

-- Both terms of the dividend, as the code computes them, have a bound; z is the numerator of the angle.
terms_small : (angle : Angle) (span zones d s n : ℕ) (z steps : ℤ) → span ≤ 360 → zones ≤ 60
    → d ≡ angle.den → s ≡ span → n ≡ zones → z ≡ angle.num → steps ≡ pos (2 * (n * 131072)) *ℤ z
    → (unsigned_abs steps ≤ 2 * (60 * 131072) * (360 * 1000000000000)) × (d * s ≤ 1000000000000 * 360)
terms_small angle span zones d s n z steps few below d_is s_is n_is z_is is = (
  steps_small n z steps (omega (arith, n_is, below))
      (subst (λ v. unsigned_abs v ≤ 360 * 1000000000000) (sym z_is)
      (omega (arith, angle.in_range.within, angle.in_range.at_most))) is,
  half_small_of angle.den span d s d_is s_is angle.in_range.at_most few,
)

pub overflow_add-steps : goal.overflow_add-steps
overflow_add-steps c =
    let angle = c.args.angle.now in
    let both = terms_small angle _ _ _ _ _ _ _ c.requires.span_small c.requires.zones_small c.den.ensures c.from.ensures
    c.from-2.ensures (omega (arith, ints, angle.in_range.within, angle.in_range.at_most)) c.scaled-steps.ensures in
    omega (arith, ints, both.0, both.1, c.from-4.ensures)

pub quotient_down-requires-clause-value_small : goal.quotient_down-requires-clause-value_small
quotient_down-requires-clause-value_small c =
    let angle = c.args.angle.now in
    let both = terms_small angle _ _ _ _ _ _ _ c.requires.span_small c.requires.zones_small c.den.ensures c.from.ensures
    c.from-2.ensures (omega (arith, ints, angle.in_range.within, angle.in_range.at_most)) c.scaled-steps.ensures in
    omega (arith, ints, both.0, both.1, c.from-4.ensures)

module _ (c : goal.After-quotient_down) where
  num : ℤ
  num = c.args.angle.now.num

  half : ℕ
  half = c.args.angle.now.den * c.args.span

  scaled : ℤ
  scaled = pos (2 * (c.args.zones * 131072)) *ℤ num

  scaled_small : unsigned_abs scaled ≤ 2 * (60 * 131072) * (360 * c.args.angle.now.den)
  unfolding scaled num
  scaled_small = scaled_size (2 * (c.args.zones * 131072)) (2 * (60 * 131072))
      (360 * c.args.angle.now.den) c.args.angle.now.num
      (omega (arith, c.requires.zones_small)) c.args.angle.now.in_range.within

  half_small : half ≤ 1000000000000 * 360
  unfolding half
  half_small = mul-le c.args.angle.now.den c.args.span 1000000000000 360 c.args.angle.now.in_range.at_most
      c.requires.span_small

  half_is : c.den.result * c.from.result ≡ half
  unfolding half
  half_is = ap₂ (λ (m n : ℕ). m * n) c.den.ensures c.from.ensures

  steps_is : c.scaled-steps.result ≡ scaled
  unfolding scaled num
  steps_is =
      let value : to_z w128 (of_z w128 c.from-3.result) ≡ c.args.angle.now.num =
      omega (arith, ints, c.args.angle.now.in_range.within, c.args.angle.now.in_range.at_most) in
      c.scaled-steps.ensures ∙ ap₂ (λ (n : ℕ) (z : ℤ). pos n *ℤ z) (ap (λ n. 2 * (n * 131072)) c.from-2.ensures) value

  sum_is : to_z w128 (of_z w128 (to_z w128 (of_z w128 c.scaled-steps.result) +ℤ to_z w128 (of_z w128 c.from-4.result)))
      ≡ scaled +ℤ pos half
  sum_is = omega (arith, ints, steps_is, half_is, half_small, scaled_small, c.args.angle.now.in_range.at_most)

  divisor_is : c.from-5.result ≡ half
  divisor_is = c.from-5.ensures ∙ half_is

  rounded : IsRounded scaled half c.quotient_down.result
  rounded =
      let q = c.quotient_down.result in record {
        from = subst₂ (λ (e : ℕ) (v : ℤ). (pos (2 * e) *ℤ q) ≤ℤ v) divisor_is sum_is c.quotient_down.ensures.reached;
        below = subst₂ (λ (e : ℕ) (v : ℤ). v <ℤ
            (pos (2 * e) *ℤ q +ℤ pos (2 * e))) divisor_is sum_is c.quotient_down.ensures.next;
      }

  small : unsigned_abs c.quotient_down.result < 2 ^ 40
  unfolding half
  small =
      let some : 0 < c.args.angle.now.den * c.args.span =
      mul_pos c.args.angle.now.den c.args.span c.args.angle.now.in_range.positive c.requires.span_some in
      let wide : 1 * c.args.angle.now.den ≤ c.args.span * c.args.angle.now.den =
      mul-le-mul_right c.args.angle.now.den c.requires.span_some in
      rounded_small scaled c.quotient_down.result (c.args.angle.now.den * c.args.span) some
      (omega (arith, scaled_small, wide)) rounded

pub overflow_cast-result : goal.overflow_cast-result
overflow_cast-result c = omega (arith, ints, small c)

narrowed : (c : goal.After-quotient_down)
    → to_z w64 (of_z w64 (to_z w128 (of_z w128 c.quotient_down.result))) ≡ c.quotient_down.result
narrowed c = omega (arith, ints, small c)

pub returns-clause-nearest : goal.returns-clause-nearest
unfolding scaled half num
returns-clause-nearest c =
    rw (narrowed c) (nearest_from_rounded (degrees c.args.angle.now) c.args.span
    (c.args.zones * 131072) c.quotient_down.result (rounded c))

pub returns-clause-small : goal.returns-clause-small
returns-clause-small c = rw (narrowed c) (small c)
