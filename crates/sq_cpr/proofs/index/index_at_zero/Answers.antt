use Rattle.std.proofs.Common.{◌≡◌, ◌∙◌, ℕ, ◌*◌, ◌^◌, ◌<◌, ℤ, pos, neg_ℤ, arith, ◌-ℤ◌, ◌*ℤ◌, ◌≤ℤ◌, ◌<ℤ◌, to_z, of_z, refl}
use Rattle.std.proofs.lemmas.Int.{ints, to_z_pos}
use Rattle.std.specs.Int.{w64}
use Rattle.sq_angle.specs.Scale.{scale-neg}
use Rattle.sq_angle.proofs.Sizes.{back64}
use Rattle.sq_cpr.specs.Grid.{codes_of_zone}
use Rattle.sq_cpr.proofs.Grids.Indices.{settled_at_zero}
use Rattle.sq_cpr.proofs.index.index_at_zero.Goals as goal

period : (c : goal.After-rare_quotient) → ℕ
period c = c.args.count * codes_of_zone

taken : (c : goal.After-rare_quotient) → ℤ
taken c = pos (period c) *ℤ c.rare_quotient.result

taken_is : (c : goal.After-rare_quotient)
    → to_z w64 (c.args.count * codes_of_zone) *ℤ to_z w64 (of_z w64 c.rare_quotient.result) ≡ taken c
unfolding period taken
taken_is c =
    let small : c.args.count * codes_of_zone < 2 ^ 63 = omega (arith, c.requires.count_small) in
    rw (
      to_z_pos w64 (c.args.count * codes_of_zone) small,
      back64 c.rare_quotient.result (record { sfits = c.rare_quotient.type_inv }),
    ) refl

parts : (c : goal.After-rare_quotient)
    → (neg_ℤ (pos (period c)) <ℤ (pos 2 *ℤ (c.args.base -ℤ taken c)))
    × ((pos 2 *ℤ (c.args.base -ℤ taken c)) ≤ℤ pos (period c))
unfolding period taken
parts c = settled_at_zero (c.args.count * codes_of_zone) c.args.base c.rare_quotient.result (omega arith)
    (omega (arith, ints, c.rare_quotient.ensures.reached)) (omega (arith, ints, c.rare_quotient.ensures.next))

result_is : (c : goal.After-rare_quotient)
    → to_z w64 (of_z w64 (to_z w64 (of_z w64 c.args.base) -ℤ to_z w64
    (of_z w64 (to_z w64 (c.args.count * codes_of_zone) *ℤ to_z w64 (of_z w64 c.rare_quotient.result)))))
    ≡ c.args.base -ℤ taken c
unfolding period
result_is c = rw (taken_is c) (omega (arith, ints, parts c, c.requires.count_small))

pub returns-then-above-period-clause-congruent : goal.returns-then-above-period-clause-congruent
returns-then-above-period-clause-congruent c = record { times = pos 0; apart = omega (arith, ints) }

pub overflow_mul-result : goal.overflow_mul-result
unfolding period
overflow_mul-result c = rw (taken_is c) (omega (arith, ints, parts c, c.requires.count_small))

pub overflow_sub-result : goal.overflow_sub-result
unfolding period
overflow_sub-result c = rw (taken_is c) (omega (arith, ints, parts c, c.requires.count_small))

pub returns-clause-congruent : goal.returns-clause-congruent
unfolding period taken
returns-clause-congruent c =
    record {
      times = neg_ℤ c.rare_quotient.result;
      apart = result_is c ∙ omega (arith, ints, scale-neg (c.args.count * codes_of_zone) c.rare_quotient.result);
    }

pub returns-clause-above : goal.returns-clause-above
unfolding period
returns-clause-above c = rw (result_is c) (parts c).0

pub returns-clause-at_most : goal.returns-clause-at_most
unfolding period
returns-clause-at_most c = rw (result_is c) (parts c).1
