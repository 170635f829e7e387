use Rattle.std.proofs.Common.{◌≡◌, ◌∙◌, ◌*◌, ◌^◌, ◌<◌, ◌≤◌, ℤ, pos, neg_ℤ, arith, ◌+ℤ◌, ◌-ℤ◌, ◌*ℤ◌, unsigned_abs, to_z}
use Rattle.std.proofs.Common.{of_z, refl, ap}
use Rattle.std.proofs.lemmas.Int.{ints, to_z-of_z}
use Rattle.std.specs.Int.{w128, w32}
use Rattle.sq_angle.specs.Angle.{degrees}
use Rattle.sq_angle.specs.Scale.{scale-neg}
use Rattle.sq_angle.proofs.Sizes.{back, scaled_size, small_mag}
use Rattle.sq_cpr.specs.Grid.{codes_of_zone}
use Rattle.sq_cpr.specs.Multiplied.{apart, LiesWithin}
use Rattle.sq_cpr.proofs.Grids.Bits32.{back32}
use Rattle.sq_cpr.proofs.Grids.Indices.{settled, index_small}
use Rattle.sq_cpr.proofs.index.index_at.Goals as goal

back_by : (c : goal.After-scaled) → c.scaled.result ≡ pos (c.args.count * codes_of_zone) *ℤ c.turns-turns.result
back_by c = rw (back c.turns-turns.result c.turns-turns.type_inv) at c.scaled.ensures

back_size : (c : goal.After-scaled) → unsigned_abs c.scaled.result ≤ 60 * codes_of_zone * 2 ^ 102
back_size c = rw (back_by c) (scaled_size (c.args.count * codes_of_zone) (60 * codes_of_zone)
    (2 ^ 102) c.turns-turns.result (omega (arith, c.requires.count.1)) (omega (arith, c.turns-turns.ensures.small)))

pub overflow_sub-result : goal.overflow_sub-result
overflow_sub-result c = omega (arith, ints, back_size c)

answer : (c : goal.After-scaled) → ℤ
answer c = c.args.base +ℤ pos (c.args.count * codes_of_zone) *ℤ neg_ℤ c.turns-turns.result

wide_is : (c : goal.After-scaled)
    → to_z w128 (of_z w128 (to_z w128 (of_z w128 c.args.base) -ℤ to_z w128 (of_z w128 c.scaled.result))) ≡ answer c
unfolding answer
wide_is c =
    let e : to_z w128 (of_z w128 (to_z w128 (of_z w128 c.args.base) -ℤ to_z w128 (of_z w128 c.scaled.result)))
    ≡ c.args.base -ℤ c.scaled.result = omega (arith, ints, back_size c) in
    rw (e, back_by c, scale-neg (c.args.count * codes_of_zone) c.turns-turns.result) refl

within : (c : goal.After-scaled)
    → LiesWithin c.args.count c.args.span c.args.zones (answer c) (degrees c.args.reference.now)
unfolding answer
within c =
    let e : c.distance.result ≡ apart c.args.span c.args.zones c.args.base (degrees c.args.reference.now) =
    rw (to_z-of_z w128 c.args.base c.ranges.base) at c.distance.ensures.value in
    let b : to_z w128 (of_z w128 c.distance.result) ≡ c.distance.result = back c.distance.result c.distance.type_inv in
    rw (settled c.args.count (c.args.span * c.args.reference.now.den)
    (c.args.zones * codes_of_zone) c.args.base c.args.reference.now.num c.turns-turns.result)
    (rw (b, e, c.den.ensures) at c.turns-turns.ensures.above, rw (b, e, c.den.ensures) at c.turns-turns.ensures.below)

small : (c : goal.After-scaled) → unsigned_abs (answer c) < 2 ^ 31
small c =
    index_small c.args.count c.args.span c.args.zones (answer c)
    (degrees c.args.reference.now) c.requires.count.1 c.requires.zones_small c.requires.span.0
    c.args.reference.now.in_range.positive c.requires.reference_small (within c)

pub overflow_cast-result : goal.overflow_cast-result
overflow_cast-result c = rw (wide_is c) (record { sfits = small_mag (answer c) (2 ^ 31) (small c) })

result_is : (c : goal.After-scaled)
    → to_z w32 (of_z w32 (to_z w128
    (of_z w128 (to_z w128 (of_z w128 c.args.base) -ℤ to_z w128 (of_z w128 c.scaled.result))))) ≡ answer c
result_is c = ap (λ (z : ℤ). to_z w32 (of_z w32 z)) (wide_is c)
    ∙ back32 (answer c) (small_mag (answer c) (2 ^ 31) (small c))

pub returns-clause-congruent : goal.returns-clause-congruent
unfolding answer
returns-clause-congruent c = record { times = neg_ℤ c.turns-turns.result; apart = result_is c }

pub returns-clause-within : goal.returns-clause-within
returns-clause-within c = rw (result_is c) (within c)
