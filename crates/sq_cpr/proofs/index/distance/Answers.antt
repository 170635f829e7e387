use Rattle.std.proofs.Common.{◌≡◌, ◌*◌, ◌^◌, ◌≤◌, pos, arith, ◌-ℤ◌, ◌*ℤ◌, unsigned_abs, FitsSigned, to_z, of_z, refl}
use Rattle.std.proofs.lemmas.Int.{ints, to_z-of_z}
use Rattle.std.proofs.lemmas.Nat.{mul-le}
use Rattle.std.specs.Int.{w128, w64}
use Rattle.sq_angle.proofs.Sizes.{scaled_size}
use Rattle.sq_cpr.specs.Grid.{codes_of_zone}
use Rattle.sq_cpr.proofs.index.distance.Goals as goal

above_is : (c : goal.After-scaled-2) → c.scaled.result ≡ pos (c.args.span * c.args.reference.now.den) *ℤ c.args.index
above_is c = rw (to_z-of_z w128 c.args.index c.ranges.index, c.den.ensures) at c.scaled.ensures

below_is : (c : goal.After-scaled-2)
    → c.scaled-2.result ≡ pos (c.args.zones * codes_of_zone) *ℤ c.args.reference.now.num
below_is c =
    let b = c.args.reference.now.in_range in
    let f : FitsSigned w64 c.args.reference.now.num = omega (arith, ints, b.at_most, b.within) in
    let g : FitsSigned w128 c.args.reference.now.num = omega (arith, ints, b.at_most, b.within) in
    rw (
      c.num.ensures,
      to_z-of_z w64 c.args.reference.now.num f,
      to_z-of_z w128 c.args.reference.now.num g,
    ) at c.scaled-2.ensures

above_size : (c : goal.After-scaled-2) → unsigned_abs c.scaled.result ≤ 360 * 1000000000000 * 2 ^ 44
above_size c =
    rw (above_is c) (scaled_size (c.args.span * c.args.reference.now.den) (360 * 1000000000000) (2 ^ 44) c.args.index
    (mul-le c.args.span c.args.reference.now.den 360 1000000000000 c.requires.span_small
    c.args.reference.now.in_range.at_most) (omega arith))

below_size : (c : goal.After-scaled-2) → unsigned_abs c.scaled-2.result ≤ 60 * codes_of_zone * (360 * 1000000000000)
below_size c =
    let b = c.args.reference.now.in_range in
    rw (below_is c) (scaled_size (c.args.zones * codes_of_zone) (60 * codes_of_zone)
    (360 * 1000000000000) c.args.reference.now.num (omega (arith, c.requires.zones_small))
    (omega (arith, b.at_most, b.within)))

pub overflow_sub-result : goal.overflow_sub-result
overflow_sub-result c = omega (arith, ints, above_size c, below_size c)

difference : (c : goal.After-scaled-2)
    → to_z w128 (of_z w128 (to_z w128 (of_z w128 c.scaled.result) -ℤ to_z w128 (of_z w128 c.scaled-2.result)))
    ≡ c.scaled.result -ℤ c.scaled-2.result
difference c = omega (arith, ints, above_size c, below_size c)

pub returns-clause-value : goal.returns-clause-value
returns-clause-value c = rw (difference c, above_is c, below_is c) refl

pub returns-clause-small : goal.returns-clause-small
returns-clause-small c = rw (difference c) (omega (arith, ints, above_size c, below_size c))
