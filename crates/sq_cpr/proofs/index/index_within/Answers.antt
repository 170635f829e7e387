use Rattle.std.proofs.Common.{◌≡◌, arith, to_z, of_z}
use Rattle.std.proofs.lemmas.Int.{ints}
use Rattle.std.specs.Int.{w32}
use Rattle.sq_angle.specs.Angle.{degrees}
use Rattle.sq_cpr.proofs.Grids.Indices.{within_at_zero}
use Rattle.sq_cpr.proofs.index.index_within.Goals as goal

pub returns-then-num-eq0-clause-within : goal.returns-then-num-eq0-clause-within
returns-then-num-eq0-clause-within c =
    let e : to_z w32 (of_z w32 c.index_at_zero.result) ≡ c.index_at_zero.result =
    omega (arith, ints, c.index_at_zero.ensures.above, c.index_at_zero.ensures.at_most, c.requires.count.1) in
    within_at_zero c.args.count c.args.span c.args.zones _ (degrees c.args.reference.now)
    (omega (arith, ints, c.if-num-eq0.true, c.num.ensures, c.num.type_inv))
    c.requires.span.0 c.args.reference.now.in_range.positive
    (omega (arith, ints, e, c.index_at_zero.ensures.above)) (omega (arith, ints, e, c.index_at_zero.ensures.at_most))
