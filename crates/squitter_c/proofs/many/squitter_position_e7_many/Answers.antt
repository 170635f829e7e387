use Rattle.std.proofs.Common.{arith, length, length-set, get_or, ◌<◌}
use Rattle.squitter_c.proofs.Blanks.{no_degrees}
use Rattle.squitter_c.proofs.Steps.{one_answered, there}
use Rattle.squitter_c.specs.Many.{IsE7At}
use Rattle.squitter_c.proofs.Steps.{no_place}
use Rattle.squitter_c.specs.declared.plain.PlainPosition.{PlainPosition}
use Rattle.squitter_c.specs.E7.{IsPositionE7}
use Rattle.squitter_c.proofs.many.squitter_position_e7_many.Goals as goal

pub loop-at-preserved : goal.loop-at-preserved
loop-at-preserved c =
    let i = c.loop-at.invariant in
    let has_positions : c.loop-at.at < length c.args.positions.now = omega (arith, c.loop-at-test.true, i.0) in
    let room : c.loop-at.at < length c.loop-at.out = omega (arith, c.loop-at-test.true, i.1) in
    let slot : c.loop-at.at < length c.loop-at.faults = omega (arith, c.loop-at-test.true, i.2) in (
      i.0,
      search (arith, length-set, i.1),
      search (arith, length-set, i.2),
      one_answered (IsE7At c.args.positions.now) c.args.out.now c.loop-at.out c.args.faults.now c.loop-at.faults
          c.loop-at.at
          i.3 room slot no_degrees c.squitter_position_e7.new.out c.squitter_position_e7.result
          (λ position. there (λ (here : PlainPosition). IsPositionE7 here
          (get_or c.loop-at.out c.loop-at.at no_degrees) c.squitter_position_e7.new.out c.squitter_position_e7.result)
          c.args.positions.now c.loop-at.at no_place position has_positions c.squitter_position_e7.ensures),
    )
