use Rattle.std.proofs.Common.{arith, ℕ, List, [], length, length-set, get_or, ◌<◌}
use Rattle.squitter_c.proofs.Steps.{no_place, one_answered, there}
use Rattle.squitter_c.specs.Many.{IsLocalAt}
use Rattle.squitter_c.specs.declared.plain.PlainPosition.{PlainPosition}
use Rattle.squitter_c.specs.Decoding.{IsLocal}
use Rattle.squitter_c.specs.Frames.{frame_of}
use Rattle.squitter_c.proofs.many.squitter_local_many.Goals as goal

pub loop-at-preserved : goal.loop-at-preserved
loop-at-preserved c =
    let i = c.loop-at.invariant in
    let has_frames : c.loop-at.at < length c.args.frames.now = omega (arith, c.loop-at-test.true, i.0) in
    let has_references : c.loop-at.at < length c.args.references.now = omega (arith, c.loop-at-test.true, i.1) in
    let room : c.loop-at.at < length c.loop-at.out = omega (arith, c.loop-at-test.true, i.2) in
    let slot : c.loop-at.at < length c.loop-at.faults = omega (arith, c.loop-at-test.true, i.3) in (
      i.0,
      i.1,
      search (arith, length-set, i.2),
      search (arith, length-set, i.3),
      one_answered (IsLocalAt c.args.frames.now c.args.references.now) c.args.out.now c.loop-at.out
          c.args.faults.now c.loop-at.faults c.loop-at.at
          i.4 room slot no_place c.squitter_local.new.out c.squitter_local.result
          (λ frame reference. there (λ (here : PlainPosition).
          IsLocal (frame_of (get_or c.args.frames.now c.loop-at.at frame)) here
          (get_or c.loop-at.out c.loop-at.at no_place) c.squitter_local.new.out c.squitter_local.result)
          c.args.references.now c.loop-at.at no_place reference has_references (
          there (λ (bytes : List ℕ). IsLocal (frame_of bytes) (get_or c.args.references.now c.loop-at.at no_place)
          (get_or c.loop-at.out c.loop-at.at no_place) c.squitter_local.new.out c.squitter_local.result)
          c.args.frames.now c.loop-at.at [] frame has_frames c.squitter_local.ensures)),
    )
