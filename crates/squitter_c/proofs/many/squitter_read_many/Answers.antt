use Rattle.std.proofs.Common.{arith, ℕ, List, [], length, length-set, get_or, ◌<◌}
use Rattle.squitter_c.proofs.Blanks.{no_fields}
use Rattle.squitter_c.proofs.Steps.{one_answered, there}
use Rattle.squitter_c.specs.Many.{IsReadAt}
use Rattle.squitter_c.specs.Reading.{IsFrameRead}
use Rattle.squitter_c.specs.Frames.{frame_of}
use Rattle.squitter_c.proofs.many.squitter_read_many.Goals as goal

pub loop-at-preserved : goal.loop-at-preserved
loop-at-preserved c =
    let i = c.loop-at.invariant in
    let has_frames : c.loop-at.at < length c.args.frames.now = omega (arith, c.loop-at-test.true, i.0) in
    let room : c.loop-at.at < length c.loop-at.out = omega (arith, c.loop-at-test.true, i.1) in
    let slot : c.loop-at.at < length c.loop-at.faults = omega (arith, c.loop-at-test.true, i.2) in (
      i.0,
      search (arith, length-set, i.1),
      search (arith, length-set, i.2),
      one_answered (IsReadAt c.args.frames.now) c.args.out.now c.loop-at.out c.args.faults.now c.loop-at.faults
          c.loop-at.at
          i.3 room slot no_fields c.squitter_read_frame.new.out c.squitter_read_frame.result
          (λ frame. there (λ (bytes : List ℕ). IsFrameRead (frame_of bytes)
          (get_or c.loop-at.out c.loop-at.at no_fields) c.squitter_read_frame.new.out c.squitter_read_frame.result)
          c.args.frames.now c.loop-at.at [] frame has_frames c.squitter_read_frame.ensures),
    )
