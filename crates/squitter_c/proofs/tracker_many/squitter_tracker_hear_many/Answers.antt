use Rattle.std.proofs.Common.{arith, ℕ, List, [], length, length-set, get_or, option_map, refl, slice_index, ◌<◌}
use Rattle.squitter_c.proofs.Steps.{leads_on, no_heard, one_below, there}
use Rattle.squitter_c.specs.Frames.{frame_of}
use Rattle.squitter_c.specs.Trackers.{IsHeardThere, IsTrackerHeard}
use Rattle.squitter_c.proofs.tracker_many.squitter_tracker_hear_many.Goals as goal

pub loop-at-init : goal.loop-at-init
loop-at-init c = (
  omega (arith, c.min-count.ensures, c.min.ensures, c.min-2.ensures),
  omega (arith, c.min-count.ensures, c.min.ensures, c.min-2.ensures),
  omega (arith, c.min-count.ensures, c.min.ensures, c.min-2.ensures),
  omega (arith, c.min-count.ensures, c.min.ensures, c.min-2.ensures),
  record { long = (refl, refl); rest = λ k past b d. (refl, refl) },
  refl,
)

pub loop-at-preserved : goal.loop-at-preserved
loop-at-preserved c =
    let i = c.loop-at.invariant in
    let at = c.loop-at.at in
    let has_frames : at < length c.args.frames.now = omega (arith, c.loop-at-test.true, i.1) in
    let room : at < length c.loop-at.out = omega (arith, c.loop-at-test.true, i.2) in
    let slot : at < length c.loop-at.faults = omega (arith, c.loop-at-test.true, i.3) in
    let heard = IsHeardThere c.args.moments.now c.args.frames.now in
    let old = option_map (λ b. b.value) c.loop-at.held in
    let new = option_map (λ b. b.value) c.hear_in.new.held in (
      i.0,
      i.1,
      search (arith, length-set, i.2),
      search (arith, length-set, i.3),
      one_below c.args.out.now c.loop-at.out c.args.faults.now c.loop-at.faults at
          i.4 c.hear_in.new.out c.hear_in.result,
      leads_on heard (option_map (λ b. b.value) c.take-held.result) c.args.out.now c.loop-at.out c.args.faults.now
          c.loop-at.faults at
          old new i.4 i.5 room slot no_heard c.hear_in.new.out c.hear_in.result
          (λ frame. there (λ (bytes : List ℕ). IsTrackerHeard (slice_index c.args.moments.now at) (frame_of bytes)
          old new (get_or c.loop-at.out at no_heard) c.hear_in.new.out
          c.hear_in.result)
          c.args.frames.now at [] frame has_frames c.hear_in.ensures),
    )
