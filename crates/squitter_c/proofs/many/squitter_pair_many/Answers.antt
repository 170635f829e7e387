use Rattle.std.proofs.Common.{arith, ℕ, List, [], length, length-set, get_or, ◌<◌}
use Rattle.squitter_c.proofs.Steps.{no_place, one_answered, there}
use Rattle.squitter_c.specs.Many.{IsPairThere}
use Rattle.squitter_c.specs.Decoding.{IsPair}
use Rattle.squitter_c.specs.Frames.{frame_of}
use Rattle.squitter_c.proofs.many.squitter_pair_many.Goals as goal

pub loop-at-preserved : goal.loop-at-preserved
loop-at-preserved c =
    let i = c.loop-at.invariant in
    let has_older : c.loop-at.at < length c.args.older.now = omega (arith, c.loop-at-test.true, i.0) in
    let has_newer : c.loop-at.at < length c.args.newer.now = omega (arith, c.loop-at-test.true, i.1) in
    let room : c.loop-at.at < length c.loop-at.out = omega (arith, c.loop-at-test.true, i.2) in
    let slot : c.loop-at.at < length c.loop-at.faults = omega (arith, c.loop-at-test.true, i.3) in (
      i.0,
      i.1,
      search (arith, length-set, i.2),
      search (arith, length-set, i.3),
      one_answered (IsPairThere c.args.older.now c.args.newer.now) c.args.out.now c.loop-at.out c.args.faults.now
          c.loop-at.faults c.loop-at.at
          i.4 room slot no_place c.squitter_pair.new.out c.squitter_pair.result
          (λ frame. there (λ (bytes : List ℕ).
          IsPair (frame_of (get_or c.args.older.now c.loop-at.at frame)) (frame_of bytes)
          (get_or c.loop-at.out c.loop-at.at no_place) c.squitter_pair.new.out c.squitter_pair.result)
          c.args.newer.now c.loop-at.at [] frame has_newer (
          there (λ (bytes : List ℕ). IsPair (frame_of bytes) (frame_of (get_or c.args.newer.now c.loop-at.at []))
          (get_or c.loop-at.out c.loop-at.at no_place) c.squitter_pair.new.out c.squitter_pair.result)
          c.args.older.now c.loop-at.at [] frame has_older c.squitter_pair.ensures)),
    )
