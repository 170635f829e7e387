use Rattle.std.proofs.Common.{[], take}
use Rattle.sq_feed.specs.Avr.{AreHex, avr_to_come}
use Rattle.sq_feed.specs.Follows.{Follows}
use Rattle.sq_feed.proofs.avr.Avr.take_bytes.Given as goal

abbrev pub invariant-loop-at : goal.invariant-loop-at
invariant-loop-at l =
    AreHex l.self.digits × Follows (avr_to_come l.initial.self) (take l.at l.piece) [] (avr_to_come l.self)
