use Rattle.std.proofs.Common.{◌≡◌, drop}
use Rattle.sq_feed.specs.Avr.{avr_found, avr_to_come}
use Rattle.sq_feed.specs.Finding.{has_frame}
use Rattle.sq_feed.proofs.signs.has_frame.Given as goal

abbrev pub invariant-loop-byte : goal.invariant-loop-byte
invariant-loop-byte l = has_frame (avr_found l.text) ≡ has_frame (avr_to_come l.avr (drop l.byte-index l.text))
