use Rattle.std.proofs.Common.{◌≡◌, drop}
use Rattle.sq_feed.specs.Avr.{are_hex}
use Rattle.sq_feed.proofs.avr.are_hex.Given as goal

abbrev pub invariant-loop-byte : goal.invariant-loop-byte
invariant-loop-byte l = are_hex l.word ≡ are_hex (drop l.byte-index l.word)
