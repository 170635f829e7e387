use Rattle.std.proofs.Common.{◌≡◌, map, length}
use Rattle.std.specs.List.{range_with_len}
use Rattle.sq_feed.specs.Avr.{byte_at}
use Rattle.sq_feed.proofs.avr.bytes_of.Given as goal

abbrev pub invariant-loop-k : goal.invariant-loop-k
invariant-loop-k l = (l.bytes.items ≡ map (byte_at l.digits) (range_with_len 0 l.k)) × (length l.bytes.items ≡ l.k)
