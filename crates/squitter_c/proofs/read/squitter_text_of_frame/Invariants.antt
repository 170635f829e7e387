use Rattle.std.proofs.Common.{◌≡◌, ◌*◌, ◌++◌, take, drop, length}
use Rattle.hex.specs.Hex.{encode_upper}
use Rattle.squitter_c.proofs.read.squitter_text_of_frame.Given as goal

abbrev pub invariant-loop-place : goal.invariant-loop-place
invariant-loop-place l =
    (length l.out ≡ 28) × (take (2 * l.place) l.out ++ encode_upper (drop l.place l.frame) ≡ encode_upper l.frame)
