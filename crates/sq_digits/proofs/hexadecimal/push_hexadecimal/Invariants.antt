use Rattle.std.proofs.Common.{◌≡◌, ◌+◌, ◌-◌, ◌*◌, ◌/◌, ◌^◌, ◌++◌}
use Rattle.sq_digits.specs.Buffer.{text_len}
use Rattle.sq_digits.specs.Digits.{hexadecimal}
use Rattle.sq_digits.proofs.hexadecimal.push_hexadecimal.Given as goal

abbrev pub invariant-loop-place : goal.invariant-loop-place
invariant-loop-place g l = record {
  bytes : l.text.bytes ≡ l.initial.text.bytes ++ hexadecimal l.place (l.number / 2 ^ (4 * (l.places - l.place)));
  len : text_len l.text ≡ text_len l.initial.text + l.place;
}
