use Rattle.std.proofs.Common.{◌≡◌, ◌<◌, ◌^◌, drop, take}
use Rattle.std.specs.Str.Parse.{digits_value}
use Rattle.sq_feed.specs.Cells.{are_digits}
use Rattle.sq_feed.proofs.cells.short_number.Given as goal

abbrev pub invariant-loop-byte : goal.invariant-loop-byte
invariant-loop-byte l = record {
  digits : are_digits l.digits ≡ are_digits (drop l.byte-index l.digits);
  value : l.number ≡ digits_value 10 (take l.byte-index l.digits);
  small : l.number < 10 ^ l.byte-index;
}
