use Rattle.std.proofs.Common.{◌≡◌, ◌<◌, ◌^◌, take}
use Rattle.std.specs.Char.{IsAsciiDigit}
use Rattle.std.specs.List.{AllByRecursion}
use Rattle.std.specs.Str.Parse.{digits_value}
use Rattle.sq_text.proofs.timed.more_digits.Given as goal

abbrev pub invariant-loop-count : goal.invariant-loop-count
invariant-loop-count l = record {
  digits : AllByRecursion IsAsciiDigit (take l.count l.text);
  value : l.number ≡ digits_value 10 (take l.count l.text);
  small : l.number < 10 ^ l.count;
}
