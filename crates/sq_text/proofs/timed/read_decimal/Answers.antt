use Rattle.std.proofs.Common.{◌≡◌, ◌+◌, ◌-◌, ◌*◌, ◌<◌, ◌≤◌, ℕ, List, get_or, take, length, arith, ap, rules}
use Rattle.std.specs.Char.{IsAsciiDigit}
use Rattle.std.specs.List.{AllByRecursion}
use Rattle.std.specs.Str.Parse.{digits_value}
use Rattle.std.proofs.lemmas.Int.Digits.{digits_value_more}
use Rattle.std.proofs.lemmas.List.{length-take-le, take_all}
use Rattle.std.proofs.lemmas.Str.{digit_value_digit}
use Rattle.sq_text.proofs.Moments.{digit_at}
use Rattle.sq_text.proofs.timed.read_decimal.Goals as goal

-- the number of digits is ten times that of all but the last, plus the last
with_last : (ds : List ℕ) → 1 ≤ length ds → AllByRecursion IsAsciiDigit ds
    → 10 * digits_value 10 (take (length ds - 1) ds) + (get_or ds (length ds - 1) 0 - 48) ≡ digits_value 10 ds
with_last ds some each =
    let i = length ds - 1 in
    let within : i < length ds = omega (arith, some) in
    let value = digit_value_digit (get_or ds i 0) (digit_at ds i each within) in
    let full : take (i + 1) ds ≡ ds = take_all (i + 1) ds (omega (arith, some)) in
    omega (arith, digits_value_more 10 ds i within, value, ap (digits_value 10) full)

pub returns-then-value-from-clause-none : goal.returns-then-value-from-clause-none
returns-then-value-from-clause-none c number is =
    let whole = with_last c.args.digits.now c.in-len1-up.len_at_least is.each in
    omega (
      arith,
      whole,
      is.value,
      is.small,
      c.if-value-from.true,
      c.from-3.ensures,
      c.from-2.ensures,
      c.from.ensures,
      c.value_of.ensures.value,
    )

pub returns-clause-some : goal.returns-clause-some
returns-clause-some c =
    let each : AllByRecursion IsAsciiDigit c.args.digits.now = search rules in
    let whole = with_last c.args.digits.now c.in-len1-up.len_at_least each in
    let front = length-take-le (length c.args.digits.now - 1) c.args.digits.now (omega arith) in
    record {
      some = c.in-len1-up.len_at_least;
      twenty = omega (arith, c.if-front-ge-DIGITS.false, front);
      each = each;
      value = omega (arith, whole, c.from-2.ensures, c.from.ensures, c.value_of.ensures.value);
      small = omega (arith, c.if-value-from.false, c.from-3.ensures);
    }
