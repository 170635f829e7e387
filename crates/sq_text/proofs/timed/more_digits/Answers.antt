use Rattle.std.proofs.Common.{◌≡◌, ◌+◌, ◌<◌, ◌^◌, ℕ, List, ap, get_or, length, take, arith, rules}
use Rattle.std.specs.Char.{IsAsciiDigit, digit_value}
use Rattle.std.proofs.lemmas.Int.Digits.{digits_value_more}
use Rattle.std.proofs.lemmas.List.{length-take-le}
use Rattle.std.proofs.lemmas.Str.{digit_value_digit}
use Rattle.sq_text.proofs.LeadingDigits.{value_small}
use Rattle.sq_text.proofs.Moments.{digits_more, fits_more, pow_ten}
use Rattle.sq_text.proofs.timed.more_digits.Goals as goal

-- the byte that an iteration reads is a digit
is_digit : (c : goal.After-from) → IsAsciiDigit (get_or c.args.text.now c.loop-count.count 0)
is_digit c = search rules

pub loop-count-init : goal.loop-count-init
loop-count-init c =
    let text : List ℕ = c.args.text.now in
    let start : ℕ = c.args.start in
    let long = length-take-le start text c.requires.within in
    let below = value_small (take start text) c.requires.digits in
    record {
      digits = c.requires.digits;
      value = c.requires.value;
      small = omega (arith, c.requires.value, below, ap (λ n. 10 ^ n) long);
    }

pub overflow_mul-number : goal.overflow_mul-number
overflow_mul-number c =
    let small = fits_more 18 c.loop-count.count c.loop-count.number (omega arith) c.loop-count.invariant.small in
    search (arith, small)

pub overflow_add-number : goal.overflow_add-number
overflow_add-number c =
    let small = fits_more 18 c.loop-count.count c.loop-count.number (omega arith) c.loop-count.invariant.small in
    let digit = is_digit c in
    search (arith, small, digit, c.from.ensures)

pub loop-count-preserved : goal.loop-count-preserved
loop-count-preserved c =
    let text : List ℕ = c.args.text.now in
    let i : ℕ = c.loop-count.count in
    let within : i < length text = omega arith in
    let digit = is_digit c in
    let value : digit_value (get_or text i 0) + 48 ≡ get_or text i 0 = digit_value_digit (get_or text i 0) digit in
    let more = digits_value_more 10 text i within in
    record {
      digits = digits_more text i within c.loop-count.invariant.digits digit;
      value = omega (arith, more, value, c.from.ensures, c.loop-count.invariant.value);
      small = omega (arith, digit, value, pow_ten i, c.loop-count.invariant.small, c.from.ensures);
    }
