use Rattle.std.proofs.Common.{◌≡◌, ◌+◌, ◌*◌, ◌<◌, ℕ, get_or, take, length, arith}
use Rattle.std.specs.Char.{digit_value}
use Rattle.std.specs.Str.Parse.{digits_value}
use Rattle.std.proofs.lemmas.Int.Digits.{digits_value_more}
use Rattle.std.proofs.lemmas.Str.{digit_value_digit}
use Rattle.sq_text.proofs.Moments.{digit_at, fits_more, pow_ten}
use Rattle.sq_text.proofs.timed.value_of.Goals as goal

pub loop-digit-preserved : goal.loop-digit-preserved
loop-digit-preserved c =
    let ds = c.args.digits.now in
    let i : ℕ = c.loop-digit.digit-index in
    let within : i < length ds = omega arith in
    let value : digit_value (get_or ds i 0) + 48 ≡ get_or ds i 0 =
    digit_value_digit (get_or ds i 0) (digit_at ds i c.requires.digits within) in
    let digit : c.from.result ≡ digit_value (get_or ds i 0) = omega (arith, c.from.ensures, value) in
    let more : digits_value 10 (take (i + 1) ds) ≡ digits_value 10 (take i ds) * 10 + digit_value (get_or ds i 0) =
    digits_value_more 10 ds i within in (
      omega (arith, more, digit, c.loop-digit.invariant.0),
      omega (arith, digit, value, pow_ten i, c.loop-digit.invariant.1, digit_at ds i c.requires.digits within),
    )

pub overflow_mul-value : goal.overflow_mul-value
overflow_mul-value c =
    let small = fits_more 18 c.loop-digit.digit-index c.loop-digit.value
    (omega (arith, c.loop-digit-test.true, c.requires.short)) c.loop-digit.invariant.1 in
    search (arith, small)

pub overflow_add-value : goal.overflow_add-value
overflow_add-value c =
    let ds = c.args.digits.now in
    let small = fits_more 18 c.loop-digit.digit-index c.loop-digit.value
    (omega (arith, c.loop-digit-test.true, c.requires.short)) c.loop-digit.invariant.1 in
    let digit = digit_at ds c.loop-digit.digit-index c.requires.digits (omega (arith, c.loop-digit-test.true)) in
    search (arith, small, digit, c.from.ensures)

pub returns-clause-small : goal.returns-clause-small
returns-clause-small c =
    fits_more 19 c.loop-digit.digit-index c.loop-digit.value
    (omega (arith, c.loop-digit.auto.digit-index-end, c.requires.short)) c.loop-digit.invariant.1
