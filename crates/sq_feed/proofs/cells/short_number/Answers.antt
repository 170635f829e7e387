use Rattle.std.proofs.Common.{◌∙◌, ◌+◌, ◌*◌, ap, arith, get_or, refl, sym}
use Rattle.std.specs.Str.Parse.{digits_value}
use Rattle.std.proofs.lemmas.List.{take_all}
use Rattle.sq_feed.specs.Cells.{are_digits}
use Rattle.sq_feed.proofs.Numbers.{all_gone, below_19, below_next, digit_range, digits_from, next_digit, no_digits}
use Rattle.sq_feed.proofs.cells.short_number.Goals as goal

pub returns-then-not-is_ascii_digit : goal.returns-then-not-is_ascii_digit
returns-then-not-is_ascii_digit c =
    c.loop-byte.invariant.digits
    ∙ no_digits c.args.digits.now c.loop-byte.byte-index c.loop-byte-test.true
    (sym c.is_ascii_digit.ensures.value ∙ c.if-not-is_ascii_digit.true)

pub overflow_sub-byte : goal.overflow_sub-byte
overflow_sub-byte c =
    let digit = digit_range (get_or c.args.digits.now c.loop-byte.byte-index 0)
    (sym c.is_ascii_digit.ensures.value ∙ c.if-not-is_ascii_digit.false) in
    omega (arith, digit)

pub overflow_mul-number : goal.overflow_mul-number
overflow_mul-number c =
    let small = below_19 c.loop-byte.byte-index c.loop-byte.number (omega (arith, c.requires, c.loop-byte-test.true))
    c.loop-byte.invariant.small in
    omega (arith, small)

pub overflow_add-number : goal.overflow_add-number
overflow_add-number c =
    let small = below_19 c.loop-byte.byte-index c.loop-byte.number (omega (arith, c.requires, c.loop-byte-test.true))
    c.loop-byte.invariant.small in
    let digit = digit_range (get_or c.args.digits.now c.loop-byte.byte-index 0)
    (sym c.is_ascii_digit.ensures.value ∙ c.if-not-is_ascii_digit.false) in
    omega (arith, small, digit, c.from.ensures)

pub loop-byte-preserved : goal.loop-byte-preserved
loop-byte-preserved c =
    let digits = c.args.digits.now in
    let i = c.loop-byte.byte-index in
    let is = sym c.is_ascii_digit.ensures.value ∙ c.if-not-is_ascii_digit.false in
    let digit = digit_range (get_or digits i 0) is in record {
      digits = c.loop-byte.invariant.digits ∙ digits_from digits i c.loop-byte-test.true is;
      value = ap (λ d. c.loop-byte.number * 10 + d) c.from.ensures
          ∙ next_digit digits i c.loop-byte.number is c.loop-byte-test.true c.loop-byte.invariant.value;
      small = below_next i c.loop-byte.number c.from.result c.loop-byte.invariant.small
          (omega (arith, digit, c.from.ensures));
    }

pub returns : goal.returns
returns c =
    let digits = c.args.digits.now in
    let i = c.loop-byte.byte-index in (
      c.loop-byte.invariant.digits ∙ all_gone are_digits refl digits i (omega arith),
      c.loop-byte.invariant.value ∙ ap (digits_value 10) (take_all i digits (omega arith)),
    )
