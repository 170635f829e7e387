use Rattle.std.proofs.Common.{◌∙◌, arith, refl, sym}
use Rattle.sq_feed.specs.Cells.{are_digits}
use Rattle.sq_feed.proofs.Numbers.{all_gone, digits_from, no_digits}
use Rattle.sq_feed.proofs.cells.are_digits.Goals as goal

pub loop-byte-preserved : goal.loop-byte-preserved
loop-byte-preserved c =
    c.loop-byte.invariant
    ∙ digits_from c.args.text.now c.loop-byte.byte-index c.loop-byte-test.true
    (sym c.is_ascii_digit.ensures.value ∙ c.if-not-is_ascii_digit.false)

pub returns-then-not-is_ascii_digit : goal.returns-then-not-is_ascii_digit
returns-then-not-is_ascii_digit c =
    sym (c.loop-byte.invariant
    ∙ no_digits c.args.text.now c.loop-byte.byte-index c.loop-byte-test.true
    (sym c.is_ascii_digit.ensures.value ∙ c.if-not-is_ascii_digit.true))

pub returns : goal.returns
returns c = sym (c.loop-byte.invariant ∙ all_gone are_digits refl c.args.text.now c.loop-byte.byte-index (omega arith))
