use Rattle.std.proofs.Common.{◌≡◌, ap, ◌∙◌, arith}
use Rattle.std.specs.Int.{to_be_bytes, to_le_bytes, w16, w32, w64}
use Rattle.sq_bits.proofs.Digits.{three_words, turned_2, turned_4, turned_8}
use Rattle.sq_bits.proofs.frame.Frame.from_parts.Goals as goal

first_is : (c : goal.After-to_le_bytes-last) → c.to_le_bytes-first.result ≡ to_be_bytes w64 c.args.first
first_is c = c.to_le_bytes-first.ensures ∙ ap (to_le_bytes w64) c.swap_bytes.ensures ∙ turned_8 c.args.first

middle_is : (c : goal.After-to_le_bytes-last) → c.to_le_bytes-middle.result ≡ to_be_bytes w32 c.args.middle
middle_is c = c.to_le_bytes-middle.ensures ∙ ap (to_le_bytes w32) c.swap_bytes-2.ensures ∙ turned_4 c.args.middle

last_is : (c : goal.After-to_le_bytes-last) → c.to_le_bytes-last.result ≡ to_be_bytes w16 c.args.last
last_is c = c.to_le_bytes-last.ensures ∙ ap (to_le_bytes w16) c.swap_bytes-3.ensures ∙ turned_2 c.args.last

pub returns-clause-value : goal.returns-clause-value
returns-clause-value c =
    rw (first_is c, middle_is c, last_is c)
    (three_words c.args.first c.args.middle c.args.last c.ranges.first.fits c.ranges.middle.fits c.ranges.last.fits)

pub returns-clause-frame : goal.returns-clause-frame
returns-clause-frame c = rw (first_is c, middle_is c, last_is c) (omega arith)
