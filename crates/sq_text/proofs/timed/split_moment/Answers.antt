use Rattle.std.proofs.Common.{◌≡◌, ◌∙◌, ap, arith, get_or, length, subst, sym}
use Rattle.std.specs.Char.{IsAsciiDigit}
use Rattle.std.specs.List.{AllByRecursion}
use Rattle.std.proofs.Common.{take}
use Rattle.std.proofs.Math.Nat.{le_antisymm}
use Rattle.sq_text.proofs.Moments.{no_fewer, no_more, space_is, space_within}
use Rattle.sq_text.proofs.timed.split_moment.Goals.{else-count-gt0-via-then-count-gt0+then-count-text+else-text-count-eq32, else-count-gt0-via-then-count-gt0+else-count-text, else-count-gt0-via-else-count-gt0}
use Rattle.sq_text.proofs.timed.split_moment.Goals as goal

pub returns-then-count-clause-none : goal.returns-then-count-clause-none
returns-then-count-clause-none c rest moment line =
    let text = c.args.text.now in
    let count = c.leading_number-moment.result.1 in
    let fewer = no_fewer text rest moment line count c.leading_number-moment.ensures.digits in
    let within = space_within text rest moment line in
    let ends = c.leading_number-moment.ensures.last c.if-count.true (omega (arith, fewer, within)) in
    let same : length line.digits ≡ count = le_antisymm (no_more text rest moment line count ends) fewer in
    elim c.else-count-gt0.branch [
      | else-count-gt0-via-then-count-gt0+then-count-text+else-text-count-eq32 w ↦
          absurd (w.if-text-count-eq32.false (ap (λ n. get_or text n 0) (sym same) ∙ space_is text rest moment line))
      | else-count-gt0-via-then-count-gt0+else-count-text w ↦
          absurd (omega (arith, w.if-count-text.false, same, within))
      | else-count-gt0-via-else-count-gt0 w ↦
          absurd (omega (arith, w.if-count-gt0.false, same, line.of_moment.some))
    ]

pub split_longest-requires-clause-digits : goal.split_longest-requires-clause-digits
split_longest-requires-clause-digits c =
    let nineteen : c.leading_number-moment.result.1 ≡ 19 =
    omega (arith, c.if-count.false, c.leading_number-moment.ensures.few) in
    subst (λ n. AllByRecursion IsAsciiDigit (take n c.args.text.now)) nineteen c.leading_number-moment.ensures.digits
