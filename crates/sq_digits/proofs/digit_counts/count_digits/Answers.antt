use Rattle.std.proofs.Common.{◌<◌, ◌≤◌, sym, subst, get_or, take}
use Rattle.std.specs.Char.{IsAsciiDigit}
use Rattle.std.specs.List.{AllByRecursion}
use Rattle.sq_digits.proofs.CountedDigits.{all_is, run_digits, run_ends, run_few, some_is}
use Rattle.sq_digits.proofs.digit_counts.count_digits.Goals as goal

pub returns-then-others-eq0-clause-digits : goal.returns-then-others-eq0-clause-digits
returns-then-others-eq0-clause-digits c =
    let text = c.args.text.now in
    subst (λ n. AllByRecursion IsAsciiDigit (take n text)) (sym (all_is text c.requires.room c.if-others-eq0.true))
    (run_digits text c.requires.room c.type_inv.text)

pub returns-clause-few : goal.returns-clause-few
returns-clause-few c =
    let text = c.args.text.now in
    subst (λ n. n ≤ 16) (sym (some_is text c.requires.room c.if-others-eq0.false)) (run_few text c.requires.room)

pub returns-clause-digits : goal.returns-clause-digits
returns-clause-digits c =
    let text = c.args.text.now in
    subst (λ n. AllByRecursion IsAsciiDigit (take n text)) (sym (some_is text c.requires.room c.if-others-eq0.false))
    (run_digits text c.requires.room c.type_inv.text)

pub returns-clause-first : goal.returns-clause-first
returns-clause-first c =
    let text = c.args.text.now in
    subst (λ n. n < 16 → ¬ IsAsciiDigit (get_or text n 0)) (sym (some_is text c.requires.room c.if-others-eq0.false))
    (run_ends text c.requires.room)
