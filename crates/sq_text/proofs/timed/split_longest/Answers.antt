use Rattle.std.proofs.Common.{◌≡◌, ◌<◌, ◌-◌, ◌∙◌, ◌++◌, ◌∷◌, ap, ap₂, arith, drop, get_or, length, subst, sym, take}
use Rattle.std.proofs.Math.Seq.{drop-cons}
use Rattle.std.proofs.lemmas.List.{length-drop, take-append-drop, take_all}
use Rattle.sq_text.specs.Timed.{IsDecimalText}
use Rattle.sq_text.proofs.Moments.{digits_are, space_is, space_within, twenty_digits}
use Rattle.sq_text.proofs.timed.split_longest.Goals.{then-text-le-DIGITS-via-then-text-le-DIGITS, then-text-le-DIGITS-via-else-text-le-DIGITS+then-text-ne32}
use Rattle.sq_text.proofs.timed.split_longest.Goals as goal

pub returns-then-text-le-DIGITS-clause-none : goal.returns-then-text-le-DIGITS-clause-none
returns-then-text-le-DIGITS-clause-none c rest moment line =
    let text = c.args.text.now in
    let twenty = twenty_digits text rest moment line c.requires.digits c.requires.apart in
    let within = space_within text rest moment line in
    let space : get_or text 20 0 ≡ 32 = ap (λ n. get_or text n 0) (sym twenty) ∙ space_is text rest moment line in
    elim c.then-text-le-DIGITS.branch [
      | then-text-le-DIGITS-via-then-text-le-DIGITS w ↦ absurd (omega (arith, w.if-text-le-DIGITS.true, within, twenty))
      | then-text-le-DIGITS-via-else-text-le-DIGITS+then-text-ne32 w ↦ absurd (w.if-text-ne32.true space)
    ]

pub returns-in-None-clause-none : goal.returns-in-None-clause-none
returns-in-None-clause-none c rest moment line =
    let text = c.args.text.now in
    let twenty = twenty_digits text rest moment line c.requires.digits c.requires.apart in
    let digits = digits_are text rest moment line ∙ ap (λ n. take n text) twenty in
    c.in-None.ensures.none moment (subst (λ ds. IsDecimalText ds moment) digits line.of_moment)

pub returns-in-Some-clause-some : goal.returns-in-Some-clause-some
returns-in-Some-clause-some c =
    let text = c.args.text.now in
    let long : 20 < length text = omega arith in
    record {
      digits = take 20 text;
      of_moment = c.in-Some.ensures.some;
      whole = sym (take-append-drop 20 text)
          ∙ ap (λ l. take 20 text ++ l) (drop-cons text 20 0 long
          ∙ ap₂ (λ x l. x ∷ l) c.if-text-ne32.false
          (sym (take_all (length text - 21) (drop 21 text) (omega (arith, length-drop 21 text)))));
    }
