use Rattle.std.proofs.Common.{◌-◌, ◌+◌, ◌*◌, ◌∙◌, ℕ, List, ap, ap₂, arith, drop, subst, sym, take}
use Rattle.std.proofs.lemmas.List.{take_rest}
use Rattle.std.specs.Char.{IsAsciiDigit}
use Rattle.std.specs.List.{AllByRecursion}
use Rattle.std.specs.Str.Parse.{digits_value}
use Rattle.sq_text.proofs.LeadingDigits.{all_behind, front_split, front_value}
use Rattle.sq_text.proofs.front_digits.front_number.Goals as goal

pub few_digits-requires-3-clause-digits : goal.few_digits-requires-3-clause-digits
few_digits-requires-3-clause-digits c =
    let text : List ℕ = c.args.text.now in
    let first : ℕ = c.args.count - 8 in
    let split = front_split text c.args.count (omega (arith, c.if-count-le-WORD.false)) in
    let all = all_behind (take first text) (take 8 (drop first text))
    (subst (λ l. AllByRecursion IsAsciiDigit l) split c.requires.digits) in
    subst (λ l. AllByRecursion IsAsciiDigit (take 8 l)) (sym (take_rest text first)) all

pub returns : goal.returns
returns c =
    let text : List ℕ = c.args.text.now in
    let first : ℕ = c.args.count - 8 in
    let rest = ap (λ l. digits_value 10 (take 8 l)) (take_rest text first) in
    ap₂ (λ m n. m * 100000000 + n) c.few_digits-2.ensures.value (c.few_digits-3.ensures.value ∙ rest)
    ∙ front_value text c.args.count (omega (arith, c.if-count-le-WORD.false))
    (omega (arith, c.requires.few, c.requires.room))
