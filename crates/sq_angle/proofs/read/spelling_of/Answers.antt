use Rattle.std.proofs.Common.{◌≡◌, sym, subst}
use Rattle.sq_angle.specs.Spelling.{IsSpelling, Spells}
use Rattle.sq_angle.proofs.OneSpelling.{made, point_last_refused, parts_of_spelling}
use Rattle.sq_angle.proofs.read.spelling_of.Goals as goal

pub returns-in_default : goal.returns-in_default
returns-in_default c =
    let rest = c.without_minus-negative in
    point_last_refused c.args.text.now rest.result.0 rest.result.1.now
    (record { parts = rest.ensures.parts; other = rest.ensures.other }) c.in_default.ensures

pub returns-then-not-are_parts : goal.returns-then-not-are_parts
returns-then-not-are_parts c = λ p (s : Spells c.args.text.now p).
    let rest = c.without_minus-negative in
    let whole = c.in-Some.whole.now in
    let decimals = c.in-Some.decimals.now in
    let same : made rest.result.0 whole decimals ≡ p =
    parts_of_spelling c.args.text.now rest.result.0 rest.result.1.now whole decimals
    (record { parts = rest.ensures.parts; other = rest.ensures.other }) c.in-Some.ensures p s in
    let spelled : IsSpelling (made rest.result.0 whole decimals) = subst (λ q. IsSpelling q) (sym same) s.0 in
    let none = c.if-not-are_parts.ensures.1
    (record {
      one = spelled.one;
      three = spelled.three;
      whole_digits = spelled.whole_digits;
      decimal_digits = spelled.decimal_digits;
    }) in
    absurd (cc none)
