use Rattle.std.proofs.Common.{◌≡◌, ◌<◌, ◌++◌, ◌∷◌, length, append-nil, sym, ap, ◌∙◌, None, Some, arith, eqb-true}
use Rattle.std.proofs.lemmas.Str.Pattern.{split_parts}
use Rattle.std.proofs.lemmas.Bool.Decides.{nat_tests}
use Rattle.sq_angle.proofs.Texts.{no_point_at, fraction_some, nothing}
use Rattle.sq_angle.proofs.read.around_point.Goals as goal

pub returns-in_default : goal.returns-in_default
returns-in_default c = (
  no_point_at c.args.text.now (split_parts 46 c.args.text.now None c.in_default.ensures.cases (omega arith)),
  sym (append-nil c.args.text.now),
)

pub returns-then-is_empty : goal.returns-then-is_empty
returns-then-is_empty c =
    let whole = c.in-Some.whole in
    let decimals = c.in-Some.decimals in
    let parts = split_parts 46 c.args.text.now (Some (whole, decimals)) c.in-Some.ensures.cases (omega arith) in
    let none : length decimals.now ≡ 0 =
    eqb-true (length decimals.now) 0 (sym c.is_empty.ensures ∙ c.if-is_empty.true) in
    (whole.now, no_point_at whole.now parts.1, parts.0 ∙ ap (λ ds. whole.now ++ 46 ∷ ds) (nothing decimals.now none))

pub returns : goal.returns
returns c =
    let whole = c.in-Some.whole in
    let decimals = c.in-Some.decimals in
    let parts = split_parts 46 c.args.text.now (Some (whole, decimals)) c.in-Some.ensures.cases (omega arith) in
    let some : 0 < length decimals.now = grind (arith, nat_tests) in
    (no_point_at whole.now parts.1, parts.0 ∙ ap (λ ds. whole.now ++ ds) (sym (fraction_some decimals.now some)))
