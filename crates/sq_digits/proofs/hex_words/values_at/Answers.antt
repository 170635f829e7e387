use Rattle.std.proofs.Common.{◌<◌, ◌∙◌, ap, subst, sym}
use Rattle.std.specs.Char.{digit_value}
use Rattle.std.proofs.lemmas.Simd.{get_or-chunk}
use Rattle.sq_digits.proofs.hex_words.values_at.Goals as goal

pub returns-clause-value : goal.returns-clause-value
returns-clause-value c k small low =
    ap digit_value (sym (get_or-chunk c.args.at 16 c.args.text.now k 0 small))
    ∙ c.digit_values.ensures.value k small low

pub returns-clause-digit : goal.returns-clause-digit
returns-clause-digit c k small low =
    c.digit_values.ensures.digit k small
    (subst (λ b. digit_value b < 16) (sym (get_or-chunk c.args.at 16 c.args.text.now k 0 small)) low)
