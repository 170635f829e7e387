use Rattle.std.proofs.Common.{◌∙◌, arith}
use Rattle.sq_angle.proofs.Texts.{parsed_digits, digits_small}
use Rattle.sq_angle.proofs.read.number_of.Goals as goal

pub returns-clause-value : goal.returns-clause-value
returns-clause-value c = c.unwrap_or.ensures
    ∙ parsed_digits c.args.digits.now c.parse.result c.parse.ensures.value.0 c.requires.digits c.requires.short

pub returns-clause-small : goal.returns-clause-small
returns-clause-small c =
    let value = c.unwrap_or.ensures
    ∙ parsed_digits c.args.digits.now c.parse.result c.parse.ensures.value.0 c.requires.digits c.requires.short in
    omega (arith, digits_small c.args.digits.now c.requires.digits)
