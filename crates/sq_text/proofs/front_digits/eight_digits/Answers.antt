use Rattle.std.proofs.Common.{ap, ◌∙◌}
use Rattle.sq_text.proofs.WordDigits.{joined_eight, values_joined}
use Rattle.sq_text.proofs.front_digits.eight_digits.Goals as goal

pub returns : goal.returns
returns c values long small is = ap joined_eight is ∙ values_joined values long small
