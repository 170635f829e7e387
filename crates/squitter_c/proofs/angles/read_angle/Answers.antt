use Rattle.squitter_c.proofs.AsciiTexts.{spelling_is_utf8}
use Rattle.squitter_c.proofs.angles.read_angle.Goals as goal

pub returns-in-Err : goal.returns-in-Err
returns-in-Err c = λ p spells. c.in-Err.ensures.cases.0 (spelling_is_utf8 c.args.text.now p spells)
