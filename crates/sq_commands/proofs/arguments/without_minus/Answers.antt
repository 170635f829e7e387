use Rattle.std.proofs.Common.{None, arith}
use Rattle.std.proofs.lemmas.Str.Pattern.{strip_prefix_char}
use Rattle.sq_commands.proofs.arguments.without_minus.Goals as goal

pub returns-in-None-clause-other : goal.returns-in-None-clause-other
returns-in-None-clause-other c = strip_prefix_char 45 c.args.word.now None c.in-None.ensures.cases (omega arith)
