use Rattle.sq_log.proofs.Pieces.{gives_the_lines}
use Rattle.sq_log.proofs.laws.lines_in_pieces.Goals as goal

pub returns : goal.returns
returns c = gives_the_lines
