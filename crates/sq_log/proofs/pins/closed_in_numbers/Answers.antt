use Rattle.std.proofs.Common.{refl}
use Rattle.sq_log.specs.Lines.{last_part}
use Rattle.sq_log.proofs.pins.closed_in_numbers.Goals as goal

pub returns-clause-nothing : goal.returns-clause-nothing
unfolding last_part
returns-clause-nothing c = refl

pub returns-clause-ended : goal.returns-clause-ended
unfolding last_part
returns-clause-ended c = refl

pub returns-clause-unended : goal.returns-clause-unended
unfolding last_part
returns-clause-unended c = refl
