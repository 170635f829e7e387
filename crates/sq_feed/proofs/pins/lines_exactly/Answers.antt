use Rattle.std.proofs.Common.{arith, refl}
use Rattle.sq_feed.proofs.Shown.{avr_line}
use Rattle.sq_feed.proofs.pins.lines_exactly.Goals as goal

pub returns-clause-prefix : goal.returns-clause-prefix
returns-clause-prefix c = avr_line _ (omega arith) refl refl refl refl refl refl

pub returns-clause-carriage : goal.returns-clause-carriage
returns-clause-carriage c = avr_line _ (omega arith) refl refl refl refl refl refl
