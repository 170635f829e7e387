-- Each instance is computed.
use Rattle.std.proofs.Common.{refl}
use Rattle.sq_commands.specs.Summary.{ahead_advice, back_advice, clocks_advice}
use Rattle.sq_commands.proofs.pins.summary_exactly.Goals as goal

pub returns-clause-whole : goal.returns-clause-whole
returns-clause-whole c end = refl

pub returns-clause-back : goal.returns-clause-back
unfolding clocks_advice ahead_advice back_advice
returns-clause-back c = refl

pub returns-clause-ahead : goal.returns-clause-ahead
unfolding clocks_advice ahead_advice back_advice
returns-clause-ahead c = refl

pub returns-clause-unit : goal.returns-clause-unit
returns-clause-unit c = refl

pub returns-clause-none : goal.returns-clause-none
returns-clause-none c = refl

pub returns-clause-clocks : goal.returns-clause-clocks
unfolding clocks_advice ahead_advice back_advice
returns-clause-clocks c = refl

pub returns-clause-few : goal.returns-clause-few
unfolding clocks_advice ahead_advice back_advice
returns-clause-few c = refl

pub returns-clause-four : goal.returns-clause-four
unfolding clocks_advice ahead_advice back_advice
returns-clause-four c = refl

pub returns-clause-dated : goal.returns-clause-dated
unfolding clocks_advice ahead_advice back_advice
returns-clause-dated c = refl
