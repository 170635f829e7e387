use Rattle.std.proofs.Common.{refl}
use Rattle.sq_log.specs.Content.{content}
use Rattle.sq_log.proofs.Contents.{content-over}
use Rattle.sq_log.proofs.pins.content_in_numbers.Goals as goal

pub returns-clause-empty : goal.returns-clause-empty
unfolding content
returns-clause-empty c = refl

pub returns-clause-returned : goal.returns-clause-returned
unfolding content
returns-clause-returned c = refl

pub returns-clause-text : goal.returns-clause-text
unfolding content
returns-clause-text c = refl

pub returns-clause-one_off : goal.returns-clause-one_off
unfolding content
returns-clause-one_off c = refl

pub returns-clause-one_left : goal.returns-clause-one_left
unfolding content
returns-clause-one_left c = refl

pub returns-clause-within : goal.returns-clause-within
unfolding content
returns-clause-within c = refl

pub returns-clause-long : goal.returns-clause-long
returns-clause-long c = content-over
