use Rattle.sq_devices.proofs.Puts.{two_calls}
use Rattle.sq_devices.proofs.laws.gets_in_turn.Goals as goal

pub returns-clause-two : goal.returns-clause-two
returns-clause-two g c old new x y = two_calls g.S.Source.Gave old new x y
