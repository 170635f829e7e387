use Rattle.sq_devices.proofs.Puts.{two_calls}
use Rattle.sq_devices.proofs.laws.puts_in_turn.Goals as goal

pub returns-clause-two : goal.returns-clause-two
returns-clause-two g c old new x y = two_calls g.K.Sink.Took old new x y
