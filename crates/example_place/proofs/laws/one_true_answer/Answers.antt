use Rattle.example_place.proofs.One.{one_true_in_air, one_true_on_ground}
use Rattle.example_place.proofs.laws.one_true_answer.Goals as goal

pub returns-clause-in_air : goal.returns-clause-in_air
returns-clause-in_air c = one_true_in_air

pub returns-clause-on_ground : goal.returns-clause-on_ground
returns-clause-on_ground c = one_true_on_ground
