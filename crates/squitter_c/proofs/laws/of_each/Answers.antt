use Rattle.squitter_c.proofs.AtPlaces.{of_each as the_law}
use Rattle.squitter_c.proofs.laws.of_each.Goals as goal

pub returns : goal.returns
returns c = the_law
