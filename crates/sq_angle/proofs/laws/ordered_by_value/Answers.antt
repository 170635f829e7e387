use Rattle.sq_angle.proofs.Orders.{ordered_by_value}
use Rattle.sq_angle.proofs.laws.ordered_by_value.Goals as goal

pub returns : goal.returns
returns c = ordered_by_value
