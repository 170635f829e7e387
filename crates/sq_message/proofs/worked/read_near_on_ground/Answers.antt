use Rattle.std.proofs.Common.{refl}
use Rattle.sq_message.proofs.WorkedGround.{odd_point, odd_position_rounds, reference_is_near}
use Rattle.sq_message.proofs.worked.read_near_on_ground.Goals as goal

pub returns : goal.returns
returns c =
    c.read_near_of_sent-place.ensures.point odd_point refl
    (odd_position_rounds c.position_of-here.result c.position_of-here.ensures)
    (reference_is_near c.position_of-reference.result c.position_of-reference.ensures)
