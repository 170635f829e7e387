use Rattle.std.proofs.Common.{refl}
use Rattle.sq_cpr.specs.Exactly.{even_point}
use Rattle.sq_message.proofs.WorkedPoints.{even_position_rounds, reference_is_near}
use Rattle.sq_message.proofs.worked.read_near.Goals as goal

pub returns : goal.returns
returns c =
    c.read_near_of_sent-place.ensures.point even_point refl
    (even_position_rounds c.position_of-here.result c.position_of-here.ensures)
    (reference_is_near c.position_of-reference.result c.position_of-reference.ensures)
