use Rattle.std.proofs.Common.{refl}
use Rattle.sq_cpr.specs.Exactly.{even_point, odd_point}
use Rattle.sq_message.proofs.WorkedPoints.{even_position_rounds, odd_position_rounds, points_are_close}
use Rattle.sq_message.proofs.worked.read_pair.Goals as goal

pub returns : goal.returns
returns c =
    c.read_pair_of_sent-place.ensures.point even_point odd_point refl
    (even_position_rounds c.position_of-even.result c.position_of-even.ensures)
    (odd_position_rounds c.position_of-odd.result c.position_of-odd.ensures) points_are_close tt
