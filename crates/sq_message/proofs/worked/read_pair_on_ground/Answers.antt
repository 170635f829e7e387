use Rattle.std.proofs.Common.{refl}
use Rattle.sq_message.proofs.WorkedGround.{even_point, odd_point, even_at_site, odd_at_site, points_are_close}
use Rattle.sq_message.proofs.WorkedGround.{even_position_rounds, odd_position_rounds}
use Rattle.sq_message.proofs.worked.read_pair_on_ground.Goals as goal

pub returns : goal.returns
returns c =
    let site = c.position_of-site.result in
    let at = c.position_of-site.ensures in
    c.read_pair_of_sent-place.ensures.point even_point odd_point refl
    (even_position_rounds c.position_of-even.result c.position_of-even.ensures)
    (odd_position_rounds c.position_of-odd.result c.position_of-odd.ensures)
    points_are_close (even_at_site site at, odd_at_site site at)
