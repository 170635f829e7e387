use Rattle.std.proofs.Common.{refl}
use Rattle.sq_message.proofs.WorkedGround.{even_beyond, odd_beyond, even_beyond_at_site, odd_beyond_at_site, points_beyond_are_close}
use Rattle.sq_message.proofs.WorkedGround.{even_beyond_position_rounds, odd_beyond_position_rounds}
use Rattle.sq_message.proofs.worked.read_pair_across_180_degrees.Goals as goal

pub returns : goal.returns
returns c =
    let site = c.position_of-site.result in
    let at = c.position_of-site.ensures in
    c.read_pair_of_sent-place.ensures.point even_beyond odd_beyond refl
    (even_beyond_position_rounds c.position_of-even.result c.position_of-even.ensures)
    (odd_beyond_position_rounds c.position_of-odd.result c.position_of-odd.ensures)
    points_beyond_are_close (even_beyond_at_site site at, odd_beyond_at_site site at)
