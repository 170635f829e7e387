use Rattle.sq_cpr.proofs.Distances.FollowLaw.{following_is_near}
use Rattle.sq_cpr.proofs.laws.following_is_near.Goals as goal

pub returns : goal.returns
returns g c = following_is_near g.S.Span.span g.S.Span.full_circle
