use Rattle.sq_cpr.proofs.Distances.CloseLaw.{one_zone_is_close}
use Rattle.sq_cpr.proofs.pins.one_zone_is_close.Goals as goal

pub returns : goal.returns
returns g c = one_zone_is_close g.S.Span.span g.S.Span.full_circle
