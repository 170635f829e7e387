use Rattle.sq_cpr.proofs.Decoding.NearLaw.{local_keeps_code}
use Rattle.sq_cpr.proofs.laws.local_keeps_code.Goals as goal

pub returns : goal.returns
returns g c = local_keeps_code g.S.Span.span
