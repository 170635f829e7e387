use Rattle.sq_cpr.proofs.Distances.Agree.{fractions_agree}
use Rattle.sq_cpr.proofs.laws.fractions_agree.Goals as goal

pub returns : goal.returns
returns g c = fractions_agree g.S.Span.span g.S.Span.full_circle
