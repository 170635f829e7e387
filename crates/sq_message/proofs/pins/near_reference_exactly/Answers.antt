use Rattle.sq_message.proofs.Exact.{lie_at_exactly, near_reference_exactly as the_law}
use Rattle.sq_message.proofs.pins.near_reference_exactly.Goals as goal

pub returns-clause-near : goal.returns-clause-near
returns-clause-near g c = the_law g.F.Kind.kind

pub returns-clause-lie_at : goal.returns-clause-lie_at
returns-clause-lie_at g c = lie_at_exactly
