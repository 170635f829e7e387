use Rattle.sq_bits.proofs.Places.{ends_before, no_common_place}
use Rattle.sq_bits.proofs.pins.apart_exactly.Goals as goal

pub returns : goal.returns
returns c start len first count some any = (
  λ h. (h.0, h.1, no_common_place start len first count h.2),
  λ h. (h.0, h.1, ends_before start len first count some any h.2),
)
