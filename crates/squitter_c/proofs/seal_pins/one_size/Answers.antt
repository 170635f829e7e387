use Rattle.squitter_c.proofs.OneSizes.{one_size}
use Rattle.squitter_c.proofs.seal_pins.one_size.Goals as goal

pub returns : goal.returns
returns c = one_size
