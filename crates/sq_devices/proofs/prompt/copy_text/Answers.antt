use Rattle.std.proofs.Common.{arith}
use Rattle.sq_devices.proofs.Pieces.{copied}
use Rattle.sq_devices.proofs.prompt.copy_text.Goals as goal

pub returns : goal.returns
returns c = copied c.args.into.now c.args.text.now c.requires (omega arith) (omega arith)
