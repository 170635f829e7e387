use Rattle.std.proofs.Common.{[]}
use Rattle.squitter_c.proofs.tracker_pins.one_of_many.Goals as goal

pub returns : goal.returns
returns c moment frame held after old new fault = (λ h. h [], λ h other. h)
