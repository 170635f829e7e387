use Rattle.std.proofs.Common.{subst}
use Rattle.sq_feed.specs.Avr.{AreHex, BegunWord}
use Rattle.sq_feed.proofs.avr.Avr.take.Goals as goal

pub returns-in-Some-clause-hex : goal.returns-in-Some-clause-hex
returns-in-Some-clause-hex c = subst (λ (v : BegunWord). AreHex v.digits) c.self.view_is c.self.invariant
