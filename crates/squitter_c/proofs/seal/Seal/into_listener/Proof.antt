use Rattle.squitter_c.proofs.Kept.{of_listeners}
use Rattle.squitter_c.proofs.Sealing.{opens_spec}
use Rattle.squitter_c.specs.contracts.seal.Seal.into_listener.Key.{name as #self}
use Rattle.squitter_c.proofs.seal.Seal.into_listener.Statement.{statement}
use Rattle.squitter_c.proofs.seal.Seal.into_listener.Code as code

pub into_listener_spec : {M : Type 1} → statement M
into_listener_spec 𝓤 𝓛 𝓜 𝓡 wired = opens_spec of_listeners 𝓛 𝓜 𝓡 #self (code.unfolded 𝓤 𝓛.H 𝓜 𝓡 wired)
