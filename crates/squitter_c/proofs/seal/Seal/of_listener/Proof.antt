use denote.Exit.{no}
use Rattle.squitter_c.proofs.Kept.{of_listeners}
use Rattle.squitter_c.proofs.Sealing.{seals_spec}
use Rattle.squitter_c.specs.contracts.seal.Seal.of_listener.Key.{name as #self}
use Rattle.squitter_c.proofs.seal.Seal.of_listener.Statement.{statement}
use Rattle.squitter_c.proofs.seal.Seal.of_listener.Code as code

pub of_listener_spec : {M : Type 1} → statement M
of_listener_spec 𝓤 𝓛 𝓜 𝓡 wired = seals_spec of_listeners no 𝓛 𝓜 𝓡 #self (code.unfolded 𝓤 𝓛.H 𝓜 𝓡 wired)
