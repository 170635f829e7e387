use Rattle.squitter_c.proofs.Kept.{of_sorters}
use Rattle.squitter_c.proofs.Sealing.{opens_spec}
use Rattle.squitter_c.specs.contracts.seal.Seal.into_sorter.Key.{name as #self}
use Rattle.squitter_c.proofs.seal.Seal.into_sorter.Statement.{statement}
use Rattle.squitter_c.proofs.seal.Seal.into_sorter.Code as code

pub into_sorter_spec : {M : Type 1} → statement M
into_sorter_spec 𝓤 𝓛 𝓜 𝓡 wired = opens_spec of_sorters 𝓛 𝓜 𝓡 #self (code.unfolded 𝓤 𝓛.H 𝓜 𝓡 wired)
