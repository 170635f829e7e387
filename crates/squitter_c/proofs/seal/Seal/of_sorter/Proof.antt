use denote.Exit.{yes}
use Rattle.squitter_c.proofs.Kept.{of_sorters}
use Rattle.squitter_c.proofs.Sealing.{seals_spec}
use Rattle.squitter_c.specs.contracts.seal.Seal.of_sorter.Key.{name as #self}
use Rattle.squitter_c.proofs.seal.Seal.of_sorter.Statement.{statement}
use Rattle.squitter_c.proofs.seal.Seal.of_sorter.Code as code

pub of_sorter_spec : {M : Type 1} → statement M
of_sorter_spec 𝓤 𝓛 𝓜 𝓡 wired = seals_spec of_sorters yes 𝓛 𝓜 𝓡 #self (code.unfolded 𝓤 𝓛.H 𝓜 𝓡 wired)
