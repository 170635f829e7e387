use denote.Exit.{yes}
use Rattle.squitter_c.proofs.Kept.{of_feeds}
use Rattle.squitter_c.proofs.Sealing.{seals_spec}
use Rattle.squitter_c.specs.contracts.seal.Seal.of_feed.Key.{name as #self}
use Rattle.squitter_c.proofs.seal.Seal.of_feed.Statement.{statement}
use Rattle.squitter_c.proofs.seal.Seal.of_feed.Code as code

pub of_feed_spec : {M : Type 1} → statement M
of_feed_spec 𝓤 𝓛 𝓜 𝓡 wired = seals_spec of_feeds yes 𝓛 𝓜 𝓡 #self (code.unfolded 𝓤 𝓛.H 𝓜 𝓡 wired)
