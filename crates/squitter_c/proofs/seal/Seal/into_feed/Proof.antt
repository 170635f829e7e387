use Rattle.squitter_c.proofs.Kept.{of_feeds}
use Rattle.squitter_c.proofs.Sealing.{opens_spec}
use Rattle.squitter_c.specs.contracts.seal.Seal.into_feed.Key.{name as #self}
use Rattle.squitter_c.proofs.seal.Seal.into_feed.Statement.{statement}
use Rattle.squitter_c.proofs.seal.Seal.into_feed.Code as code

pub into_feed_spec : {M : Type 1} → statement M
into_feed_spec 𝓤 𝓛 𝓜 𝓡 wired = opens_spec of_feeds 𝓛 𝓜 𝓡 #self (code.unfolded 𝓤 𝓛.H 𝓜 𝓡 wired)
