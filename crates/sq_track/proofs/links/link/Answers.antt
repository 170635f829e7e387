use Rattle.std.proofs.Common.{refl}
use Rattle.sq_track.proofs.Table.LinkLemmas.{linked}
use Rattle.sq_track.proofs.links.link.Goals as goal

pub returns : goal.returns
returns c =
    linked c.args.from c.args.to c.args.links.now (record { before = 0; after = 0 }) refl refl c.requires.from
    c.requires.to
