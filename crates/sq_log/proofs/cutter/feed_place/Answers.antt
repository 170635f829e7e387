use Rattle.std.proofs.Common.{sym}
use Rattle.sq_log.proofs.Feeds.{no_place}
use Rattle.sq_log.proofs.cutter.feed_place.Goals as goal

pub returns-in-None-clause-place : goal.returns-in-None-clause-place
returns-in-None-clause-place c = no_place c.args.piece.now (sym c.in-None.ensures)
