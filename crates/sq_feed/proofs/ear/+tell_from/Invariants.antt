use Rattle.std.proofs.Common.{length}
use Rattle.sq_feed.proofs.ear.+tell_from.Given as goal

-- proposed from what the function passes where it calls itself
abbrev pub decreases-tell_from : goal.decreases-tell_from
decreases-tell_from l = length l.told.now
