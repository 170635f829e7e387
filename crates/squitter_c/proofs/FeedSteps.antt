-- The complete result of a call of a feed that left room.
use Rattle.std.proofs.Common.{◌∙◌, ap, arith, length, subst, take}
use Rattle.std.proofs.lemmas.List.{take_all}
use Rattle.sq_feed.specs.Feeds.{HasTold}
use Rattle.squitter_c.specs.FeedCalls.{squitters_of}
use Rattle.squitter_c.specs.FeedLaws.{AllGiven, AllWritten}

pub all_given : AllGiven
all_given arrival k new piece moments_were moments frames_were frames before after fault (next, is, taken, good) room
    slot =
    let all = (taken.all room slot).0 in (
      next,
      is,
      all,
      good,
      subst (λ bytes. HasTold arrival k bytes
          (squitters_of (take after.written moments) (take after.written frames)) next)
          (ap (λ n. take n piece) all ∙ take_all (length piece) piece (omega arith)) taken.given,
    )

pub all_written : AllWritten
all_written arrival k new piece was is before after fault (next, same, taken, good) room =
    let all = (taken.all room).0 in (
      next,
      same,
      all,
      good,
      (
        taken.told,
        subst (λ bytes. HasTold arrival k bytes taken.told next)
            (ap (λ n. take n piece) all ∙ take_all (length piece) piece (omega arith)) taken.given,
        taken.written,
      ),
    )
