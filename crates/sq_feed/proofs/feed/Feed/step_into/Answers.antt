use Rattle.std.proofs.Common.{◌∙◌, ◌++◌, ap, take}
use Rattle.sq_feed.specs.Feeds.{stored}
use Rattle.sq_feed.proofs.Feeding.{told_ready}
use Rattle.sq_feed.proofs.feed.Feed.step_into.Goals as goal

pub returns-then-not-is_empty-clause-told : goal.returns-then-not-is_empty-clause-told
returns-then-not-is_empty-clause-told g c =
    told_ready c.args.arrival c.args.self.now c.step_ready.new.self
    (take c.step_ready.result.taken c.args.piece.now)
    (stored c.step_ready.result.is_filled c.step_ready.new.into)
    (ap (λ n. take n c.args.piece.now) c.step_ready.ensures.taken) c.step_ready.ensures.same.0
    c.step_ready.ensures.same.1
    (ap (λ b. stored b c.step_ready.new.into ++ c.step_ready.new.self.ready) c.step_ready.ensures.filled
    ∙ c.step_ready.ensures.told)
