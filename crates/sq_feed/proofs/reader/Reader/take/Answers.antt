use Rattle.std.proofs.Common.{◌∙◌, ap, sym}
use Rattle.sq_feed.specs.Readers.{Reads}
use Rattle.sq_feed.proofs.Sourced.{over_on}
use Rattle.sq_feed.proofs.reader.Reader.take.Goals as goal

pub returns-in-Over-clause-follows : goal.returns-in-Over-clause-follows
returns-in-Over-clause-follows c =
    over_on c.args.self.now _ (sym (ap (λ (v : Reads). v.stage) c.self.view_is) ∙ c.in-Over.is)
