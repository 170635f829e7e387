use Rattle.std.proofs.Common.{◌∙◌, ap, sym}
use Rattle.sq_feed.specs.Readers.{Reads}
use Rattle.sq_feed.proofs.Sourced.{whole_reading}
use Rattle.sq_feed.proofs.reader.Reader.whole_row.Goals as goal

pub returns-in-Reading-clause-follows : goal.returns-in-Reading-clause-follows
returns-in-Reading-clause-follows c =
    whole_reading c.args.self.now c.self.inside.machine c.args.piece.now c.whole_row.result
    (sym (ap (λ (v : Reads). v.stage) c.self.view_is) ∙ c.in-Reading.is) (ap (λ (v : Reads). v.machine) c.self.view_is)
    c.whole_row.ensures
