use Rattle.std.proofs.Common.{◌∙◌, ap, refl, sym, take}
use Rattle.sq_feed.specs.declared.reader.Stage.TheVariants.{Over}
use Rattle.sq_feed.specs.Readers.{Reads}
use Rattle.sq_feed.proofs.Sourced.{finds_format, finds_more, finds_other}
use Rattle.sq_feed.proofs.reader.Reader.find.Goals as goal

pub returns-in-Unclear-clause-follows : goal.returns-in-Unclear-clause-follows
returns-in-Unclear-clause-follows c =
    finds_more c.args.self.now _ c.self.inside.finder (take c.take-count.result.0 c.args.piece.now)
    c.take-count.result.1 c.requires (ap (λ (v : Reads). v.stage) c.self.view_is ∙ c.requires)
    (sym (ap (λ (v : Reads). v.finder) c.self.view_is)) c.in-Unclear.is c.take-count.ensures.shows
    c.take-count.ensures.held

pub returns-in-Shows-clause-follows : goal.returns-in-Shows-clause-follows
returns-in-Shows-clause-follows c =
    finds_format c.args.self.now c.read_again.new.self c.self.inside.finder c.take-count.new.self
    (take c.take-count.result.0 c.args.piece.now)
    c.take-count.result.1 c.in-Shows.format c.requires (ap (λ (v : Reads). v.stage) c.read_again.ensures)
    (ap (λ (v : Reads). v.at) c.read_again.ensures) (ap (λ (v : Reads). v.machine) c.read_again.ensures)
    (ap (λ (v : Reads). v.finder) c.read_again.ensures)
    (sym (ap (λ (v : Reads). v.finder) c.self.view_is)) c.in-Shows.is c.take-count.ensures.shows
    c.take-count.ensures.held

pub returns-in-Other-clause-follows : goal.returns-in-Other-clause-follows
returns-in-Other-clause-follows c =
    finds_other c.args.self.now (record {
      asked = c.self.inside.asked;
      stage = Over;
      finder = c.take-count.new.self;
      at = c.self.inside.at;
      machine = c.self.inside.machine;
    }) c.self.inside.finder c.take-count.new.self
    (take c.take-count.result.0 c.args.piece.now)
    c.take-count.result.1 c.in-Other.stranger c.requires refl
    (sym (ap (λ (v : Reads). v.finder) c.self.view_is)) c.in-Other.is c.take-count.ensures.shows
