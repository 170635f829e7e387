use Rattle.std.proofs.Common.{◌∙◌, ap, refl, sym}
use Rattle.sq_feed.specs.Finding.{Finds, finds_to_come}
use Rattle.sq_feed.specs.Readers.{items_as}
use Rattle.sq_feed.proofs.reader.Reader.new.Goals as goal

pub returns-in-None-clause-new : goal.returns-in-None-clause-new
returns-in-None-clause-new c = record {
  same = refl;
  awaits = λ bytes. ap (λ (f : Finds). finds_to_come f bytes) c.new-in-None.ensures
      ∙ ap (λ asked. items_as asked bytes) (sym c.in-None.is);
}
