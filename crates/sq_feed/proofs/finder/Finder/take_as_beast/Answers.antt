use Rattle.std.proofs.Common.{◌∙◌, ◌∷◌, ap, refl}
use Rattle.std.specs.Prelude.{option_to_list}
use Rattle.sq_feed.specs.Finding.{Finds, beast_of}
use Rattle.sq_feed.proofs.Finds.{beast_more}
use Rattle.sq_feed.proofs.finder.Finder.take_as_beast.Goals as goal

pub returns-clause-beast : goal.returns-clause-beast
returns-clause-beast c = λ bytes.
    ap (λ (v : Finds). beast_of v bytes) c.hear.ensures
    ∙ beast_more c.self.inside.count (option_to_list c.take-count.result.1) c.self.inside.beast c.take-count.new.self
    c.args.byte bytes c.take-count.result.1 c.take-count.result.0 c.take-count.ensures.fits c.take-count.ensures.all
    c.take-count.ensures.some refl c.take-count.ensures.held
    ∙ ap (λ (v : Finds). beast_of v (c.args.byte ∷ bytes)) c.self.view_is
