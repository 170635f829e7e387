use Rattle.std.proofs.Common.{◌∙◌, ◌++◌, ◌∷◌, [], ap, subst, sym, take}
use Rattle.std.specs.Prelude.{IfSome}
use Rattle.sq_feed.specs.declared.message.Found.TheVariants.{Whole}
use Rattle.sq_feed.specs.Begun.{HoldWithRest, rest_of}
use Rattle.sq_feed.specs.Machines.{Begins}
use Rattle.sq_feed.proofs.Following.{beast_whole}
use Rattle.sq_feed.proofs.machine.Machine.whole_message.Goals as goal

pub returns-in-Beast : goal.returns-in-Beast
returns-in-Beast c =
    beast_whole c.args.self.now c.args.piece.now c.whole.result
    (sym (ap (λ (v : Begins). v.format) c.self.view_is) ∙ c.in-Beast.is) c.whole.ensures.fits
    (subst (λ (v : Begins). IfSome c.whole.result (λ p.
    HoldWithRest (rest_of v.beast ++ take p.1 c.args.piece.now) (Whole p.0 ∷ []) (rest_of v.beast))) c.self.view_is
    c.whole.ensures.held)
