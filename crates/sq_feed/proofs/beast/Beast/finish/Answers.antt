use Rattle.std.proofs.Common.{◌∙◌, ap, subst, sym}
use Rattle.sq_feed.specs.Begun.{Begun, IsUnfinished, cut_off}
use Rattle.sq_feed.proofs.Lawful.{rest_found}
use Rattle.sq_feed.proofs.beast.Beast.finish.Goals as goal

pub returns-clause-rest : goal.returns-clause-rest
returns-clause-rest c =
    c.cut_off.ensures ∙ ap (λ (v : Begun). cut_off v.kind) c.self.view_is
    ∙ sym (rest_found c.args.self.now (subst (λ (v : Begun). IsUnfinished v.kind v.held) c.self.view_is
    c.self.invariant))
