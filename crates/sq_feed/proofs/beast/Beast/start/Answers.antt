use Rattle.std.proofs.Common.{◌∙◌, ap, subst}
use Rattle.std.specs.Prelude.{Some}
use Rattle.sq_feed.specs.Begun.{Begun, IsUnfinished, cut_off}
use Rattle.sq_feed.proofs.Steps.{start_gives}
use Rattle.sq_feed.proofs.beast.Beast.start.Goals as goal

pub returns-clause-gives : goal.returns-clause-gives
returns-clause-gives c =
    start_gives c.args.self.now _ c.args.byte _
    (subst (λ (v : Begun). IsUnfinished v.kind v.held) c.self.view_is c.self.invariant)
    (ap (λ k. Some k) c.kind_of.ensures) c.new-self-inside.ensures
    (c.cut_off-found.ensures ∙ ap (λ (v : Begun). cut_off v.kind) c.self.view_is)
