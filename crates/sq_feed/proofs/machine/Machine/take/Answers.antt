use Rattle.std.proofs.Common.{◌∙◌, ◌++◌, ap, subst, sym, take}
use Rattle.std.specs.Prelude.{option_to_list}
use Rattle.sq_feed.specs.Begun.{HoldWithRest, rest_of}
use Rattle.sq_feed.specs.Machines.{Begins}
use Rattle.sq_feed.proofs.Following.{beast_follows}
use Rattle.sq_feed.proofs.machine.Machine.take.Goals as goal

pub returns-in-Beast-clause-follows : goal.returns-in-Beast-clause-follows
returns-in-Beast-clause-follows c =
    beast_follows c.args.self.now _ _ _ (sym (ap (λ (v : Begins). v.format) c.self.view_is)
    ∙ c.in-Beast.is) c.in-Beast.is
    (subst (λ (v : Begins). HoldWithRest (rest_of v.beast ++ take c.take.result.0 c.args.piece.now)
    (option_to_list c.take.result.1) (rest_of c.take.new.self)) c.self.view_is c.take.ensures.held)
