use Rattle.std.proofs.Common.{◌∙◌, ◌∷◌, [], ◌+◌, sym, subst, take, rules}
use Rattle.sq_feed.specs.declared.message.Message.{Message as OneMessage}
use Rattle.sq_feed.specs.declared.message.Found.TheVariants.{Whole}
use Rattle.sq_feed.specs.Begun.{HoldWithRest}
use Rattle.sq_feed.proofs.Steps.{front_hold}
use Rattle.sq_feed.proofs.beast.whole_message.Goals as goal

pub returns-clause-held : goal.returns-clause-held
returns-clause-held c =
    subst (λ (m : OneMessage). HoldWithRest (take (2 + c.message_len-count.result) c.args.piece.now) (Whole m ∷ []) [])
    (sym c.message_of.ensures)
    (front_hold c.args.piece.now c.in-Message.size c.message_len-count.result (sym c.kind_of.ensures
    ∙ c.in-Message.is) c.message_len-count.ensures
    c.if-piece-count.false (search rules) (c.is_plain.ensures (search rules)))
