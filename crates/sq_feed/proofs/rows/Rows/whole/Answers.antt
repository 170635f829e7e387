use Rattle.std.proofs.Common.{◌≡◌, ◌∙◌, ap, arith, rules, take}
use Rattle.sq_feed.specs.declared.message.Found.TheVariants.{Whole}
use Rattle.sq_feed.specs.declared.rows.Row.TheVariants.{One}
use Rattle.sq_feed.specs.Rows.{BegunRow, row_read}
use Rattle.sq_feed.proofs.RowLemmas.{line_whole}
use Rattle.sq_feed.proofs.rows.Rows.whole.Goals as goal

pub returns-in-One-Whole : goal.returns-in-One-Whole
returns-in-One-Whole c =
    let is : c.row_read.result ≡ One (Whole c.in-One-Whole.message) = search rules in
    line_whole c.args.self.now c.args.piece.now c.min.result c.position_of-end.result c.row_read.result
    c.in-One-Whole.message
    (omega arith) c.if-end-near.false c.position_of-end.ensures.first
    (c.position_of-end.ensures.found c.if-end-near.false)
    (c.row_read.ensures ∙ ap (λ (v : BegunRow). row_read v.layout (take c.position_of-end.result
    (take c.min.result c.args.piece.now))) c.self.view_is) is
    (c.is_new.ensures.held c.if-not-is_new.false) (c.is_new.ensures.short c.if-not-is_new.false)
