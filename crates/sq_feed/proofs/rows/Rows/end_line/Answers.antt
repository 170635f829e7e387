use Rattle.std.proofs.Common.{◌∙◌, ap, refl, sym}
use Rattle.sq_feed.specs.Rows.{BegunRow, items_of_row, layout_after}
use Rattle.sq_feed.proofs.RowLemmas.{row_ends}
use Rattle.sq_feed.proofs.rows.Rows.end_line.Goals as goal

pub returns-in-One-clause-follows : goal.returns-in-One-clause-follows
returns-in-One-clause-follows c =
    row_ends c.args.self.now _ c.row-row.result _ c.row-row.ensures
    (sym (ap items_of_row c.in-One.is))
    (ap (λ (v : BegunRow). v.layout) c.self.view_is ∙ sym (ap (layout_after c.args.self.now.layout) c.in-One.is))
    c.new-self-inside.ensures refl

pub returns-in-Blank-clause-follows : goal.returns-in-Blank-clause-follows
returns-in-Blank-clause-follows c =
    row_ends c.args.self.now _ c.row-row.result _ c.row-row.ensures
    (sym (ap items_of_row c.in-Blank.is))
    (ap (λ (v : BegunRow). v.layout) c.self.view_is ∙ sym (ap (layout_after c.args.self.now.layout) c.in-Blank.is))
    c.new-self-inside.ensures refl

pub returns-in-Names-clause-follows : goal.returns-in-Names-clause-follows
returns-in-Names-clause-follows c =
    row_ends c.args.self.now _ c.row-row.result _ c.row-row.ensures
    (sym (ap items_of_row c.in-Names.is)) (sym (ap (layout_after c.args.self.now.layout) c.in-Names.is))
    c.new-self-inside.ensures refl
