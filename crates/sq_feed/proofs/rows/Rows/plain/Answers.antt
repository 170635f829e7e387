use Rattle.sq_feed.proofs.RowLemmas.{row_whole}
use Rattle.sq_feed.proofs.rows.Rows.plain.Goals as goal

pub returns : goal.returns
returns c =
    row_whole c.args.self.now c.args.piece.now c.plain_row.result c.plain_row.ensures
    (c.has_usual_columns.ensures c.if-not-has_usual_columns.false) (c.is_new.ensures.held c.if-not-is_new.false)
    (c.is_new.ensures.short c.if-not-is_new.false)
