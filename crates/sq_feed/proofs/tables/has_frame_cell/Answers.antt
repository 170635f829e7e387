use Rattle.std.proofs.Common.{◌∙◌, sym}
use Rattle.sq_feed.proofs.Framed.{after_other, after_separator}
use Rattle.sq_feed.proofs.tables.has_frame_cell.Goals as goal
use Rattle.sq_feed.proofs.tables.has_frame_cell.Goals.{then-byte-separator+else-is_frame_cell, else-byte-separator}

pub loop-at-preserved : goal.loop-at-preserved
loop-at-preserved c = elim c.if-byte-separator.branch [
  | then-byte-separator+else-is_frame_cell w ↦
      after_separator c.args.separator c.args.row.now c.loop-at.start c.loop-at.at c.if-byte-separator.start
      c.loop-at.invariant c.loop-at-test.true w.if-byte-separator.true
      (sym w.is_frame_cell.ensures ∙ w.if-is_frame_cell.false) w.start-is
  | else-byte-separator w ↦
      after_other c.args.separator c.args.row.now c.loop-at.start c.loop-at.at c.if-byte-separator.start
      c.loop-at.invariant c.loop-at-test.true w.if-byte-separator.false w.start-is
]
