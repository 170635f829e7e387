use Rattle.std.proofs.Common.{arith, rules}
use Rattle.sq_feed.specs.Avr.{avr_found}
use Rattle.sq_feed.proofs.AvrWhole.{one_end, two_ends}
use Rattle.sq_feed.proofs.Following.{follows_nothing}
use Rattle.sq_feed.proofs.avr.line_ends.Goals as goal

pub returns-then-is_empty-clause-follows : goal.returns-then-is_empty-clause-follows
returns-then-is_empty-clause-follows c = follows_nothing avr_found

pub returns-then-piece-lt2-clause-follows : goal.returns-then-piece-lt2-clause-follows
returns-then-piece-lt2-clause-follows c =
    one_end c.args.piece.now (search rules) (c.is_line_end.ensures c.if-not-is_line_end.false)

pub returns-clause-follows : goal.returns-clause-follows
returns-clause-follows c =
    two_ends c.args.piece.now (omega (arith, c.if-piece-lt2.false)) (c.is_line_end.ensures c.if-not-is_line_end.false)
    (c.is_line_end-else-piece-lt2.ensures c.if-not-is_line_end-2.false)
