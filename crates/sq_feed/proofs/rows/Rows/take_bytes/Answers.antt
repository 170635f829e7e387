use Rattle.std.proofs.Common.{[], ◌∷◌, get_or, subst, take, arith}
use Rattle.std.specs.Prelude.{Option, option_to_list}
use Rattle.sq_feed.specs.declared.message.Found.{Found}
use Rattle.sq_feed.specs.Rows.{IsHeld, rows_to_come}
use Rattle.sq_feed.specs.Follows.{Follows}
use Rattle.sq_feed.proofs.Following.{follows_byte, follows_nothing}
use Rattle.sq_feed.proofs.rows.Rows.take_bytes.Goals as goal

pub loop-at-init : goal.loop-at-init
loop-at-init c = (
  subst IsHeld c.self.view_is c.self.invariant,
  follows_nothing
      (rows_to_come c.args.self.now),
)

pub returns-in-Some-clause-follows : goal.returns-in-Some-clause-follows
returns-in-Some-clause-follows c =
    follows_byte (rows_to_come c.args.self.now) (rows_to_come c.loop-at.self) (rows_to_come c.take_byte.new.self)
    c.args.piece.now c.loop-at.at (c.in-Some.found ∷ []) c.loop-at-test.true c.loop-at.invariant.1
    c.in-Some.ensures.follows

pub loop-at-preserved : goal.loop-at-preserved
loop-at-preserved c = (
  c.take_byte.ensures.held,
  follows_byte (rows_to_come c.args.self.now) (rows_to_come c.loop-at.self) (rows_to_come c.take_byte.new.self)
      c.args.piece.now c.loop-at.at [] c.loop-at-test.true c.loop-at.invariant.1
      (subst (λ (o : Option Found). Follows (rows_to_come c.loop-at.self) (get_or c.args.piece.now c.loop-at.at 0 ∷ [])
      (option_to_list o) (rows_to_come c.take_byte.new.self)) c.in_default.is c.take_byte.ensures.follows),
)

pub returns-clause-follows : goal.returns-clause-follows
returns-clause-follows c =
    subst (λ n. Follows (rows_to_come c.args.self.now) (take n c.args.piece.now) [] (rows_to_come c.loop-at.self))
    (omega (arith, c.loop-at-test.false, c.loop-at.auto)) c.loop-at.invariant.1
