use Rattle.std.proofs.Common.{◌++◌, ◌+◌, ◌-◌, [], ◌∷◌, length, drop, subst, get_or, arith}
use Rattle.std.specs.Prelude.{Option, option_to_list}
use Rattle.std.proofs.lemmas.List.{length-drop, length-take}
use Rattle.sq_feed.specs.declared.message.Found.{Found}
use Rattle.sq_feed.specs.Begun.{Begun, HoldWithRest, IsUnfinished, rest_of}
use Rattle.sq_feed.proofs.Steps.{hold_byte, hold_nothing, hold_run}
use Rattle.sq_feed.proofs.beast.Beast.take_bytes.Goals as goal

pub loop-at-init : goal.loop-at-init
loop-at-init c = (
  omega arith,
  subst (λ (v : Begun). IsUnfinished v.kind v.held) c.self.view_is c.self.invariant,
  hold_nothing (rest_of c.args.self.now),
)

pub returns-in-Some-clause-held : goal.returns-in-Some-clause-held
returns-in-Some-clause-held c =
    hold_byte c.args.piece.now (rest_of c.args.self.now) (rest_of c.take_run-at.new.self) (rest_of c.take_byte.new.self)
    (c.loop-at.at + c.take_run-at.result) (c.in-Some.found ∷ []) c.if-at-piece.true
    (hold_run c.args.piece.now (rest_of c.args.self.now) (rest_of c.loop-at.self) (rest_of c.take_run-at.new.self)
    c.loop-at.at c.take_run-at.result c.loop-at.invariant.2 c.take_run-at.ensures.held) c.in-Some.ensures.held

pub loop-at-preserved-then-at-piece : goal.loop-at-preserved-then-at-piece
loop-at-preserved-then-at-piece c = (
  omega (arith, c.if-at-piece.true),
  c.take_byte.ensures.unfinished,
  hold_byte c.args.piece.now (rest_of c.args.self.now) (rest_of c.take_run-at.new.self) (rest_of c.take_byte.new.self)
      (c.loop-at.at + c.take_run-at.result) [] c.if-at-piece.true
      (hold_run c.args.piece.now (rest_of c.args.self.now) (rest_of c.loop-at.self) (rest_of c.take_run-at.new.self)
      c.loop-at.at c.take_run-at.result c.loop-at.invariant.2 c.take_run-at.ensures.held)
      (subst (λ (o : Option Found). HoldWithRest (rest_of c.take_run-at.new.self
      ++ get_or c.args.piece.now (c.loop-at.at + c.take_run-at.result) 0 ∷ []) (option_to_list o)
      (rest_of c.take_byte.new.self)) c.in_default.is c.take_byte.ensures.held),
)

pub loop-at-preserved : goal.loop-at-preserved
loop-at-preserved c = (
  omega (
    arith,
    c.take_run-at.ensures.fits,
    length-drop c.loop-at.at c.args.piece.now,
    length-take (length c.args.piece.now - c.loop-at.at) (drop c.loop-at.at c.args.piece.now),
    c.loop-at.invariant.0,
  ),
  c.take_run-at.ensures.unfinished,
  hold_run c.args.piece.now (rest_of c.args.self.now) (rest_of c.loop-at.self) (rest_of c.take_run-at.new.self)
      c.loop-at.at c.take_run-at.result c.loop-at.invariant.2 c.take_run-at.ensures.held,
)
