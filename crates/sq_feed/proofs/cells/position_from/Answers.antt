use Rattle.std.proofs.Common.{◌≡◌, ◌≢◌, get_or, length, subst, arith, inl, inr}
use Rattle.std.proofs.lemmas.Bool.{cases_lt}
use Rattle.sq_feed.proofs.Positions.{position_is}
use Rattle.sq_feed.proofs.cells.position_from.Goals as goal

pub loop-at-init : goal.loop-at-init
loop-at-init c = c.requires.none

pub loop-at-preserved : goal.loop-at-preserved
loop-at-preserved c k less = elim (cases_lt k c.loop-at.at) [
  | inl below ↦ c.loop-at.invariant k below
  | inr up ↦
      let is : c.loop-at.at ≡ k = omega (arith, less, up) in
      subst (λ n. get_or c.args.text.now n 0 ≢ c.args.byte) is c.if-text-at.false
]

pub returns-then-text-at-clause-value : goal.returns-then-text-at-clause-value
returns-then-text-at-clause-value c =
    position_is c.args.byte c.args.text.now c.loop-at.at (omega arith) c.loop-at.invariant
    (λ within. c.if-text-at.true)

pub returns-then-text-at-clause-first : goal.returns-then-text-at-clause-first
returns-then-text-at-clause-first c = c.loop-at.invariant

pub returns-clause-value : goal.returns-clause-value
returns-clause-value c =
    position_is c.args.byte c.args.text.now (length c.args.text.now) (omega arith)
    (λ k less. c.loop-at.invariant k (omega (arith, less, c.loop-at-test.false))) (λ within. absurd (omega
    (arith, within)))

pub returns-clause-first : goal.returns-clause-first
returns-clause-first c k less = c.loop-at.invariant k (omega (arith, less, c.loop-at-test.false))
