use Rattle.std.proofs.Common.{◌+◌, ◌-◌, ◌*◌, ◌≤◌, length, arith}
use Rattle.sq_feed.proofs.Positions.{group_before, group_found, position_is}
use Rattle.sq_feed.proofs.cells.position_of.Goals as goal

pub returns-then-at-lt-LANES-clause-first : goal.returns-then-at-lt-LANES-clause-first
returns-then-at-lt-LANES-clause-first c =
    group_before c.args.byte c.args.text.now (16 * c.loop-group.group) c.position_in_16-at.result
    (omega (arith, c.loop-group-test.true)) c.position_in_16-at.ensures c.loop-group.invariant

pub returns-then-at-lt-LANES-clause-found : goal.returns-then-at-lt-LANES-clause-found
returns-then-at-lt-LANES-clause-found c within =
    group_found c.args.byte c.args.text.now (16 * c.loop-group.group) c.position_in_16-at.result
    (omega (arith, c.loop-group-test.true)) c.position_in_16-at.ensures c.if-at-lt-LANES.true

pub returns-then-at-lt-LANES-clause-value : goal.returns-then-at-lt-LANES-clause-value
returns-then-at-lt-LANES-clause-value c =
    let room : 16 * c.loop-group.group + 16 ≤ length c.args.text.now = omega (arith, c.loop-group-test.true) in
    position_is c.args.byte c.args.text.now (16 * c.loop-group.group + c.position_in_16-at.result)
    (omega (arith, room, c.if-at-lt-LANES.true))
    (group_before c.args.byte c.args.text.now (16 * c.loop-group.group) c.position_in_16-at.result room
    c.position_in_16-at.ensures c.loop-group.invariant)
    (λ within. group_found c.args.byte c.args.text.now (16 * c.loop-group.group) c.position_in_16-at.result room
    c.position_in_16-at.ensures c.if-at-lt-LANES.true)

pub loop-group-preserved : goal.loop-group-preserved
loop-group-preserved c k less =
    group_before c.args.byte c.args.text.now (16 * c.loop-group.group) c.position_in_16-at.result
    (omega (arith, c.loop-group-test.true)) c.position_in_16-at.ensures c.loop-group.invariant k
    (omega (arith, less, c.if-at-lt-LANES.false))

pub returns-then-at-lt-LANES-2-clause-first : goal.returns-then-at-lt-LANES-2-clause-first
returns-then-at-lt-LANES-2-clause-first c =
    group_before c.args.byte c.args.text.now (length c.args.text.now - 16) c.position_in_16-at-2.result
    (omega (arith, c.if-text-lt-LANES.false)) c.position_in_16-at-2.ensures
    (λ k less. c.loop-group.invariant k (omega (arith, less, c.loop-group-test.false)))

pub returns-then-at-lt-LANES-2-clause-found : goal.returns-then-at-lt-LANES-2-clause-found
returns-then-at-lt-LANES-2-clause-found c within =
    group_found c.args.byte c.args.text.now (length c.args.text.now - 16) c.position_in_16-at-2.result
    (omega (arith, c.if-text-lt-LANES.false)) c.position_in_16-at-2.ensures c.if-at-lt-LANES-2.true

pub returns-then-at-lt-LANES-2-clause-value : goal.returns-then-at-lt-LANES-2-clause-value
returns-then-at-lt-LANES-2-clause-value c =
    position_is c.args.byte c.args.text.now (length c.args.text.now - 16 + c.position_in_16-at-2.result)
    (omega (arith, c.if-text-lt-LANES.false, c.if-at-lt-LANES-2.true))
    (group_before c.args.byte c.args.text.now (length c.args.text.now - 16) c.position_in_16-at-2.result
    (omega (arith, c.if-text-lt-LANES.false)) c.position_in_16-at-2.ensures
    (λ k less. c.loop-group.invariant k (omega (arith, less, c.loop-group-test.false))))
    (λ within. group_found c.args.byte c.args.text.now (length c.args.text.now - 16) c.position_in_16-at-2.result
    (omega (arith, c.if-text-lt-LANES.false)) c.position_in_16-at-2.ensures c.if-at-lt-LANES-2.true)

pub returns-clause-first : goal.returns-clause-first
returns-clause-first c k less =
    group_before c.args.byte c.args.text.now (length c.args.text.now - 16) c.position_in_16-at-2.result
    (omega (arith, c.if-text-lt-LANES.false)) c.position_in_16-at-2.ensures
    (λ j few. c.loop-group.invariant j (omega (arith, few, c.loop-group-test.false))) k
    (omega (arith, less, c.if-at-lt-LANES-2.false, c.if-text-lt-LANES.false))

pub returns-clause-value : goal.returns-clause-value
returns-clause-value c =
    position_is c.args.byte c.args.text.now (length c.args.text.now) (omega arith)
    (λ k less. group_before c.args.byte c.args.text.now (length c.args.text.now - 16) c.position_in_16-at-2.result
    (omega (arith, c.if-text-lt-LANES.false)) c.position_in_16-at-2.ensures
    (λ j few. c.loop-group.invariant j (omega (arith, few, c.loop-group-test.false))) k
    (omega (arith, less, c.if-at-lt-LANES-2.false, c.if-text-lt-LANES.false)))
    (λ within. absurd (omega (arith, within)))
