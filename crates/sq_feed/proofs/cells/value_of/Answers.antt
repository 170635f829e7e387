use Rattle.std.proofs.Common.{◌+◌, get_or, arith}
use Rattle.sq_feed.proofs.Numbers.{digit_at, digit_range, no_more, one_more}
use Rattle.sq_feed.proofs.cells.value_of.Goals as goal

pub overflow_sub-byte : goal.overflow_sub-byte
overflow_sub-byte c =
    let digits = c.args.digits.now in
    let i = c.loop-byte.byte-index in
    let digit = digit_range (get_or digits i 0) (digit_at digits i c.requires c.loop-byte-test.true) in
    omega (arith, digit)

pub returns-in-None : goal.returns-in-None
returns-in-None c =
    let digits = c.args.digits.now in
    let i = c.loop-byte.byte-index in
    let more = one_more digits i c.loop-byte.number c.requires c.loop-byte-test.true c.loop-byte.invariant in
    omega (arith, more, no_more digits (i + 1), c.in-None.ensures)

pub returns-in-None-checked_add : goal.returns-in-None-checked_add
returns-in-None-checked_add c =
    let digits = c.args.digits.now in
    let i = c.loop-byte.byte-index in
    let more = one_more digits i c.loop-byte.number c.requires c.loop-byte-test.true c.loop-byte.invariant in
    omega (arith, more, no_more digits (i + 1), c.in-Some.ensures, c.in-None-checked_add.ensures, c.from.ensures)

pub loop-byte-preserved : goal.loop-byte-preserved
loop-byte-preserved c =
    let digits = c.args.digits.now in
    let i = c.loop-byte.byte-index in
    let more = one_more digits i c.loop-byte.number c.requires c.loop-byte-test.true c.loop-byte.invariant in
    omega (arith, more, c.in-Some.ensures, c.in-Some-checked_add.ensures, c.from.ensures)
