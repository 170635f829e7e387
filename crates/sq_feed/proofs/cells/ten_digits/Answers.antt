use Rattle.std.proofs.Common.{◌+◌, ◌<◌, ◌∙◌, ap, arith, get_or, length}
use Rattle.std.specs.Str.Parse.{digits_value}
use Rattle.std.proofs.lemmas.List.{take_all}
use Rattle.sq_feed.proofs.Numbers.{digit_at, digit_range, no_more, one_more, small_value}
use Rattle.sq_feed.proofs.cells.ten_digits.Goals as goal

pub overflow_sub-number : goal.overflow_sub-number
overflow_sub-number c =
    let digits = c.args.digits.now in
    let at = c.loop-at.at in
    let digit = digit_range (get_or digits at 0)
    (digit_at digits at c.requires.digits (omega (arith, c.requires.long, c.loop-at-test.true))) in
    omega (arith, digit, c.from.ensures, c.from-in-loop-at.ensures)

pub overflow_mul-number : goal.overflow_mul-number
overflow_mul-number c =
    let digits = c.args.digits.now in
    let at = c.loop-at.at in
    let next = one_more digits at c.loop-at.number c.requires.digits
    (omega (arith, c.requires.long, c.loop-at-test.true)) c.loop-at.invariant in
    let all = small_value digits 10 c.requires.digits (omega (arith, c.requires.long)) in
    omega (arith, next, no_more digits (at + 1), all)

pub overflow_add-number : goal.overflow_add-number
overflow_add-number c =
    let digits = c.args.digits.now in
    let at = c.loop-at.at in
    let within : at < length digits = omega (arith, c.requires.long, c.loop-at-test.true) in
    let digit = digit_range (get_or digits at 0) (digit_at digits at c.requires.digits within) in
    let next = one_more digits at c.loop-at.number c.requires.digits within c.loop-at.invariant in
    let all = small_value digits 10 c.requires.digits (omega (arith, c.requires.long)) in
    omega (arith, digit, next, no_more digits (at + 1), all, c.from.ensures)

pub loop-at-preserved : goal.loop-at-preserved
loop-at-preserved c =
    let digits = c.args.digits.now in
    let at = c.loop-at.at in
    let within : at < length digits = omega (arith, c.requires.long, c.loop-at-test.true) in
    let digit = digit_range (get_or digits at 0) (digit_at digits at c.requires.digits within) in
    let next = one_more digits at c.loop-at.number c.requires.digits within c.loop-at.invariant in
    omega (arith, digit, next, c.from.ensures, c.from-in-loop-at.ensures)

pub returns-clause-value : goal.returns-clause-value
returns-clause-value c =
    c.loop-at.invariant
    ∙ ap (digits_value 10) (take_all c.loop-at.at c.args.digits.now (omega
    (arith, c.requires.long, c.loop-at-test.false)))

pub returns-clause-small : goal.returns-clause-small
returns-clause-small c =
    let all = small_value c.args.digits.now 10 c.requires.digits (omega (arith, c.requires.long)) in
    omega (arith, c.loop-at.invariant, no_more c.args.digits.now c.loop-at.at, all)
