use Rattle.std.proofs.Common.{rules}
use Rattle.sq_feed.proofs.Numbers.{short_if_some, small_if_some}
use Rattle.sq_feed.proofs.cells.number_of.Goals as goal

pub returns-clause-small : goal.returns-clause-small
returns-clause-small c =
    small_if_some c.value_of.result c.args.digits.now c.args.most c.value_of.ensures (search rules) (search rules)

pub returns-then-digits-le-SHORT-clause-small : goal.returns-then-digits-le-SHORT-clause-small
returns-then-digits-le-SHORT-clause-small c =
    short_if_some c.short_number.result c.args.digits.now c.args.most c.short_number.ensures c.if-digits-most.false
