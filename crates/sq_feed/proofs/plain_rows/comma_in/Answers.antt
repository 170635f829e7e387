use Rattle.std.proofs.Common.{arith}
use Rattle.sq_feed.proofs.Positions.{before_in_16, found_in_16}
use Rattle.sq_feed.proofs.plain_rows.comma_in.Goals as goal

pub returns-clause-comma : goal.returns-clause-comma
returns-clause-comma c =
    (found_in_16 44 c.args.text.now c.position_in_16-comma.result c.requires c.position_in_16-comma.ensures
    c.if-comma-eq-LANES.false).1

pub returns-clause-few : goal.returns-clause-few
returns-clause-few c =
    (found_in_16 44 c.args.text.now c.position_in_16-comma.result c.requires c.position_in_16-comma.ensures
    c.if-comma-eq-LANES.false).0

pub returns-clause-before : goal.returns-clause-before
returns-clause-before c k less = (
  before_in_16 44 c.args.text.now c.position_in_16-comma.result k c.requires c.position_in_16-comma.ensures less,
  before_in_16 10 c.args.text.now c.position_in_16.result k c.requires c.position_in_16.ensures
      (omega (arith, less, c.if-position_in_16-comma.false)),
)
