use Rattle.sq_digits.proofs.HexLanes.{all_small, are_small}
use Rattle.sq_digits.proofs.hex_lanes.are_values.Goals as goal

pub returns-clause-front : goal.returns-clause-front
returns-clause-front c none place small =
    (are_small c.args.front c.args.back c.fits-front.0 c.fits-back.0 none place small).0

pub returns-clause-back : goal.returns-clause-back
returns-clause-back c none place small =
    (are_small c.args.front c.args.back c.fits-front.0 c.fits-back.0 none place small).1

pub returns-clause-all : goal.returns-clause-all
returns-clause-all c each = all_small c.args.front c.args.back c.fits-front.0 c.fits-back.0 each
