use Rattle.sq_digits.proofs.HexLanes.{digits_known, values_known}
use Rattle.sq_digits.proofs.hex_lanes.digit_values.Goals as goal

pub returns-clause-value : goal.returns-clause-value
returns-clause-value c = values_known c.args.text c.fits-text.0 c.fits-text.1

pub returns-clause-digit : goal.returns-clause-digit
returns-clause-digit c = digits_known c.args.text c.fits-text.0 c.fits-text.1
