use Rattle.sq_feed.proofs.Numbers.{each_digit}
use Rattle.sq_feed.proofs.plain_rows.decimals_before_comma.Goals as goal

pub returns-clause-digits : goal.returns-clause-digits
returns-clause-digits c = each_digit _ c.count_digits-count.ensures.digits
