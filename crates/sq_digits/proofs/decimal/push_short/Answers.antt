use Rattle.std.proofs.Common.{arith, append_assoc}
use Rattle.sq_digits.proofs.Decimals.{decimal_thousands}
use Rattle.sq_digits.proofs.decimal.push_short.Goals as goal

pub returns-else-number-lt1000-clause-bytes : goal.returns-else-number-lt1000-clause-bytes
returns-else-number-lt1000-clause-bytes g c =
    rw (
      c.push_next_three.ensures.bytes,
      c.push_leading-else-number-lt1000.ensures.bytes,
      append_assoc,
      ← decimal_thousands c.args.number (omega arith) (omega arith),
    )
