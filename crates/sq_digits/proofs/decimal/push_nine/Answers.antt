use Rattle.std.proofs.Common.{arith, append_assoc}
use Rattle.sq_digits.proofs.Decimals.{decimal_millions}
use Rattle.sq_digits.proofs.decimal.push_nine.Goals as goal

pub returns-else-number-lt1000000-clause-bytes : goal.returns-else-number-lt1000000-clause-bytes
returns-else-number-lt1000000-clause-bytes g c =
    rw (
      c.push_last_six.ensures.bytes,
      c.push_leading.ensures.bytes,
      append_assoc,
      ← decimal_millions c.args.number (omega arith) (omega arith),
    )
