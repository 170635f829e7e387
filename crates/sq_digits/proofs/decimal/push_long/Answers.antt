use Rattle.std.proofs.Common.{arith, append_assoc}
use Rattle.sq_digits.proofs.Decimals.{decimal_millions}
use Rattle.sq_digits.proofs.decimal.push_long.Goals as goal

pub returns-then-number-lt1000000000000000-clause-bytes : goal.returns-then-number-lt1000000000000000-clause-bytes
returns-then-number-lt1000000000000000-clause-bytes g c =
    rw (
      c.push_last_six.ensures.bytes,
      c.push_nine.ensures.bytes,
      append_assoc,
      ← decimal_millions c.args.number (omega arith) (omega arith),
    )
