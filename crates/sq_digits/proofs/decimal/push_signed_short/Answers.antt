use Rattle.std.proofs.Common.{of_z, to_z, to_z-of_z, w64}
use Rattle.sq_digits.proofs.Decimals.{signed_pushed}
use Rattle.sq_digits.proofs.decimal.push_signed_short.Goals as goal

pub returns-clause-bytes : goal.returns-clause-bytes
returns-clause-bytes g c =
    signed_pushed c.args.text.now.bytes c.push_minus.new.text.bytes c.push_short.new.text.bytes
    (to_z w64 (of_z w64 c.args.number)) c.args.number c.unsigned_abs.result (to_z-of_z c.ranges.number)
    c.push_minus.ensures.bytes c.unsigned_abs.ensures.value c.push_short.ensures.bytes
