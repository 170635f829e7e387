use Rattle.std.proofs.Common.{◌≡◌, ◌+◌, ◌-◌, ◌*◌, ℕ, drop, ap, ◌∙◌, arith}
use Rattle.std.proofs.lemmas.Str.{IsAscii-drop, IsAscii-take}
use Rattle.sq_digits.specs.Digits.{hexadecimal}
use Rattle.sq_digits.specs.declared.hexadecimal.TheConstants.{BYTES}
use Rattle.sq_digits.proofs.Bytes.{byte_at, IsAscii-bytes}
use Rattle.sq_digits.proofs.hexadecimal.two_digits.Goals as goal

pub returns-clause-ascii : goal.returns-clause-ascii
returns-clause-ascii c =
    let at : ℕ = 2 * c.from-at.result in
    rw c.as_bytes.ensures.value
    (IsAscii-take (drop at BYTES.now) (at + 2 - at) (IsAscii-drop BYTES.now at IsAscii-bytes))

pub returns-clause-digits : goal.returns-clause-digits
returns-clause-digits c =
    let width : 2 * c.from-at.result + 2 - 2 * c.from-at.result ≡ 2 = omega arith in
    rw (c.as_bytes.ensures.value, width) (
    byte_at c.from-at.result (omega arith) ∙ ap (hexadecimal 2) c.from-at.ensures
    )
