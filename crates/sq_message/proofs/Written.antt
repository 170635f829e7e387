-- Fields of several parts: their bits encode the parts.
use Rattle.std.proofs.Common.{◌≡◌, ℕ, ◌+◌, ◌*◌, ◌<◌, ◌^◌, Bool, true, false, refl, arith}
use Rattle.std.specs.Int.{from_bool}
use Rattle.sq_bits.specs.declared.frame.Frame.{Frame}
use Rattle.sq_bits.specs.Frames.{field_of}
use Rattle.sq_bits.proofs.Spelled.{split_field}
use Rattle.sq_message.specs.Spelling.{bit}

-- `true` is the bit 1, and `false` is the bit 0
pub bit_is : (b : Bool) → (from_bool b ≡ bit b) × (from_bool b < 2)
bit_is true = (refl, omega arith)
bit_is false = (refl, omega arith)

pub three_parts : (f : Frame) (first a b c x y z : ℕ) → y < 2 ^ b → z < 2 ^ c
    → field_of f first (a + b + c) ≡ (x * 2 ^ b + y) * 2 ^ c + z
    → (field_of f first a ≡ x) × (field_of f (first + a) b ≡ y) × (field_of f (first + (a + b)) c ≡ z)
three_parts f first a b c x y z second third is =
    let last = split_field f first (a + b) c (x * 2 ^ b + y) z third is in
    let front = split_field f first a b x y second last.0 in
    (front.0, front.1, last.1)

pub five_parts : (f : Frame) (first a b c d e v w x y z : ℕ) → w < 2 ^ b → x < 2 ^ c → y < 2 ^ d → z < 2 ^ e
    → field_of f first (a + b + c + d + e) ≡ (((v * 2 ^ b + w) * 2 ^ c + x) * 2 ^ d + y) * 2 ^ e + z
    → (field_of f first a ≡ v) × (field_of f (first + a) b ≡ w) × (field_of f (first + (a + b)) c ≡ x)
    × (field_of f (first + (a + b + c)) d ≡ y) × (field_of f (first + (a + b + c + d)) e ≡ z)
five_parts f first a b c d e v w x y z second third fourth fifth is =
    let last = split_field f first (a + b + c + d) e (((v * 2 ^ b + w) * 2 ^ c + x) * 2 ^ d + y) z fifth is in
    let front = split_field f first (a + b + c) d ((v * 2 ^ b + w) * 2 ^ c + x) y fourth last.0 in
    let three = three_parts f first a b c v w x second third front.0 in
    (three.0, three.1, three.2, front.1, last.1)
