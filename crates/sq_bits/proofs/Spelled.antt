-- Fields as the numbers in their bits.
use Rattle.std.proofs.Common.{◌≡◌, ℕ, zero, suc, ◌+◌, ◌*◌, ◌/◌, ◌<◌, ◌≤◌, ◌^◌, map, refl, sym, ap, ◌∙◌, subst, arith}
use Rattle.std.proofs.Common.{add-one}
use Rattle.std.proofs.Math.Nat.{pow-suc}
use Rattle.std.proofs.lemmas.Nat.{shr_high, same_from_place}
use Rattle.std.proofs.lemmas.Int.Digits.{number_push}
use Rattle.std.proofs.lemmas.List.FromFn.{map-range_with_len_more}
use Rattle.std.specs.List.{range_with_len}
use Rattle.std.specs.Int.Digits.{number_from_digits}
use Rattle.sq_bits.specs.declared.frame.Frame.{Frame}
use Rattle.sq_bits.specs.Frames.{frame_number, field_of, bit_of, IsFrame}
use Rattle.sq_bits.specs.Parity.{IsMultiple}
use Rattle.sq_bits.proofs.Quotient.{quotient_of}
use Rattle.sq_bits.proofs.BitLaws.{field_spelled}
use Rattle.sq_bits.proofs.Same.{same_sealed as same_sealed_quotient}

-- the number that the code computes is the field
pub quotient_is : (f : Frame) (first count : ℕ) → IsFrame f → 1 ≤ first → first + count ≤ 113
    → quotient_of f first count ≡ field_of f first count
unfolding field_of
quotient_is f first count is begins within = field_spelled f first count is begins within

-- one more bit after a field
field_more : (f : Frame) (first count : ℕ)
    → field_of f first (suc count) ≡ field_of f first count * 2 + bit_of f (first + count)
unfolding field_of
field_more f first count =
    subst (λ c. number_from_digits 2 (map (bit_of f) (range_with_len first c))
    ≡ number_from_digits 2 (map (bit_of f) (range_with_len first count)) * 2 + bit_of f (first + count))
    (add-one count)
    (ap (number_from_digits 2) (map-range_with_len_more (bit_of f) first count (first + count) refl)
    ∙ number_push 2 (map (bit_of f) (range_with_len first count)) (bit_of f (first + count)))

field_none : (f : Frame) (first : ℕ) → field_of f first 0 ≡ 0
unfolding field_of
field_none f first = refl

-- a field is its leading bits followed by the others
pub field_parts : (f : Frame) (first a b : ℕ)
    → field_of f first (a + b) ≡ field_of f first a * 2 ^ b + field_of f (first + a) b
field_parts f first a zero =
    let same : a + 0 ≡ a = omega arith in
    subst (λ c. field_of f first c ≡ field_of f first a * 2 ^ 0 + field_of f (first + a) 0) (sym same)
    (omega (arith, field_none f (first + a)))
field_parts f first a (suc b) =
    let before = field_parts f first a b in
    let left = field_more f first (a + b) in
    let right = field_more f (first + a) b in
    let wide : 2 ^ suc b ≡ 2 ^ b * 2 = pow-suc 2 b in
    let place : first + (a + b) ≡ (first + a) + b = omega arith in
    let left' : field_of f first (suc (a + b)) ≡ field_of f first (a + b) * 2 + bit_of f ((first + a) + b)
    = left ∙ ap (λ p. field_of f first (a + b) * 2 + bit_of f p) place in
    let count : suc (a + b) ≡ a + suc b = omega arith in
    subst (λ c. field_of f first c ≡ field_of f first a * 2 ^ suc b + field_of f (first + a) (suc b)) count
    (rw (wide, right) (omega (arith, before, left')))

pub field_small : (f : Frame) (first count : ℕ) → field_of f first count < 2 ^ count
field_small f first zero = omega (arith, field_none f first)
field_small f first (suc count) =
    let before = field_small f first count in
    let bit : bit_of f (first + count) < 2 = omega arith in
    let wide : 2 ^ suc count ≡ 2 ^ count * 2 = pow-suc 2 count in
    rw (wide, field_more f first count) (omega arith)

-- the leading bits of a field
pub leading_field : (f : Frame) (first a b : ℕ) → field_of f first (a + b) / 2 ^ b ≡ field_of f first a
leading_field f first a b =
    ap (λ x. x / 2 ^ b) (field_parts f first a b)
    ∙ shr_high (field_of f first a) b (field_of f (first + a) b) (field_small f (first + a) b)

-- frames that agree on two fields side by side agree on both as one
pub join_fields : (f g : Frame) (first a b : ℕ) → field_of f first a ≡ field_of g first a
    → field_of f (first + a) b ≡ field_of g (first + a) b
    → field_of f first (a + b) ≡ field_of g first (a + b)
join_fields f g first a b left right = field_parts f first a b ∙ rw (left, right) (sym (field_parts g first a b))

pub same_sealed : (f g : Frame) → IsFrame f → IsFrame g → IsMultiple (frame_number f) → IsMultiple (frame_number g)
    → field_of f 1 88 ≡ field_of g 1 88 → f ≡ g
same_sealed f g x y p q e =
    same_sealed_quotient f g x y p q
    (quotient_is f 1 88 x (omega arith) (omega arith) ∙ e ∙ sym (quotient_is g 1 88 y (omega arith) (omega arith)))

-- a field of two parts: its leading bits are the first part, and its trailing bits the second
pub split_field : (f : Frame) (first a b x y : ℕ) → y < 2 ^ b → field_of f first (a + b) ≡ x * 2 ^ b + y
    → (field_of f first a ≡ x) × (field_of f (first + a) b ≡ y)
split_field f first a b x y small is =
    let parts = same_from_place (field_of f first a) (field_of f (first + a) b) x y (2 ^ b)
    (field_small f (first + a) b) small (sym (field_parts f first a b) ∙ is) in
    (parts.0, parts.1)
