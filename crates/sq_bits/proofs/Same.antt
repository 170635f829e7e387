-- Frames with the same number are equal.
use Rattle.std.proofs.Common.{◌≡◌, ℕ, ◌+◌, ◌*◌, ◌/◌, ◌<◌, ◌^◌, List, [], ◌∷◌, length, refl, sym, subst, ap, ◌∙◌, arith}
use Rattle.std.proofs.Common.{bit_xor}
use Rattle.std.proofs.lemmas.Nat.{same_from_place, xor_shr}
use Rattle.std.proofs.lemmas.Int.Digits.{number_lt}
use Rattle.std.specs.Int.Digits.{number_from_digits, number_from_digits_after, AllBelowBase}
use lib.Bits.{xor_self, xor_block}
use Rattle.sq_bits.specs.declared.frame.Frame.{Frame}
use Rattle.sq_bits.specs.Frames.{frame_number, IsFrame, xor_bytes}
use Rattle.sq_bits.proofs.Quotient.{quotient_of}
use Rattle.sq_bits.specs.Parity.{IsMultiple, IsRemainder}
use Rattle.sq_bits.proofs.Multiples.{IsMultiple-xor, IsMultiple-small, IsRemainder-sum, same_from_xor}

same_digits : (m n : ℕ) (xs ys : List ℕ) → length xs ≡ length ys → AllBelowBase 256 xs → AllBelowBase 256 ys
    → number_from_digits_after 256 m xs ≡ number_from_digits_after 256 n ys → (m ≡ n) × (xs ≡ ys)
same_digits m n [] [] long p q e = (e, refl)
same_digits m n [] (y ∷ ys) long p q e = absurd (omega arith)
same_digits m n (x ∷ xs) [] long p q e = absurd (omega arith)
same_digits m n (x ∷ xs) (y ∷ ys) long p q e =
    let rest = same_digits (m * 256 + x) (n * 256 + y) xs ys (omega arith) p.1 q.1 e in
    let first = same_from_place m x n y 256 p.0 q.0 rest.0 in
    (first.0, cc)

pub same_frame : (f g : Frame) → IsFrame f → IsFrame g → frame_number f ≡ frame_number g → f ≡ g
same_frame f g (long, p) (long', q) e =
    let bytes = (same_digits 0 0 f.0 g.0 (long ∙ sym long') p q e).1 in
    λ i. record { 0 = bytes i }

pub frame_number-lt : (f : Frame) → IsFrame f → frame_number f < 2 ^ 112
frame_number-lt f (long, p) = rw long at (number_lt 256 f.0 p)

-- multiples with the same bits above the last 24 are equal
pub same_multiple : (m n : ℕ) → IsMultiple m → IsMultiple n → m / 2 ^ 24 ≡ n / 2 ^ 24 → m ≡ n
same_multiple m n p q upper =
    let none : bit_xor m n / 2 ^ 24 ≡ 0 =
    xor_shr m n 24 ∙ ap (λ x. bit_xor x (n / 2 ^ 24)) upper ∙ xor_self (n / 2 ^ 24) in
    same_from_xor m n (IsMultiple-small (bit_xor m n) (IsMultiple-xor m n p q) (omega arith))

-- frames that are multiples and have the same first 88 bits are equal
pub same_sealed : (f g : Frame) → IsFrame f → IsFrame g → IsMultiple (frame_number f) → IsMultiple (frame_number g)
    → quotient_of f 1 88 ≡ quotient_of g 1 88 → f ≡ g
unfolding quotient_of
same_sealed f g x y p q e =
    let f_small = frame_number-lt f x in
    let g_small = frame_number-lt g y in
    same_frame f g x y (same_multiple (frame_number f) (frame_number g) p q (omega arith))

-- the number of an exclusive or is the exclusive or of the numbers
xor_numbers : (m n : ℕ) (xs ys : List ℕ) → length xs ≡ length ys → AllBelowBase 256 xs → AllBelowBase 256 ys
    → number_from_digits_after 256 (bit_xor m n) (xor_bytes xs ys)
    ≡ bit_xor (number_from_digits_after 256 m xs) (number_from_digits_after 256 n ys)
xor_numbers m n [] [] long p q = refl
xor_numbers m n [] (y ∷ ys) long p q = absurd (omega arith)
xor_numbers m n (x ∷ xs) [] long p q = absurd (omega arith)
xor_numbers m n (x ∷ xs) (y ∷ ys) long p q =
    ap (λ k. number_from_digits_after 256 k (xor_bytes xs ys)) (sym (xor_block 8 m n x y p.0 q.0))
    ∙ xor_numbers (m * 256 + x) (n * 256 + y) xs ys (omega arith) p.1 q.1

pub sum_of_frames : (f g h : Frame) (r s : ℕ) → IsFrame f → IsFrame g → h.0 ≡ xor_bytes f.0 g.0
    → IsRemainder (frame_number f) r → IsRemainder (frame_number g) s → IsRemainder (frame_number h) (bit_xor r s)
sum_of_frames f g h r s (long, p) (long', q) sum x y =
    let number : frame_number h ≡ bit_xor (frame_number f) (frame_number g)
    = ap (number_from_digits 256) sum ∙ xor_numbers 0 0 f.0 g.0 (long ∙ sym long') p q in
    subst (λ n. IsRemainder n (bit_xor r s)) (sym number) (IsRemainder-sum (frame_number f) (frame_number g) r s x y)
