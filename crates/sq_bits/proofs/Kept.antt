-- Fields are unchanged exactly if their bits are.
use Rattle.std.proofs.Common.{◌≡◌, ℕ, ◌+◌, ◌≤◌, ◌<◌, ◌∷◌, refl, sym, ap, ◌∙◌, arith, zero, suc, map}
use Rattle.std.specs.List.{range_with_len}
use Rattle.std.specs.Int.Digits.{number_from_digits}
use Rattle.sq_bits.specs.declared.frame.Frame.{Frame}
use Rattle.sq_bits.specs.Frames.{KeepsFieldsBefore, bit_of, field_of}

zero_more : (n : ℕ) → 0 + n ≡ n
zero_more n = omega arith

-- a field of one bit is that bit
one_bit : (f : Frame) (place : ℕ) → field_of f place 1 ≡ bit_of f place
unfolding field_of
one_bit f place = zero_more (bit_of f place)

-- functions that agree on a range give the same list there
same_map : (f g : ℕ → ℕ) (a n : ℕ) → ((i : ℕ) → a ≤ i → i < a + n → f i ≡ g i)
    → map f (range_with_len a n) ≡ map g (range_with_len a n)
same_map f g a zero same = refl
same_map f g a (suc n) same =
    ap (λ x. x ∷ map f (range_with_len (a + 1) n)) (same a (omega arith) (omega arith))
    ∙ ap (λ xs. g a ∷ xs) (same_map f g (a + 1) n (λ i from below. same i (omega (arith, from)) (omega (arith, below))))

-- a field with unchanged bits is unchanged
field_kept : (old new : Frame) (start len : ℕ)
    → ((place : ℕ) → start ≤ place → place < start + len → bit_of new place ≡ bit_of old place)
    → field_of new start len ≡ field_of old start len
unfolding field_of
field_kept old new start len same = ap (number_from_digits 2) (same_map (bit_of new) (bit_of old) start len same)

-- if the fields before a bit are unchanged, so are the bits
pub bits_kept : (bit : ℕ) (old new : Frame) → KeepsFieldsBefore bit old new
    → (place : ℕ) → 1 ≤ place → place < bit → bit_of new place ≡ bit_of old place
bits_kept bit old new kept place some before =
    sym (one_bit new place) ∙ kept place 1 some (omega (arith, before)) ∙ one_bit old place

-- if the bits before a bit are unchanged, so are the fields
pub fields_kept : (bit : ℕ) (old new : Frame)
    → ((place : ℕ) → 1 ≤ place → place < bit → bit_of new place ≡ bit_of old place) → KeepsFieldsBefore bit old new
fields_kept bit old new same start len some within =
    field_kept old new start len (λ place from below.
    same place (omega (arith, some, from)) (omega (arith, within, below)))
