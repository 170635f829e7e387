-- A frame as a number, and the numbers in its bit fields. Bits are counted from 1, the most significant first.
use Rattle.std.specs.Prelude.{◌≡◌, ℕ, length, slice_index, List, [], ◌∷◌, bit_xor, map, ◌+◌, ◌*◌, ◌-◌, ◌/◌, ◌%◌, ◌≤◌, ◌⊎◌}
use Rattle.std.specs.Int.{bit_at}
use Rattle.std.specs.List.{range_with_len}
use Rattle.std.specs.Int.Digits.{number_from_digits, AllBelowBase}
use Rattle.sq_bits.specs.declared.frame.Frame.{Frame}

-- the frame as one number of 112 bits, most significant byte first
abbrev pub frame_number : Frame → ℕ
frame_number f = number_from_digits 256 f.0

-- three bytes as one number
abbrev pub word : ℕ → ℕ → ℕ → ℕ
word high middle low = (high * 256 + middle) * 256 + low

-- the three bytes from an index on, as one number
abbrev pub word_at : List ℕ → ℕ → ℕ
word_at bytes place = word (slice_index bytes place) (slice_index bytes (place + 1)) (slice_index bytes (place + 2))

-- bit `place` of a frame, from 1 on: bit 1 is the most significant bit of byte 0
abbrev pub bit_of : Frame → ℕ → ℕ
bit_of f place = bit_at (slice_index f.0 ((place - 1) / 8)) (7 - (place - 1) % 8)

-- the number in the `count` bits from `first` on, most significant first
unfoldable pub field_of : Frame → ℕ → ℕ → ℕ
field_of f first count = number_from_digits 2 (map (bit_of f) (range_with_len first count))

-- all fields that end before this bit are unchanged
abbrev pub KeepsFieldsBefore : ℕ → (old new : Frame) → Type 0
KeepsFieldsBefore bit old new =
    (start len : ℕ) → 1 ≤ start → start + len ≤ bit → field_of new start len ≡ field_of old start len

-- the `len` bits from `start` on are bits of a frame, and they share no bit with the `count` bits from `first` on
abbrev pub IsApart : ℕ → ℕ → ℕ → ℕ → Type 0
IsApart start len first count = (1 ≤ start) × (start + len ≤ 113) × ((start + len ≤ first) ⊎ (first + count ≤ start))

-- the frame is 14 bytes, as every frame of a program is
abbrev pub IsFrame : Frame → Type 0
IsFrame f = (length f.0 ≡ 14) × AllBelowBase 256 f.0

-- the bitwise exclusive or of two lists of bytes
abbrev pub xor_bytes : List ℕ → List ℕ → List ℕ
xor_bytes [] ys = []
xor_bytes (x ∷ xs) [] = []
xor_bytes (x ∷ xs) (y ∷ ys) = bit_xor x y ∷ xor_bytes xs ys
