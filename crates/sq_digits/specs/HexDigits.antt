-- Hexadecimal digits of either case, and the bytes that they encode.
use Rattle.std.specs.Prelude.{◌≡◌, ◌+◌, ◌*◌, ◌/◌, ◌<◌, ℕ, Bool, true, List, length, map, slice_index}
use Rattle.std.specs.Char.{digit_value, is_digit}
use Rattle.std.specs.List.{AllByRecursion, range_with_len}

-- 0 to 9, A to F and a to f
abbrev pub is_hex : ℕ → Bool
is_hex byte = is_digit byte 16

abbrev pub AreHex : List ℕ → Type 0
AreHex digits = AllByRecursion (λ byte. is_hex byte ≡ true) digits

-- byte k, which digits 2 k and 2 k + 1 encode
abbrev pub byte_at : List ℕ → ℕ → ℕ
byte_at digits k = 16 * digit_value (slice_index digits (2 * k)) + digit_value (slice_index digits (2 * k + 1))

abbrev pub bytes_of : List ℕ → List ℕ
bytes_of digits = map (byte_at digits) (range_with_len 0 (length digits / 2))

-- the sixteen bytes from index `at` on are hexadecimal digits that encode these eight bytes
pub record AreSpelled (text : List ℕ) (at : ℕ) (bytes : List ℕ) : Type 0 where
  pub hex : (k : ℕ) → k < 16 → is_hex (slice_index text (at + k)) ≡ true
  pub each : (i : ℕ) → i < 8 → slice_index bytes i
      ≡ 16 * digit_value (slice_index text (at + 2 * i)) + digit_value (slice_index text (at + (2 * i + 1)))
