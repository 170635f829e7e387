-- Words of digits, sixteen at a time.
use Rattle.std.proofs.Common.{◌≡◌, ◌≤◌, ◌+◌, ◌-◌, ◌*◌, ◌/◌, ◌<◌, ◌∙◌, ◌++◌, ℕ, zero, suc, true, List, [], ◌∷◌, length, get_or, map, inl, inr}
use Rattle.std.proofs.Common.{ap, ap₂, sym, refl, subst, arith}
use Rattle.std.proofs.lemmas.Bool.{cases_lt, lt-ltb, ltb-true}
use Rattle.std.specs.Char.{digit_value}
use Rattle.std.specs.List.{range_with_len}
use Rattle.sq_digits.specs.HexDigits.{AreHex, AreSpelled, byte_at, bytes_of, is_hex}

-- all bytes are digits if the byte at each index is one
pub hex_each : (digits : List ℕ) → ((k : ℕ) → k < length digits → is_hex (get_or digits k 0) ≡ true) → AreHex digits
hex_each [] each = tt
hex_each (d ∷ digits) each = (each 0 (omega arith), hex_each digits (λ k within. each (suc k) (omega (arith, within))))

pub hex_at : (digits : List ℕ) (i : ℕ) → AreHex digits → i < length digits → is_hex (get_or digits i 0) ≡ true
hex_at [] i hex within = absurd (omega (arith, within))
hex_at (d ∷ digits) zero (is, hex) within = is
hex_at (d ∷ digits) (suc i) (is, hex) within = hex_at digits i hex (omega (arith, within))

-- the bytes that the digits encode from byte k on
abbrev pub AreFrom : List ℕ → ℕ → List ℕ → Type 0
AreFrom digits k [] = Unit {0}
AreFrom digits k (byte ∷ more) = (byte ≡ byte_at digits k) × AreFrom digits (k + 1) more

from_all : (digits bytes : List ℕ) (k : ℕ) → AreFrom digits k bytes
    → bytes ≡ map (byte_at digits) (range_with_len k (length bytes))
from_all digits [] k each = refl
from_all digits (byte ∷ bytes) k (is, each) = ap₂ (λ b bs. b ∷ bs) is (from_all digits bytes (k + 1) each)

pub are_bytes : (digits bytes : List ℕ) → length digits / 2 ≡ length bytes → AreFrom digits 0 bytes
    → bytes ≡ bytes_of digits
are_bytes digits bytes half each =
    from_all digits bytes 0 each ∙ ap (λ n. map (byte_at digits) (range_with_len 0 n)) (sym half)

-- the bytes joined from the values of sixteen digits are those that the digits encode
pub eight_spelled : (text values bytes : List ℕ) (at : ℕ)
    → ((k : ℕ) → k < 16 → get_or values k 0 < 16 → digit_value (get_or text (at + k) 0) ≡ get_or values k 0)
    → ((k : ℕ) → k < 16 → get_or values k 0 < 16)
    → ((i : ℕ) → i < 8 → get_or values (2 * i) 0 < 16 → get_or values (2 * i + 1) 0 < 16
    → get_or bytes i 0 ≡ get_or values (2 * i) 0 * 16 + get_or values (2 * i + 1) 0)
    → AreSpelled text at bytes
eight_spelled text values bytes at known few joined = record {
  hex = λ k small. lt-ltb _ 16 (subst (λ v. v < 16) (sym (known k small (few k small))) (few k small));
  each = λ i small.
      let low_place : 2 * i < 16 = omega (arith, small) in
      let high_place : 2 * i + 1 < 16 = omega (arith, small) in
      let high = known (2 * i) low_place (few (2 * i) low_place) in
      let low = known (2 * i + 1) high_place (few (2 * i + 1) high_place) in
      let both = joined i small (few (2 * i) low_place) (few (2 * i + 1) high_place) in
      omega (arith, high, low, both);
}

-- byte i of the eight is byte k of all
pub one_byte : (digits bytes : List ℕ) (at i k : ℕ) → AreSpelled digits at bytes → i < 8 → at + 2 * i ≡ 2 * k
    → get_or bytes i 0 ≡ byte_at digits k
one_byte digits bytes at i k spelled small same =
    spelled.each i small
    ∙ ap₂ (λ a b. 16 * digit_value (get_or digits a 0) + digit_value (get_or digits b 0)) same
    (omega (arith, same))

-- n bytes of eight, from byte j on
abbrev pub picked : List ℕ → ℕ → ℕ → List ℕ
picked bytes j zero = []
picked bytes j (suc n) = get_or bytes j 0 ∷ picked bytes (suc j) n

-- the picked bytes are bytes of all, followed by the others
pub from_picked : (digits bytes more : List ℕ) (at j n k : ℕ) → AreSpelled digits at bytes → j + n ≤ 8
    → at + 2 * j ≡ 2 * k → AreFrom digits (k + n) more → AreFrom digits k (picked bytes j n ++ more)
from_picked digits bytes more at j zero k spelled few same rest =
    let none : k + 0 ≡ k = omega arith in
    subst (λ m. AreFrom digits m more) none rest
from_picked digits bytes more at j (suc n) k spelled few same rest =
    let next : k + suc n ≡ k + 1 + n = omega arith in (
      one_byte digits bytes at j k spelled (omega (arith, few)) same,
      from_picked digits bytes more at (suc j) n (k + 1) spelled (omega (arith, few)) (omega (arith, same))
          (subst (λ m. AreFrom digits m more) next rest),
    )

pub hex_28 : (digits first last : List ℕ) → length digits ≡ 28 → AreSpelled digits 0 first → AreSpelled digits 12 last
    → AreHex digits
hex_28 digits first last long f l = hex_each digits (λ k within. at k (omega (arith, within, long)))
  where
    at : (k : ℕ) → k < 28 → is_hex (get_or digits k 0) ≡ true
    at k small = elim (cases_lt k 16) [
      | inl low ↦ let place : k ≡ 0 + k = omega arith in ap (λ n. is_hex (get_or digits n 0)) place ∙ f.hex k low
      | inr up ↦
          let place : 12 + (k - 12) ≡ k = omega (arith, up) in
          ap (λ n. is_hex (get_or digits n 0)) (sym place) ∙ l.hex (k - 12) (omega (arith, small, up))
    ]

pub hex_40 : (digits first middle last : List ℕ) → length digits ≡ 40 → AreSpelled digits 0 first
    → AreSpelled digits 16 middle → AreSpelled digits 24 last → AreHex digits
hex_40 digits first middle last long f m l = hex_each digits (λ k within. at k (omega (arith, within, long)))
  where
    at : (k : ℕ) → k < 40 → is_hex (get_or digits k 0) ≡ true
    at k small = elim (cases_lt k 16) [
      | inl low ↦ let place : k ≡ 0 + k = omega arith in ap (λ n. is_hex (get_or digits n 0)) place ∙ f.hex k low
      | inr up ↦ elim (cases_lt k 32) [
        | inl mid ↦
            let place : 16 + (k - 16) ≡ k = omega (arith, up) in
            ap (λ n. is_hex (get_or digits n 0)) (sym place) ∙ m.hex (k - 16) (omega (arith, mid, up))
        | inr high ↦
            let place : 24 + (k - 24) ≡ k = omega (arith, high) in
            ap (λ n. is_hex (get_or digits n 0)) (sym place) ∙ l.hex (k - 24) (omega (arith, small, high))
      ]
    ]
