-- Hexadecimal digits, one after another.
use Rattle.std.proofs.Common.{◌≡◌, ℕ, ◌+◌, ◌-◌, ◌*◌, ◌/◌, ◌%◌, ◌<◌, ◌^◌, [], ◌∷◌, ◌++◌, true, bit_and, refl, sym, ap}
use Rattle.std.proofs.Common.{ap₂, ◌∙◌, subst, arith, add-one}
use Rattle.std.proofs.lemmas.Nat.{shr-shr, and_mask}
use Rattle.std.specs.Fmt.{digit_glyph}
use Rattle.sq_digits.specs.Digits.{hexadecimal}

-- one more digit of a number, below those before it
pub place_more : (n places i : ℕ) → i < places
    → hexadecimal (i + 1) (n / 2 ^ (4 * (places - (i + 1))))
    ≡ hexadecimal i (n / 2 ^ (4 * (places - i))) ++ digit_glyph true (bit_and (n / 2 ^ (4 * (places - 1 - i))) 15) ∷ []
place_more n places i within =
    let k : ℕ = 4 * (places - 1 - i) in
    let low : 4 * (places - (i + 1)) ≡ k = omega arith in
    let high : 4 * (places - i) ≡ k + 4 = omega arith in
    let m : ℕ = n / 2 ^ k in
    let shifted : n / 2 ^ (4 * (places - i)) ≡ m / 16 = ap (λ x. n / 2 ^ x) high ∙ sym (shr-shr n k 4) in
    let digit : m % 16 ≡ bit_and m 15 = sym (and_mask m 4) in
    ap (λ x. hexadecimal (i + 1) (n / 2 ^ x)) low
    ∙ subst (λ j. hexadecimal j m ≡ hexadecimal i (m / 16) ++ digit_glyph true (m % 16) ∷ []) (sym (add-one i)) refl
    ∙ ap₂ (λ x d. hexadecimal i x ++ digit_glyph true d ∷ []) (sym shifted) digit
