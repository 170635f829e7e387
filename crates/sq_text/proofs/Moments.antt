-- Timestamps and the spaces after them.
use Rattle.std.proofs.Common.{◌≡◌, ◌+◌, ◌<◌, ◌≤◌, ◌++◌, ◌*◌, ◌^◌, ℕ, List, [], ◌∷◌, length, take, get_or, suc, zero}
use Rattle.std.proofs.Common.{◌∙◌, ◌⊎◌, inl, inr, ap, sym, subst, arith, refl, add-one}
use Rattle.std.proofs.lemmas.Bool.{cases_lt}
use Rattle.std.proofs.lemmas.List.{get_or-take, length-append, length-take}
use Rattle.std.proofs.Math.Seq.{take-append_seam}
use Rattle.std.proofs.Math.Nat.{pow-le-pow_right}
use Rattle.std.proofs.lemmas.Nat.{pow-add}
use Rattle.std.specs.Char.{IsAsciiDigit}
use Rattle.std.specs.List.{AllByRecursion}
use Rattle.sq_text.specs.Timed.{IsMomentLine}

-- each byte of digits is a digit
pub digit_at : (ds : List ℕ) (i : ℕ) → AllByRecursion IsAsciiDigit ds → i < length ds → IsAsciiDigit (get_or ds i 0)
digit_at [] i all within = absurd (omega (arith, within))
digit_at (d ∷ ds) zero all within = all.0
digit_at (d ∷ ds) (suc i) all within = digit_at ds i all.1 (omega (arith, within))

-- the bytes before the space of a timestamp are digits
pub digit_before : (ds rest : List ℕ) (i : ℕ) → AllByRecursion IsAsciiDigit ds → i < length ds
    → IsAsciiDigit (get_or (ds ++ 32 ∷ rest) i 0)
digit_before [] rest i all within = absurd (omega (arith, within))
digit_before (d ∷ ds) rest zero all within = all.0
digit_before (d ∷ ds) rest (suc i) all within = digit_before ds rest i all.1 (omega (arith, within))

space_after : (ds rest : List ℕ) → get_or (ds ++ 32 ∷ rest) (length ds) 0 ≡ 32
space_after [] rest = refl
space_after (d ∷ ds) rest = space_after ds rest

-- the space of a line with a timestamp
module _ (text rest : List ℕ) (moment : ℕ) (line : IsMomentLine text rest moment) where
  pub space_is : get_or text (length line.digits) 0 ≡ 32
  space_is = ap (λ l. get_or l (length line.digits) 0) line.whole ∙ space_after line.digits rest

  pub space_within : length line.digits < length text
  space_within = omega (arith, ap length line.whole, length-append line.digits (32 ∷ rest))

  pub digits_are : line.digits ≡ take (length line.digits) text
  digits_are = sym (ap (take (length line.digits)) line.whole ∙ take-append_seam line.digits (32 ∷ rest))

  -- digits at the front of the text are digits of the timestamp
  pub no_fewer : (count : ℕ) → AllByRecursion IsAsciiDigit (take count text) → count ≤ length line.digits
  no_fewer count all = by (cases_lt (length line.digits) count)
    where
      n : ℕ
      n = length line.digits

      by : (n < count) ⊎ (count ≤ n) → count ≤ n
      by (inl less) =
          let long : n < length (take count text) = omega (arith, less, space_within, length-take count text) in
          let digit : IsAsciiDigit (get_or (take count text) n 0) = digit_at (take count text) n all long in
          let same : get_or (take count text) n 0 ≡ get_or text n 0 = get_or-take count text n 0 less in
          absurd (omega (arith, digit.0, digit.1, same, space_is))
      by (inr enough) = enough

  -- a timestamp ends with the digits at the front of the text
  pub no_more : (count : ℕ) → ¬ IsAsciiDigit (get_or text count 0) → length line.digits ≤ count
  no_more count ends = by (cases_lt count (length line.digits))
    where
      by : (count < length line.digits) ⊎ (length line.digits ≤ count) → length line.digits ≤ count
      by (inl less) = absurd (ends (subst (λ l. IsAsciiDigit (get_or l count 0)) (sym line.whole)
          (digit_before line.digits rest count line.of_moment.each less)))
      by (inr enough) = enough

  -- after nineteen digits without a space, the timestamp has twenty digits
  pub twenty_digits : AllByRecursion IsAsciiDigit (take 19 text) → (19 < length text → ¬ (get_or text 19 0 ≡ 32))
      → length line.digits ≡ 20
  twenty_digits all apart = by (cases_lt 19 (length line.digits))
    where
      by : (19 < length line.digits) ⊎ (length line.digits ≤ 19) → length line.digits ≡ 20
      by (inl more) = omega (arith, more, line.of_moment.twenty)
      by (inr few) =
          let is : length line.digits ≡ 19 = omega (arith, few, no_fewer 19 all) in
          absurd (apart (omega (arith, is, space_within)) (ap (λ n. get_or text n 0) (sym is) ∙ space_is))

pub pow_ten : (n : ℕ) → 10 ^ (n + 1) ≡ 10 ^ n * 10
pow_ten n = pow-add 10 n 1

-- a number that fits i digits fits n digits if i ≤ n
pub fits_more : (n i value : ℕ) → i ≤ n → value < 10 ^ i → value < 10 ^ n
fits_more n i value few small =
    let most : 10 ^ i ≤ 10 ^ n = pow-le-pow_right (omega arith) few in omega (arith, most, small)

-- one more digit after digits
pub digits_suc : (text : List ℕ) (i : ℕ) → i < length text → AllByRecursion IsAsciiDigit (take i text)
    → IsAsciiDigit (get_or text i 0) → AllByRecursion IsAsciiDigit (take (suc i) text)
digits_suc [] i within before digit = absurd (omega (arith, within))
digits_suc (x ∷ xs) zero within before digit = (digit, tt)
digits_suc (x ∷ xs) (suc i) within before digit = (before.0, digits_suc xs i (omega (arith, within)) before.1 digit)

pub digits_more : (text : List ℕ) (i : ℕ) → i < length text → AllByRecursion IsAsciiDigit (take i text)
    → IsAsciiDigit (get_or text i 0) → AllByRecursion IsAsciiDigit (take (i + 1) text)
digits_more text i within before digit =
    subst (λ j. AllByRecursion IsAsciiDigit (take j text)) (sym (add-one i)) (digits_suc text i within before digit)
