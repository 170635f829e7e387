-- Numbers in digits.
use Rattle.std.proofs.Common.{◌≡◌, ◌+◌, ◌-◌, ◌*◌, ◌<◌, ◌≤◌, ◌^◌, ◌∙◌, ℕ, zero, suc, Bool, true, false, List, [], ◌∷◌, length, take, drop}
use Rattle.std.proofs.Common.{get_or, ap, ap₂, refl, sym, arith, rules, add-one, drop-cons, drop_of_length-le}
use Rattle.std.specs.Prelude.{◌&&◌, IfSome, MatchOption, Option, Some, None}
use Rattle.std.specs.Char.{IsAsciiDigit, is_ascii_digit}
use Rattle.std.specs.List.{AllByRecursion}
use Rattle.std.specs.Str.Parse.{digits_value}
use Rattle.std.proofs.lemmas.Bool.{and_parts}
use Rattle.std.proofs.Math.Nat.{pow-le-pow_right}
use Rattle.std.proofs.lemmas.Nat.{pow-add}
use Rattle.std.proofs.lemmas.Int.Digits.{digits_value_more}
use Rattle.std.proofs.lemmas.Str.{digit_value_digit}
use Rattle.std.proofs.lemmas.Str.Parse.{IsNumeralModel, digits_value-take-le, digits_value_short, numerals_by_value}
use Rattle.sq_feed.specs.Cells.{are_digits}

-- a digit at the front does not change whether all bytes are digits
pub digits_from : (text : List ℕ) (i : ℕ) → i < length text → is_ascii_digit (get_or text i 0) ≡ true
    → are_digits (drop i text) ≡ are_digits (drop (i + 1) text)
digits_from text i within is =
    ap are_digits (drop-cons text i 0 within) ∙ ap (λ (t : Bool). t && are_digits (drop (suc i) text)) is
    ∙ ap (λ n. are_digits (drop n text)) (sym (add-one i))

pub no_digits : (text : List ℕ) (i : ℕ) → i < length text → is_ascii_digit (get_or text i 0) ≡ false
    → are_digits (drop i text) ≡ false
no_digits text i within is =
    ap are_digits (drop-cons text i 0 within) ∙ ap (λ (t : Bool). t && are_digits (drop (suc i) text)) is

pub digit_at : (text : List ℕ) (i : ℕ) → are_digits text ≡ true → i < length text
    → is_ascii_digit (get_or text i 0) ≡ true
digit_at [] i all within = absurd (omega (arith, within))
digit_at (b ∷ text) zero all within = (and_parts (is_ascii_digit b) (are_digits text) all).0
digit_at (b ∷ text) (suc i) all within =
    digit_at text i (and_parts (is_ascii_digit b) (are_digits text) all).1 (omega (arith, within))

pub digit_range : (byte : ℕ) → is_ascii_digit byte ≡ true → IsAsciiDigit byte
digit_range byte is = search rules

-- all bytes are digits if each is one
pub each_digit : (text : List ℕ) → AllByRecursion IsAsciiDigit text → are_digits text ≡ true
each_digit [] each = refl
each_digit (byte ∷ text) (is, each) =
    let one : is_ascii_digit byte ≡ true = search rules in
    ap₂ (λ (s t : Bool). s && t) one (each_digit text each)

-- a function of the rest of a list, at its end
pub all_gone : {B : Type 0} (f : List ℕ → B) {b : B} → f [] ≡ b → (text : List ℕ) (i : ℕ) → length text ≤ i
    → f (drop i text) ≡ b
all_gone f is text i past = ap f (drop_of_length-le text past) ∙ is

-- a number and its next digit, if all bytes are digits
pub one_more : (text : List ℕ) (i number : ℕ) → are_digits text ≡ true → i < length text
    → number ≡ digits_value 10 (take i text)
    → number * 10 + (get_or text i 0 - 48) ≡ digits_value 10 (take (i + 1) text)
one_more text i number all within is =
    let value = digit_value_digit (get_or text i 0) (digit_range (get_or text i 0) (digit_at text i all within)) in
    omega (arith, digits_value_more 10 text i within, value, is)

pub no_more : (text : List ℕ) (i : ℕ) → digits_value 10 (take i text) ≤ digits_value 10 text
no_more text i = digits_value-take-le 10 text i (omega arith)

own : IsNumeralModel (λ ds. are_digits ds ≡ true) (digits_value 10)
own = numerals_by_value (λ ds. are_digits ds ≡ true) (search rules)

pub small_value : (ds : List ℕ) (k : ℕ) → are_digits ds ≡ true → length ds ≤ k → digits_value 10 ds < 10 ^ k
small_value ds k all few = digits_value_short own ds k all few

pub small_if_some : (r : Option ℕ) (ds : List ℕ) (most : ℕ)
    → MatchOption r (2 ^ 64 ≤ digits_value 10 ds) (λ n. n ≡ digits_value 10 ds) → are_digits ds ≡ true
    → length ds ≤ most
    → IfSome r (λ n. n < 10 ^ most)
small_if_some None ds most is all few = tt
small_if_some (Some n) ds most is all few = omega (arith, is, small_value ds most all few)

-- a number and its next digit, if this byte is a digit
pub next_digit : (text : List ℕ) (i number : ℕ) → is_ascii_digit (get_or text i 0) ≡ true → i < length text
    → number ≡ digits_value 10 (take i text)
    → number * 10 + (get_or text i 0 - 48) ≡ digits_value 10 (take (i + 1) text)
next_digit text i number digit within is =
    let value = digit_value_digit (get_or text i 0) (digit_range (get_or text i 0) digit) in
    omega (arith, digits_value_more 10 text i within, value, is)

pub below_next : (i number digit : ℕ) → number < 10 ^ i → digit < 10 → number * 10 + digit < 10 ^ (i + 1)
below_next i number digit small low =
    let more : 10 ^ (i + 1) ≡ 10 ^ i * 10 = pow-add 10 i 1 in omega (arith, more, small, low)

pub below_19 : (i number : ℕ) → i ≤ 18 → number < 10 ^ i → number < 10 ^ 18
below_19 i number few small = omega (arith, small, pow-le-pow_right {n = 10} (omega arith) few)

pub short_if_some : (r : Option ℕ) (ds : List ℕ) (most : ℕ)
    → MatchOption r (are_digits ds ≡ false) (λ n. (are_digits ds ≡ true) × (n ≡ digits_value 10 ds)) → length ds ≤ most
    → IfSome r (λ n. n < 10 ^ most)
short_if_some None ds most is few = tt
short_if_some (Some n) ds most (all, is) few = omega (arith, is, small_value ds most all few)
