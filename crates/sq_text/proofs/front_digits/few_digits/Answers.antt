use Rattle.std.proofs.Common.{◌≡◌, ◌+◌, ◌-◌, ◌*◌, ◌^◌, ◌%◌, ◌∙◌, ℕ, List, ap, arith, bit_and, length, take}
use Rattle.std.proofs.lemmas.Int.Digits.{number_lt}
use Rattle.std.proofs.lemmas.List.{length-take-le}
use Rattle.std.specs.Int.Digits.{number_from_digits}
use Rattle.sq_text.proofs.LeadingDigits.{values, values_long, values_number, values_small, values_word}
use Rattle.sq_text.proofs.front_digits.few_digits.Goals as goal

-- the digits, and the number of bytes before them in the word
abbrev digits_of : goal.After-eight_digits → List ℕ
digits_of c = take c.args.count c.args.text.now

abbrev zeros_of : goal.After-eight_digits → ℕ
zeros_of c = 8 - c.args.count

whole : (c : goal.After-eight_digits) → length (digits_of c) + zeros_of c ≡ 8
whole c =
    let long = length-take-le c.args.count c.args.text.now (omega (arith, c.requires.few, c.requires.room)) in
    omega (arith, long, c.requires.few)

-- the result of `eight_digits`
answer : (c : goal.After-eight_digits)
    → c.eight_digits.result ≡ number_from_digits 10 (values (zeros_of c) (digits_of c))
answer c =
    let word = ap (λ n. bit_and (n * 2 ^ (8 * zeros_of c) % 2 ^ 64) 1085102592571150095) c.from_le_bytes-word.ensures
    ∙ values_word c.args.text.now c.args.count c.requires.few c.requires.room c.requires.digits in
    c.eight_digits.ensures (values (zeros_of c) (digits_of c)) (values_long (zeros_of c) (digits_of c) (whole c))
    (values_small (zeros_of c) (digits_of c) c.requires.digits) word

pub returns-clause-value : goal.returns-clause-value
returns-clause-value c = answer c ∙ values_number (zeros_of c) (digits_of c)

pub returns-clause-small : goal.returns-clause-small
returns-clause-small c =
    let vs : List ℕ = values (zeros_of c) (digits_of c) in
    let long = values_long (zeros_of c) (digits_of c) (whole c) in
    let below = number_lt 10 vs (values_small (zeros_of c) (digits_of c) c.requires.digits) in
    omega (arith, answer c, below, ap (λ n. 10 ^ n) long)
