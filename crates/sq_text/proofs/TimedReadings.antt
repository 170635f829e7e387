-- Each text has exactly one reading as a squitter with its timestamp.
use Rattle.std.proofs.Common.{◌≡◌, ◌^◌, ◌++◌, ◌∙◌, ◌⊎◌, ℕ, List, [], ◌∷◌, Result, Ok, Err, length, refl, sym, ap, subst}
use Rattle.std.proofs.Common.{ap₂, inl, inr, arith}
use Rattle.std.proofs.lemmas.Bool.{cases_eq, cases_lt}
use Rattle.std.specs.Char.{IsAsciiDigit}
use Rattle.std.specs.List.{AllByRecursion}
use Rattle.std.specs.Str.Parse.{digits_value}
use Rattle.sq_message.specs.declared.squitter.Squitter.{Squitter}
use Rattle.sq_text.specs.declared.faults.LineFault.{LineFault}
use Rattle.sq_text.specs.declared.faults.LineFault.TheVariants.{Moment}
use Rattle.sq_message.specs.declared.received.Received.{Received}
use Rattle.sq_text.specs.Reading.{IsSquitterReading}
use Rattle.sq_text.specs.Timed.{HasNoMoment, IsMomentLine, IsDecimalText, IsTimedReading}
use Rattle.sq_text.proofs.OneReading.{one_squitter_reading}
use Rattle.sq_text.proofs.SomeReading.{some_squitter_reading}

-- no byte is a space
abbrev HasNoSpace : List ℕ → Type 0
HasNoSpace bytes = AllByRecursion (λ byte. ¬ (byte ≡ 32)) bytes

-- digits contain no space
digits_without_space : (ds : List ℕ) → AllByRecursion IsAsciiDigit ds → HasNoSpace ds
digits_without_space [] all = tt
digits_without_space (d ∷ ds) all = (λ is. absurd (omega (arith, is, all.0)), digits_without_space ds all.1)

-- a text splits at its first space in at most one way
one_front : (a b rest more : List ℕ) → HasNoSpace a → HasNoSpace b → a ++ 32 ∷ rest ≡ b ++ 32 ∷ more
    → (a ≡ b) × (rest ≡ more)
one_front [] [] rest more p q is = (refl, cc is)
one_front [] (y ∷ ys) rest more p q is = let same : 32 ≡ y = cc is in absurd (q.0 (sym same))
one_front (x ∷ xs) [] rest more p q is = let same : x ≡ 32 = cc is in absurd (p.0 same)
one_front (x ∷ xs) (y ∷ ys) rest more p q is =
    let first : x ≡ y = cc is in
    let others : xs ++ 32 ∷ rest ≡ ys ++ 32 ∷ more = cc is in
    let same = one_front xs ys rest more p.1 q.1 others in
    (ap₂ (λ c (l : List ℕ). c ∷ l) first same.0, same.1)

-- a text without a space does not split at a space
no_front : (text a rest : List ℕ) → HasNoSpace text → text ≡ a ++ 32 ∷ rest → ⊥
no_front [] [] rest none is = absurd (cc is)
no_front [] (y ∷ ys) rest none is = absurd (cc is)
no_front (x ∷ xs) [] rest none is = let same : x ≡ 32 = cc is in none.0 same
no_front (x ∷ xs) (y ∷ ys) rest none is = let others : xs ≡ ys ++ 32 ∷ rest = cc is in no_front xs ys rest none.1 others

-- a text has at most one timestamp, and at most one rest after it
one_line : (text rest more : List ℕ) (m n : ℕ) → IsMomentLine text rest m → IsMomentLine text more n
    → (m ≡ n) × (rest ≡ more)
one_line text rest more m n x y =
    let same = one_front x.digits y.digits rest more (digits_without_space x.digits x.of_moment.each)
    (digits_without_space y.digits y.of_moment.each)
    (sym x.whole ∙ y.whole) in
    (x.of_moment.value ∙ ap (λ ds. digits_value 10 ds) same.0 ∙ sym y.of_moment.value, same.1)

-- the reading of the rest, with the timestamp
abbrev with_moment : ℕ → Result Squitter LineFault → Result Received LineFault
with_moment moment (Ok squitter) = Ok (record { moment = moment; squitter = squitter })
with_moment moment (Err fault) = Err fault

-- the reading of a text with a timestamp is that of its rest
of_rest : (text rest : List ℕ) (m : ℕ) → IsMomentLine text rest m → (answer : Result Received LineFault)
    → IsTimedReading text answer
    → (reading : Result Squitter LineFault) × IsSquitterReading rest reading × (answer ≡ with_moment m reading)
of_rest text rest m line (Ok timed) (more, here, spelled) =
    let same = one_line text rest more m timed.moment line here in
    let moment : ℕ → Received = λ n. record { moment = n; squitter = timed.squitter } in (
      Ok timed.squitter,
      subst (λ (r : List ℕ). IsSquitterReading r (Ok timed.squitter)) (sym same.1) spelled,
      ap (λ n. Ok (moment n)) (sym same.0),
    )
of_rest text rest m line (Err fault) (inl (is, none)) = absurd (none rest m line)
of_rest text rest m line (Err fault) (inr (more, n, here, why)) =
    let same = one_line text rest more m n line here in
    (Err fault, subst (λ (r : List ℕ). IsSquitterReading r (Err fault)) (sym same.1) why, refl)

-- a text without a timestamp has the error `Moment`
of_none : (text : List ℕ) → HasNoMoment text → (answer : Result Received LineFault) → IsTimedReading text answer
    → answer ≡ Err Moment
of_none text none (Ok timed) (rest, line, spelled) = absurd (none rest timed.moment line)
of_none text none (Err fault) (inl (is, why)) = ap Err is
of_none text none (Err fault) (inr (rest, m, line, why)) = absurd (none rest m line)

-- ---- there is a reading

-- a text has a first space or no space
first_space : (text : List ℕ) → ((front : List ℕ) × (rest : List ℕ) × HasNoSpace front × (text ≡ front ++ 32 ∷ rest))
    ⊎ HasNoSpace text
first_space [] = inr tt
first_space (c ∷ text) = elim (cases_eq c 32) [
  | inl space ↦ inl ([], text, tt, ap (λ x. x ∷ text) space)
  | inr other ↦ elim (first_space text) [
    | inl (front, rest, none, is) ↦ inl (c ∷ front, rest, (other, none), ap (λ l. c ∷ l) is)
    | inr none ↦ inr (other, none)
  ]
]

-- all bytes are digits or not
are_digits : (bytes : List ℕ) → AllByRecursion IsAsciiDigit bytes ⊎ (¬ AllByRecursion IsAsciiDigit bytes)
are_digits [] = inl tt
are_digits (c ∷ bytes) = elim (cases_lt c 48) [
  | inl low ↦ inr (λ all. absurd (omega (arith, low, all.0)))
  | inr enough ↦ elim (cases_lt 57 c) [
    | inl high ↦ inr (λ all. absurd (omega (arith, high, all.0)))
    | inr small ↦ elim (are_digits bytes) [
      | inl all ↦ inl ((omega (arith, enough), omega (arith, small)), all)
      | inr other ↦ inr (λ all. other all.1)
    ]
  ]
]

-- bytes are a timestamp or not
is_moment : (digits : List ℕ) → ((moment : ℕ) × IsDecimalText digits moment)
    ⊎ ((moment : ℕ) → ¬ IsDecimalText digits moment)
is_moment digits = elim (cases_lt 0 (length digits)) [
  | inr none ↦ inr (λ m is. absurd (omega (arith, none, is.some)))
  | inl some ↦ elim (cases_lt 20 (length digits)) [
    | inl long ↦ inr (λ m is. absurd (omega (arith, long, is.twenty)))
    | inr short ↦ elim (are_digits digits) [
      | inr other ↦ inr (λ m is. other is.each)
      | inl each ↦ elim (cases_lt (digits_value 10 digits) (2 ^ 64)) [
        | inr large ↦ inr (λ m is. absurd (omega (arith, large, is.small, is.value)))
        | inl small ↦ inl (
          digits_value 10 digits,
          record {
            some = omega (arith, some);
            twenty = omega (arith, short);
            each = each;
            value = refl;
            small = small;
          },
        )
      ]
    ]
  ]
]

-- a text has a timestamp or not
has_moment : (text : List ℕ) → ((rest : List ℕ) × (moment : ℕ) × IsMomentLine text rest moment) ⊎ HasNoMoment text
has_moment text = elim (first_space text) [
  | inr none ↦ inr (λ rest m line. no_front text line.digits rest none line.whole)
  | inl (front, rest, free, is) ↦ elim (is_moment front) [
    | inl (m, moment) ↦ inl (rest, m, record { digits = front; of_moment = moment; whole = is })
    | inr other ↦ inr (λ more m line.
        let same = one_front line.digits front more rest (digits_without_space line.digits line.of_moment.each) free
        (sym line.whole ∙ is) in
        other m (subst (λ ds. IsDecimalText ds m) same.0 line.of_moment))
  ]
]

read_rest : (text rest : List ℕ) (m : ℕ) → IsMomentLine text rest m → (reading : Result Squitter LineFault)
    → IsSquitterReading rest reading
    → (answer : Result Received LineFault) × IsTimedReading text answer
read_rest text rest m line (Ok squitter) is = (Ok (record { moment = m; squitter = squitter }), (rest, line, is))
read_rest text rest m line (Err fault) is = (Err fault, inr (rest, m, line, is))

pub some_timed_reading : (text : List ℕ) → (answer : Result Received LineFault) × IsTimedReading text answer
some_timed_reading text = elim (has_moment text) [
  | inl (rest, m, line) ↦ let reading = some_squitter_reading rest in read_rest text rest m line reading.0 reading.1
  | inr none ↦ (Err Moment, inl (refl, none))
]

pub one_timed_reading : (text : List ℕ) (a b : Result Received LineFault) → IsTimedReading text a
    → IsTimedReading text b → a ≡ b
one_timed_reading text a b x y = elim (has_moment text) [
  | inl (rest, m, line) ↦
      let first = of_rest text rest m line a x in
      let second = of_rest text rest m line b y in
      first.2 ∙ ap (with_moment m) (one_squitter_reading rest first.0 second.0 first.1 second.1) ∙ sym second.2
  | inr none ↦ of_none text none a x ∙ sym (of_none text none b y)
]
