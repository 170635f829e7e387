-- Words that are no argument.
use Rattle.std.proofs.Common.{◌≡◌, ◌+◌, ◌*◌, ◌<◌, ◌≤◌, ◌^◌, ℕ, ℤ, Bool, true, false, List, ◌∷◌, ◌++◌, length, Option}
use Rattle.std.proofs.Common.{Some, None, Result, Ok, Err, MatchResult, IsSome, refl, sym, ◌∙◌, subst, arith, ap, ap₂}
use Rattle.std.specs.Prelude.{◌↔◌}
use Rattle.std.proofs.Math.Nat.{pow-le-pow_right}
use Rattle.sq_bits.proofs.Digits.{pow_byte}
use Rattle.std.specs.Bool.{OnFalse}
use Rattle.std.specs.Char.{IsAsciiDigit}
use Rattle.std.specs.List.{AllByRecursion}
use Rattle.std.specs.Str.Parse.{digits_value}
use Rattle.hex.specs.Hex.{decode_sized}
use Rattle.hex.specs.declared.error.FromHexError.{FromHexError}
use Rattle.hex.proofs.HexLemmas.{decode_of-ok, decode_sized-twice}
use Rattle.sq_angle.specs.declared.angle.Angle.{Angle}
use Rattle.sq_angle.specs.declared.position.Position.{Position}
use Rattle.sq_angle.specs.declared.read.AngleFault.{AngleFault}
use Rattle.sq_angle.specs.Reading.{IsReading}
use Rattle.sq_angle.specs.Spelling.{minus, signed}
use Rattle.sq_angle.proofs.OneReading.{one_reading}
use Rattle.sq_message.specs.Altitudes.{HasField}
use Rattle.sq_message.proofs.FeetLemmas.{has_field}
use Rattle.sq_commands.specs.Arguments.{IsAddress, IsFeet, IsFeetText, IsPositionWords, IsSiteWords}

-- an address decodes
pub no_address : (word new : List ℕ) (answer : Result (Unit {0}) FromHexError) (e : FromHexError) (address : ℕ)
    → MatchResult (decode_sized word 3) (λ bytes. (answer ≡ Ok tt) × (new ≡ bytes)) (λ f. answer ≡ Err f)
    → answer ≡ Err e → IsAddress word address → ⊥
no_address word new answer e address h is (bytes, three, gives, value) =
    let twice : length word ≡ 2 * 3 = omega (arith, (decode_of-ok word bytes gives).2, three) in
    let sized : decode_sized word 3 ≡ Ok bytes = decode_sized-twice word 3 twice ∙ gives in
    let good = subst (λ (r : Result (List ℕ) FromHexError). MatchResult r (λ bytes'. (answer ≡ Ok tt) × (new ≡ bytes'))
    (λ f. answer ≡ Err f)) sized h in
    cc (sym good.0 ∙ is)

-- a text is read as one angle
pub one_angle_read : (text : List ℕ) (a b : Angle) → IsReading text (Ok a) → IsReading text (Ok b) → a ≡ b
one_angle_read text a b x y =
    let same : ◌≡◌ {A = Result Angle AngleFault} (Ok a) (Ok b) = one_reading text (Ok a) (Ok b) x y in cc same

-- a text that is refused is read as no angle
pub no_angle_read : (text : List ℕ) (fault : AngleFault) (a : Angle) → IsReading text (Err fault)
    → IsReading text (Ok a) → ⊥
no_angle_read text fault a x y = let same : ◌≡◌ {A = Result Angle AngleFault} (Err fault) (Ok a) = one_reading text
    (Err fault) (Ok a) x y in absurd (cc same)

-- ---- feet

-- the sign of a word of feet
same_sign : (word digits : List ℕ) (negative sign : Bool) (rest : List ℕ) → word ≡ minus negative ++ digits
    → word ≡ minus sign ++ rest
    → OnFalse negative ((r : List ℕ) → ¬ (word ≡ 45 ∷ r)) → OnFalse sign ((r : List ℕ) → ¬ (word ≡ 45 ∷ r))
    → (negative ≡ sign) × (digits ≡ rest)
same_sign word digits true true rest x y p q = let same : 45 ∷ digits ≡ 45 ∷ rest = sym x ∙ y in (refl, cc same)
same_sign word digits true false rest x y p q = absurd (q digits x)
same_sign word digits false true rest x y p q = absurd (p rest y)
same_sign word digits false false rest x y p q = (refl, sym x ∙ y)

pub one_feet : (word : List ℕ) (feet other : ℤ) → IsFeetText word feet → IsFeetText word other → feet ≡ other
one_feet word feet other x y =
    let same = same_sign word x.digits x.negative y.negative y.digits x.whole y.whole (unsigned word feet x)
    (unsigned word other y) in
    let number : x.number ≡ y.number = x.of_digits.value ∙ ap (digits_value 10) same.1 ∙ sym y.of_digits.value in
    x.value ∙ ap₂ signed same.0 number ∙ sym y.value
  where
    by : (word : List ℕ) (negative : Bool) (digits : List ℕ) → word ≡ minus negative ++ digits
        → AllByRecursion IsAsciiDigit digits
        → OnFalse negative ((r : List ℕ) → ¬ (word ≡ 45 ∷ r))
    by word true digits is each = tt
    by word false digits is each = λ r bad.
        let digit = subst (λ ds. AllByRecursion IsAsciiDigit ds) (sym is ∙ bad) each in
        omega (arith, digit.0)

    unsigned : (word : List ℕ) (feet : ℤ) → (x : IsFeetText word feet)
        → OnFalse x.negative ((r : List ℕ) → ¬ (word ≡ 45 ∷ r))
    unsigned word feet x = by word x.negative x.digits x.whole x.of_digits.each

pub no_feet : (word : List ℕ) (feet : ℤ) (result : Option ℕ) (field : ℕ) → (IsSome result ↔ HasField feet)
    → result ≡ None
    → IsFeetText word feet → IsFeet word field → ⊥
no_feet word feet result field variant none text (other, is, means) =
    let has = subst HasField (one_feet word other feet is text) (has_field field other means) in
    let some : IsSome result = variant.1 has in
    not_some result none some
  where
    not_some : (o : Option ℕ) → o ≡ None → IsSome o → ⊥
    not_some o none some = absurd (cc (sym none, some))

-- ---- addresses

-- one more byte after a number of at most two
pub byte_behind : (n b i : ℕ) → n < 2 ^ (8 * i) → b < 256 → i < 3
    → (n * 256 + b < 2 ^ (8 * (i + 1))) × (n * 256 + b < 2 ^ 24)
byte_behind n b i small byte within =
    let less : n * 256 + b < 2 ^ (8 * i) * 256 = omega arith in
    let wide : 8 * (i + 1) ≤ 24 = omega arith in
    let bound : 2 ^ (8 * (i + 1)) ≤ 2 ^ 24 = pow-le-pow_right (omega arith) wide in
    let here : n * 256 + b < 2 ^ (8 * (i + 1)) = rw (pow_byte i) less in
    (here, omega arith)
