-- The meaning of an altitude field, and the field of an altitude.
use Rattle.std.proofs.Common.{◌≡◌, ◌≢◌, ℕ, ℤ, pos, negsuc, ◌-ℤ◌, ◌*ℤ◌, ◌≤ℤ◌, ◌≤◌, ◌<◌, ◌+◌, ◌*◌, ◌/◌, ◌%◌, ◌^◌, ◌⊎◌}
use Rattle.std.proofs.Common.{refl, sym, ap, ◌∙◌, subst, arith, inl, inr}
use Rattle.std.specs.Prelude.{◌↔◌}
use Rattle.std.proofs.lemmas.Int.{ints}
use Rattle.sq_message.specs.declared.air.Altitude.{Altitude}
use Rattle.sq_message.specs.declared.air.Altitude.TheVariants.{Missing, Feet, Raw}
use Rattle.sq_message.specs.Altitudes.{HasField, IsAltitude, IsField, IsFieldOfFeet, IsOtherForm}

-- the parts of a field, as quotients and remainders
pub split : (field : ℕ) → field < 4096 → IsField field (field / 32) (field / 16 % 2) (field % 16)
split field small = record { seven = omega arith; one = omega arith; four = omega arith; bits = omega arith }

-- the parts of the field of a number of steps
pub joined : (steps : ℕ) → steps < 2048 → IsField (steps / 16 * 32 + 16 + steps % 16) (steps / 16) 1 (steps % 16)
joined steps small = record { seven = omega arith; one = omega arith; four = omega arith; bits = omega arith }

-- a field has at most one split
pub same_split : (field h q l h' q' l' : ℕ) → IsField field h q l → IsField field h' q' l'
    → (h ≡ h') × (q ≡ q') × (l ≡ l')
same_split field h q l h' q' l' x y = (
  omega (arith, x.one, x.four, x.bits, y.one, y.four, y.bits),
  omega (arith, x.one, x.four, x.bits, y.one, y.four, y.bits),
  omega (arith, x.one, x.four, x.bits, y.one, y.four, y.bits),
)

-- a field means at most one number of feet
same_feet : (field : ℕ) (feet other : ℤ) → IsFieldOfFeet field feet → IsFieldOfFeet field other → feet ≡ other
same_feet field feet other (h, l, is, means) (h', l', is', means') =
    let same = same_split field h 1 l h' 1 l' is is' in
    omega (arith, ints, same.0, same.2, means, means')

-- a field with Q = 1 has no other form
one_form : (field : ℕ) (feet : ℤ) → IsFieldOfFeet field feet → IsOtherForm field → ⊥
one_form field feet (h, l, is, means) (h', l', is') = omega (arith, (same_split field h 1 l h' 0 l' is is').1)

-- a field with Q = 1 is not zero
not_missing : (field : ℕ) (feet : ℤ) → IsFieldOfFeet field feet → field ≡ 0 → ⊥
not_missing field feet (h, l, is, means) none = omega (arith, is.bits, none)

-- a field that means feet has no other meaning
means_feet : (code field : ℕ) (feet : ℤ) (meaning : Altitude) → code ≤ 18 → IsAltitude code field meaning
    → IsFieldOfFeet field feet → meaning ≡ Feet feet
means_feet code field feet Missing low x y = absurd (not_missing field feet y x.1)
means_feet code field feet (Feet other) low x y = ap Feet (same_feet field other feet x.1 y)
means_feet code field feet (Raw raw) low (_, inl high) y = absurd (omega arith)
means_feet code field feet (Raw raw) low (_, inr (some, other)) y = absurd (one_form field feet y other)

pub feet_exactly : (code field : ℕ) (feet : ℤ) (meaning : Altitude) → code ≤ 18 → IsAltitude code field meaning
    → (meaning ≡ Feet feet) ↔ IsFieldOfFeet field feet
feet_exactly code field feet meaning low is =
    (λ e. (subst (λ m. IsAltitude code field m) e is).1, λ y. means_feet code field feet meaning low is y)

-- a field that stays raw under a type code up to 18 is not zero and has Q = 0
raw_form : (code field : ℕ) → code ≤ 18 → (20 ≤ code) ⊎ ((field ≢ 0) × IsOtherForm field)
    → (field ≢ 0) × IsOtherForm field
raw_form code field low (inl high) = absurd (omega arith)
raw_form code field low (inr form) = form

pub one_altitude : (code field : ℕ) (a b : Altitude) → IsAltitude code field a → IsAltitude code field b → a ≡ b
one_altitude code field Missing Missing x y = refl
one_altitude code field Missing (Feet feet) x y = absurd (not_missing field feet y.1 x.1)
one_altitude code field Missing (Raw raw) x y = absurd ((raw_form code field x.0 y.1).0 x.1)
one_altitude code field (Feet feet) b x y = sym (means_feet code field feet b x.0 y x.1)
one_altitude code field (Raw raw) Missing x y = absurd ((raw_form code field y.0 x.1).0 y.1)
one_altitude code field (Raw raw) (Feet feet) x y = means_feet code field feet (Raw raw) y.0 x y.1
one_altitude code field (Raw raw) (Raw other) x y = ap Raw (x.0 ∙ sym y.0)

-- an altitude in feet has at most one field
pub one_field : (field other : ℕ) (feet : ℤ) → IsFieldOfFeet field feet → IsFieldOfFeet other feet → field ≡ other
one_field field other feet (h, l, is, means) (h', l', is', means') =
    omega (arith, ints, is.four, is.bits, is'.four, is'.bits, means, means')

-- the altitude that a field means has a field
pub has_field : (field : ℕ) (feet : ℤ) → IsFieldOfFeet field feet → HasField feet
has_field field feet (h, l, is, means) =
    let least : negsuc 999 ≤ℤ feet = omega (arith, ints, means) in
    let most : feet ≤ℤ pos 50175 = omega (arith, ints, means, is.seven, is.four) in
    let multiple : feet ≡ pos 25 *ℤ (pos (h * 2 ^ 4 + l) -ℤ pos 40) = omega (arith, ints, means) in
    record { least = least; most = most; multiple = (pos (h * 2 ^ 4 + l) -ℤ pos 40, multiple) }
