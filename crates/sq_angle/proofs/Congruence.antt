-- Numbers that differ by a whole multiple of m.
use Rattle.std.proofs.Common.{◌≡◌, ◌∙◌, sym, unsigned_abs, ℕ, ◌*◌, ◌%◌, ◌<◌, ap, arith, ℤ, pos, neg_ℤ, ◌+ℤ◌, ◌*ℤ◌, ◌≤ℤ◌}
use Rattle.std.proofs.lemmas.Int.{ints}
use Rattle.std.specs.Int.{int_div_euclid, int_rem_euclid}
use Rattle.sq_angle.specs.Whole.{IsCongruent}
use Rattle.sq_angle.specs.Scale.{scales}
use Rattle.sq_angle.proofs.Floors.{div_rem, rem_is_pos, le_from_scaled}

-- a number is congruent to itself
pub congruent_refl : (m : ℕ) (a : ℤ) → IsCongruent m a a
congruent_refl m a = record { times = pos 0; apart = omega (arith, ints) }

-- congruence is symmetric
pub congruent_sym : {m : ℕ} {a b : ℤ} → IsCongruent m a b → IsCongruent m b a
congruent_sym {m} {a} {b} h = record { times = neg_ℤ h.times; apart = simp scales (omega (arith, ints)) }

-- congruence is transitive
pub congruent_trans : {m : ℕ} {a b c : ℤ} → IsCongruent m a b → IsCongruent m b c → IsCongruent m a c
congruent_trans {m} {a} {b} {c} h k = record { times = h.times +ℤ k.times; apart = simp scales (omega (arith, ints)) }

-- numbers that are congruent modulo m * n are congruent modulo m
pub congruent_factor : (m n : ℕ) {a b : ℤ} → IsCongruent (m * n) a b → IsCongruent m a b
congruent_factor m n {a} {b} h = record { times = pos n *ℤ h.times; apart = simp scales (omega (arith, ints)) }

-- a number is congruent to its remainder
pub congruent_rem : (a : ℤ) (m : ℕ) → 0 < m → IsCongruent m a (int_rem_euclid a (pos m))
congruent_rem a m h = record { times = int_div_euclid a (pos m); apart = div_rem a m h }

-- congruent numbers below m are equal
pub same_below : (m a b : ℕ) → a < m → b < m → IsCongruent m (pos a) (pos b) → a ≡ b
same_below m a b p q h =
    let low : h.times ≤ℤ pos 0 = le_from_scaled m h.times (pos 0) (omega (arith, ints)) in
    let high : pos 0 ≤ℤ h.times = le_from_scaled m (pos 0) h.times (omega (arith, ints)) in
    let none : h.times ≡ pos 0 = omega (arith, ints) in
    let e : pos a ≡ pos b +ℤ pos m *ℤ pos 0 = rw none at h.apart in
    omega (arith, ints)

-- a number is congruent to its remainder as a natural number
pub residue_of : (m : ℕ) (z r : ℤ) → 0 < m → r ≡ int_rem_euclid z (pos m) → IsCongruent m (pos (unsigned_abs r)) z
residue_of m z r h e =
    let b = rem_is_pos z m h in
    let s : r ≡ pos b.0 = e ∙ b.1 in
    rw s (congruent_sym (rw b.1 at (congruent_rem z m h)))

-- a natural number is congruent to its remainder by %
pub congruent_mod : (n m : ℕ) → 0 < m → IsCongruent m (pos n) (pos (n % m))
congruent_mod n m h = congruent_rem (pos n) m h
