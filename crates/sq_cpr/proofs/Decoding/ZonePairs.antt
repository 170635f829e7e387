-- The close pair of two codes: both indices lie the same number of zones above their codes.
use Rattle.std.proofs.Common.{◌≡◌, ℕ, ◌+◌, ◌-◌, ◌*◌, ◌≤◌, max, refl, arith, ℤ, pos, neg_ℤ, ◌+ℤ◌, ◌-ℤ◌, ◌*ℤ◌, ◌≤ℤ◌, ◌<ℤ◌}
use Rattle.std.proofs.Common.{◌⊎◌, inl, inr, ⊎_elim}
use Rattle.std.proofs.lemmas.Int.{ints}
use Rattle.std.specs.Int.{int_div_euclid}
use Rattle.sq_angle.specs.Whole.{IsCongruent}
use Rattle.sq_angle.specs.Scale.{scales}
use Rattle.sq_angle.proofs.Floors.{div_euclid-le, div_euclid-lt}
use Rattle.sq_angle.proofs.Congruence.{congruent_trans}
use Rattle.sq_cpr.specs.Grid.{codes_of_zone}
use Rattle.sq_cpr.specs.Multiplied.{LiesClose, IsZoneIndex}

-- indices that differ by whole turns of n zones have the same code
pub code_of_turn : (n : ℕ) {a b : ℤ} → IsCongruent (n * codes_of_zone) a b → IsCongruent codes_of_zone a b
code_of_turn n {a} {b} h = record { times = pos n *ℤ h.times; apart = simp scales (omega (arith, ints)) }

-- two numbers of zones to which d rounds are equal
within_one : (d t s : ℤ) → neg_ℤ (pos codes_of_zone) ≤ℤ (pos 2 *ℤ (d -ℤ pos codes_of_zone *ℤ t))
    → (pos 2 *ℤ (d -ℤ pos codes_of_zone *ℤ t)) <ℤ pos codes_of_zone →
    neg_ℤ (pos codes_of_zone) ≤ℤ (pos 2 *ℤ (d +ℤ pos codes_of_zone *ℤ s))
    → (pos 2 *ℤ (d +ℤ pos codes_of_zone *ℤ s)) <ℤ pos codes_of_zone → s ≡ neg_ℤ t
within_one d t s a b c e = omega (arith, ints)

zone_apart0 : (n m y0 : ℕ) (t j0 j1 w a0 : ℤ) → n ≡ m + 1 → pos m *ℤ j0 -ℤ pos n *ℤ j1 +ℤ pos (n * m) *ℤ w ≡ neg_ℤ t
    → a0 ≡ pos y0 +ℤ pos codes_of_zone *ℤ j0 →
    a0 ≡ pos y0 +ℤ pos codes_of_zone *ℤ t +ℤ pos (n * codes_of_zone) *ℤ (j0 -ℤ j1 +ℤ pos m *ℤ w)
zone_apart0 n m y0 t j0 j1 w a0 e s h =
    let s' : pos m *ℤ j0 -ℤ pos (m + 1) *ℤ j1 +ℤ pos ((m + 1) * m) *ℤ w ≡ neg_ℤ t = rw e at s in
    rw e (simp scales (omega (arith, ints)))

zone_apart1 : (n m y1 : ℕ) (t j0 j1 w a1 : ℤ) → n ≡ m + 1 → pos m *ℤ j0 -ℤ pos n *ℤ j1 +ℤ pos (n * m) *ℤ w ≡ neg_ℤ t
    → a1 ≡ pos y1 +ℤ pos codes_of_zone *ℤ j1 →
    a1 ≡ pos y1 +ℤ pos codes_of_zone *ℤ t +ℤ pos (m * codes_of_zone) *ℤ (j0 -ℤ j1 +ℤ pos n *ℤ w)
zone_apart1 n m y1 t j0 j1 w a1 e s h =
    let s' : pos m *ℤ j0 -ℤ pos (m + 1) *ℤ j1 +ℤ pos ((m + 1) * m) *ℤ w ≡ neg_ℤ t = rw e at s in
    rw e (simp scales (omega (arith, ints)))

-- If the even circle has one zone more than the odd one, indices t zones above their codes are close. a0 = y0 + M*t +
-- M*n*u, a1 = y1 + M*t + M*m*v, where n = m + 1
pub close_from_zone : (n m : ℕ) (y0 y1 : ℕ) (t a0 a1 : ℤ) → n ≡ m + 1 → IsZoneIndex n m y0 y1 t →
    IsCongruent (n * codes_of_zone) a0 (pos y0 +ℤ pos codes_of_zone *ℤ t)
    → IsCongruent (m * codes_of_zone) a1 (pos y1 +ℤ pos codes_of_zone *ℤ t) → LiesClose n m a0 a1
close_from_zone n m y0 y1 t a0 a1 e z h k =
    let same : pos m *ℤ (pos y0 +ℤ pos codes_of_zone *ℤ t +ℤ pos (n * codes_of_zone) *ℤ h.times) -ℤ pos n *ℤ
    (pos y1 +ℤ pos codes_of_zone *ℤ t +ℤ pos (m * codes_of_zone) *ℤ k.times) +ℤ pos (n * m * codes_of_zone) *ℤ
    (k.times -ℤ h.times)
    ≡ pos (m * y0) -ℤ pos (n * y1) -ℤ pos codes_of_zone *ℤ t =
    rw e (simp scales (omega (arith, ints))) in
    (k.times -ℤ h.times, rw (h.apart, k.apart, same) (z.from, z.below))

-- with one zone each, any two indices are close
close_in_one : (y0 y1 : ℕ) (t a0 a1 : ℤ) → IsZoneIndex 1 1 y0 y1 t →
    IsCongruent (1 * codes_of_zone) a0 (pos y0 +ℤ pos codes_of_zone *ℤ t)
    → IsCongruent (1 * codes_of_zone) a1 (pos y1 +ℤ pos codes_of_zone *ℤ t) → LiesClose 1 1 a0 a1
close_in_one y0 y1 t a0 a1 z h k =
    let turns : ℤ = k.times -ℤ h.times -ℤ t in
    let same : pos 1 *ℤ (pos y0 +ℤ pos codes_of_zone *ℤ t +ℤ pos (1 * codes_of_zone) *ℤ h.times) -ℤ pos 1 *ℤ
    (pos y1 +ℤ pos codes_of_zone *ℤ t +ℤ pos (1 * codes_of_zone) *ℤ k.times) +ℤ pos (1 * 1 * codes_of_zone) *ℤ turns
    ≡ pos (1 * y0) -ℤ pos (1 * y1) -ℤ pos codes_of_zone *ℤ t =
    simp scales (omega (arith, ints)) in
    (turns, rw (h.apart, k.apart, same) (z.from, z.below))

-- the zones j0 and j1 of close indices of two codes agree with their zone index t, up to turns
zone_by_turns : (n m y0 y1 : ℕ) (t j0 j1 w : ℤ) → IsZoneIndex n m y0 y1 t →
    neg_ℤ (pos codes_of_zone) ≤ℤ (pos 2 *ℤ
    (pos m *ℤ (pos y0 +ℤ pos codes_of_zone *ℤ j0) -ℤ pos n *ℤ (pos y1 +ℤ pos codes_of_zone *ℤ j1) +ℤ pos
    (n * m * codes_of_zone) *ℤ w)) →
    (pos 2 *ℤ (pos m *ℤ (pos y0 +ℤ pos codes_of_zone *ℤ j0) -ℤ pos n *ℤ (pos y1 +ℤ pos codes_of_zone *ℤ j1) +ℤ pos
    (n * m * codes_of_zone) *ℤ w)) <ℤ pos codes_of_zone →
    pos m *ℤ j0 -ℤ pos n *ℤ j1 +ℤ pos (n * m) *ℤ w ≡ neg_ℤ t
zone_by_turns n m y0 y1 t j0 j1 w z low high =
    let s : ℤ = pos m *ℤ j0 -ℤ pos n *ℤ j1 +ℤ pos (n * m) *ℤ w in
    let same : pos m *ℤ (pos y0 +ℤ pos codes_of_zone *ℤ j0) -ℤ pos n *ℤ (pos y1 +ℤ pos codes_of_zone *ℤ j1) +ℤ pos
    (n * m * codes_of_zone) *ℤ w
    ≡ pos (m * y0) -ℤ pos (n * y1) +ℤ pos codes_of_zone *ℤ s =
    simp scales (omega (arith, ints)) in
    let below : neg_ℤ (pos codes_of_zone) ≤ℤ (pos 2 *ℤ (pos (m * y0) -ℤ pos (n * y1) +ℤ pos codes_of_zone *ℤ s)) =
    rw same at low in
    let above : (pos 2 *ℤ (pos (m * y0) -ℤ pos (n * y1) +ℤ pos codes_of_zone *ℤ s)) <ℤ pos codes_of_zone =
    rw same at high in
    within_one (pos (m * y0) -ℤ pos (n * y1)) t s z.from z.below below above

pub zone_from_close : (n m : ℕ) (y0 y1 : ℕ) (t a0 a1 : ℤ) → n ≡ m + 1 → IsZoneIndex n m y0 y1 t →
    IsCongruent codes_of_zone a0 (pos y0) → IsCongruent codes_of_zone a1 (pos y1) → LiesClose n m a0 a1 →
    IsCongruent (n * codes_of_zone) a0 (pos y0 +ℤ pos codes_of_zone *ℤ t)
    × IsCongruent (m * codes_of_zone) a1 (pos y1 +ℤ pos codes_of_zone *ℤ t)
zone_from_close n m y0 y1 t a0 a1 e z h k c =
    let w : ℤ = c.0 in
    let near = rw (h.apart, k.apart) at c.1 in
    let s : pos m *ℤ h.times -ℤ pos n *ℤ k.times +ℤ pos (n * m) *ℤ w ≡ neg_ℤ t =
    zone_by_turns n m y0 y1 t h.times k.times w z near.0 near.1 in (
      record {
        times = h.times -ℤ k.times +ℤ pos m *ℤ w;
        apart = zone_apart0 n m y0 t h.times k.times w a0 e s h.apart;
      },
      record {
        times = h.times -ℤ k.times +ℤ pos n *ℤ w;
        apart = zone_apart1 n m y1 t h.times k.times w a1 e s k.apart;
      },
    )

zone_from_close_in_one : (y0 y1 : ℕ) (t a0 a1 : ℤ) → IsCongruent codes_of_zone a0 (pos y0)
    → IsCongruent codes_of_zone a1 (pos y1) →
    IsCongruent (1 * codes_of_zone) a0 (pos y0 +ℤ pos codes_of_zone *ℤ t)
    × IsCongruent (1 * codes_of_zone) a1 (pos y1 +ℤ pos codes_of_zone *ℤ t)
zone_from_close_in_one y0 y1 t a0 a1 h k = (
  record { times = h.times -ℤ t; apart = simp scales (omega (arith, ints)) },
  record { times = k.times -ℤ t; apart = simp scales (omega (arith, ints)) },
)

-- the numbers of zones of a pair: one more for even than for odd, or one each
abbrev pub Paired : ℕ → ℕ → Type 0
Paired n m = (n ≡ m + 1) ⊎ ((n ≡ 1) × (m ≡ 1))

one_or_more : (zones : ℕ) → 1 ≤ zones → (zones ≡ 1) ⊎ (2 ≤ zones)
one_or_more zones h = grind arith

pub paired_zones : (zones : ℕ) → 1 ≤ zones → Paired zones (max (zones - 1) 1)
paired_zones zones h = ⊎_elim (λ e. inr (e, omega arith)) (λ more. inl (omega arith)) (one_or_more zones h)

pub close_at : (n m : ℕ) (y0 y1 : ℕ) (t a0 a1 : ℤ) → Paired n m → IsZoneIndex n m y0 y1 t →
    IsCongruent (n * codes_of_zone) a0 (pos y0 +ℤ pos codes_of_zone *ℤ t)
    → IsCongruent (m * codes_of_zone) a1 (pos y1 +ℤ pos codes_of_zone *ℤ t) → LiesClose n m a0 a1
close_at n m y0 y1 t a0 a1 e z h k =
    ⊎_elim (λ e. close_from_zone n m y0 y1 t a0 a1 e z h k)
    (λ e. rw (e.0, e.1) (close_in_one y0 y1 t a0 a1 (rw (e.0, e.1) at z) (rw e.0 at h) (rw e.1 at k))) e

pub zone_at : (n m : ℕ) (y0 y1 : ℕ) (t a0 a1 : ℤ) → Paired n m → IsZoneIndex n m y0 y1 t →
    IsCongruent codes_of_zone a0 (pos y0) → IsCongruent codes_of_zone a1 (pos y1) → LiesClose n m a0 a1 →
    IsCongruent (n * codes_of_zone) a0 (pos y0 +ℤ pos codes_of_zone *ℤ t)
    × IsCongruent (m * codes_of_zone) a1 (pos y1 +ℤ pos codes_of_zone *ℤ t)
zone_at n m y0 y1 t a0 a1 e z h k c =
    ⊎_elim (λ e. zone_from_close n m y0 y1 t a0 a1 e z h k c)
    (λ e. rw (e.0, e.1) (zone_from_close_in_one y0 y1 t a0 a1 h k)) e

-- the zone index is the quotient rounded to the nearest, halves up
pub zone_of : (n m y0 y1 : ℕ) (t : ℤ)
    → t ≡ int_div_euclid (pos (m * y0) -ℤ pos (n * y1) +ℤ pos 65536) (pos codes_of_zone) → IsZoneIndex n m y0 y1 t
zone_of n m y0 y1 t e =
    let d : ℤ = pos (m * y0) -ℤ pos (n * y1) +ℤ pos 65536 in
    let low : (pos codes_of_zone *ℤ t) ≤ℤ d = rw e (div_euclid-le d codes_of_zone (omega arith)) in
    let high : d <ℤ (pos codes_of_zone *ℤ t +ℤ pos codes_of_zone) =
    rw e (div_euclid-lt d codes_of_zone (omega arith)) in
    record { from = omega (arith, ints); below = omega (arith, ints) }

-- an index t zones above a code has that code
code_shift : (y : ℕ) (t : ℤ) → IsCongruent codes_of_zone (pos y +ℤ pos codes_of_zone *ℤ t) (pos y)
code_shift y t = record { times = t; apart = refl }

pub has_code : (n y : ℕ) (t a : ℤ) → IsCongruent (n * codes_of_zone) a (pos y +ℤ pos codes_of_zone *ℤ t)
    → IsCongruent codes_of_zone a (pos y)
has_code n y t a h = congruent_trans (code_of_turn n h) (code_shift y t)

pub zone_exists : (n m y0 y1 : ℕ) → (t : ℤ) × IsZoneIndex n m y0 y1 t
zone_exists n m y0 y1 =
    let t : ℤ = int_div_euclid (pos (m * y0) +ℤ neg_ℤ (pos (n * y1)) +ℤ pos 65536) (pos codes_of_zone) in
    (t, zone_of n m y0 y1 t refl)

-- closeness is unchanged by whole turns
pub close_turned_even : (n m : ℕ) (p q r : ℤ) → IsCongruent (n * codes_of_zone) r p → LiesClose n m p q
    → LiesClose n m r q
close_turned_even n m p q r h c =
    let same : pos m *ℤ (p +ℤ pos (n * codes_of_zone) *ℤ h.times) -ℤ pos n *ℤ q +ℤ pos (n * m * codes_of_zone) *ℤ
    (c.0 -ℤ h.times)
    ≡ pos m *ℤ p -ℤ pos n *ℤ q +ℤ pos (n * m * codes_of_zone) *ℤ c.0 = simp scales (omega (arith, ints)) in
    (c.0 -ℤ h.times, rw (h.apart, same) c.1)

pub close_turned_odd : (n m : ℕ) (p q r : ℤ) → IsCongruent (m * codes_of_zone) r q → LiesClose n m p q
    → LiesClose n m p r
close_turned_odd n m p q r h c =
    let same : pos m *ℤ p -ℤ pos n *ℤ (q +ℤ pos (m * codes_of_zone) *ℤ h.times) +ℤ pos (n * m * codes_of_zone) *ℤ
    (c.0 +ℤ h.times)
    ≡ pos m *ℤ p -ℤ pos n *ℤ q +ℤ pos (n * m * codes_of_zone) *ℤ c.0 = simp scales (omega (arith, ints)) in
    (c.0 +ℤ h.times, rw (h.apart, same) c.1)
