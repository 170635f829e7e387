use Rattle.std.proofs.Common.{◌≡◌, ℕ, ◌<◌, ◌≤◌, ◌*◌, ◌^◌, ℤ, pos, neg_ℤ, ◌*ℤ◌, ◌-ℤ◌, ◌<ℤ◌, ◌≤ℤ◌, unsigned_abs, to_z}
use Rattle.std.proofs.Common.{of_z, w64, SFits, to_z-of_z, rules, ap, arith, sym, ◌∙◌}
use Rattle.std.proofs.lemmas.Int.{ints}
use Rattle.std.specs.Int.{IsGcd}
use Rattle.sq_angle.specs.Lowest.{IsLowestFormOf}
use Rattle.sq_angle.specs.Scale.{scale-neg}
use Rattle.sq_angle.proofs.angle.Angle.reduced.Goals as goal

-- the lowest form of a negative angle, and of an angle that is not negative, by that of the magnitude
negative : (n d den : ℕ) (num : ℤ) → n < 2 ^ 60 → 1 ≤ d → IsGcd n d 1 → num <ℤ pos 0 → n * den ≡ unsigned_abs num * d
    → IsLowestFormOf (record { num = num; den = den })
    (record { num = to_z w64 (of_z w64 (pos 0 -ℤ to_z w64 n)); den = d })
negative n d den num small some coprime below e =
    let read : to_z w64 (of_z w64 (pos 0 -ℤ to_z w64 n)) ≡ neg_ℤ (pos n) = omega (arith, ints) in
    let size : unsigned_abs (neg_ℤ (pos n)) ≡ n = omega (arith, ints) in
    let whole : num ≡ neg_ℤ (pos (unsigned_abs num)) = omega (arith, ints) in
    let products : den * n ≡ d * unsigned_abs num = omega arith in
    let value : pos den *ℤ neg_ℤ (pos n) ≡ pos d *ℤ num =
    scale-neg den (pos n) ∙ ap (λ (m : ℕ). neg_ℤ (pos m)) products ∙ sym (scale-neg d (pos (unsigned_abs num)))
    ∙ sym (ap (λ z. pos d *ℤ z) whole) in
    rw read (record { terms = record { positive = some; coprime = rw size coprime }; value = value })

other : (n d den : ℕ) (num : ℤ) → n < 2 ^ 60 → 1 ≤ d → IsGcd n d 1 → pos 0 ≤ℤ num → n * den ≡ unsigned_abs num * d
    → IsLowestFormOf (record { num = num; den = den }) (record { num = to_z w64 n; den = d })
other n d den num small some coprime above e =
    let read : to_z w64 n ≡ pos n = omega (arith, ints) in
    let whole : num ≡ pos (unsigned_abs num) = omega (arith, ints) in
    let products : den * n ≡ d * unsigned_abs num = omega arith in
    let value : pos den *ℤ pos n ≡ pos d *ℤ num = ap pos products ∙ sym (ap (λ z. pos d *ℤ z) whole) in
    rw read (record { terms = record { positive = some; coprime = coprime }; value = value })

pub returns-then-num-lt0 : goal.returns-then-num-lt0
returns-then-num-lt0 c =
    let x = c.args.self.now in
    let r = c.lowest_terms-magnitude in
    let fits : SFits w64 x.num = search rules in
    let read : to_z w64 (of_z w64 c.num-num.result) ≡ x.num =
    ap (λ z. to_z w64 (of_z w64 z)) c.num-num.ensures ∙ to_z-of_z fits in
    let same = c.unsigned_abs.ensures.value ∙ ap unsigned_abs read in
    negative r.result.0 r.result.1 x.den x.num (omega arith) r.ensures.positive r.ensures.coprime (omega (arith, ints))
    (ap (λ d. r.result.0 * d) (sym c.den.ensures) ∙ r.ensures.value ∙ ap (λ n. n * r.result.1) same)

pub returns-else-num-lt0 : goal.returns-else-num-lt0
returns-else-num-lt0 c =
    let x = c.args.self.now in
    let r = c.lowest_terms-magnitude in
    let fits : SFits w64 x.num = search rules in
    let read : to_z w64 (of_z w64 c.num-num.result) ≡ x.num =
    ap (λ z. to_z w64 (of_z w64 z)) c.num-num.ensures ∙ to_z-of_z fits in
    let same = c.unsigned_abs.ensures.value ∙ ap unsigned_abs read in
    other r.result.0 r.result.1 x.den x.num (omega arith) r.ensures.positive r.ensures.coprime (omega (arith, ints))
    (ap (λ d. r.result.0 * d) (sym c.den.ensures) ∙ r.ensures.value ∙ ap (λ n. n * r.result.1) same)
