-- Counting limits by a quotient rounded up.
use Rattle.std.proofs.Common.{◌≡◌, ℕ, ◌+◌, ◌*◌, ◌<◌, ◌≤◌, Bool, cond, List, [], ◌∷◌, count_by, refl, ap₂, ◌∙◌, sym}
use Rattle.std.proofs.Common.{arith, leb, nat_le, leb-true, le-leb, mul-le-mul_right, lt_of_mul-lt-mul_right}
use Rattle.std.proofs.lemmas.List.Sums.{sum_by-cons}
use Rattle.std.proofs.lemmas.Grind.{div_ceil_times}
use Rattle.std.specs.Int.{div_ceil}
use Rattle.std.specs.Cmp.{both_ways}

-- a quotient rounded up is at most a whole number exactly if the quotient is
ceil_le : (n d limit : ℕ) → 1 ≤ d → leb (div_ceil n d) limit ≡ leb n (limit * d)
ceil_le n d limit p =
    let r = div_ceil n d in
    let bounds = div_ceil_times n d p in
    both_ways (leb r limit) (leb n (limit * d))
    (λ e. let up : r * d ≤ limit * d = mul-le-mul_right d (leb-true r limit e) in le-leb n (limit * d) (omega arith))
    (λ e. let below : r * d < (limit + 1) * d = omega (arith, leb-true n (limit * d) e) in le-leb r limit
    (omega (arith, lt_of_mul-lt-mul_right d below)))

-- a quotient rounded up gives the same count of limits as the quotient
pub count_ceil : (n d : ℕ) (limits : List ℕ) → 1 ≤ d
    → count_by (λ limit. nat_le (div_ceil n d) limit) limits ≡ count_by (λ limit. nat_le n (limit * d)) limits
count_ceil n d [] p = refl
count_ceil n d (limit ∷ limits) p =
    sum_by-cons (λ m. cond (nat_le (div_ceil n d) m) 1 0) limit limits
    ∙ ap₂ (λ (b : Bool) (m : ℕ). cond b 1 0 + m) (ceil_le n d limit p) (count_ceil n d limits p)
    ∙ sym (sum_by-cons (λ m. cond (nat_le n (m * d)) 1 0) limit limits)
