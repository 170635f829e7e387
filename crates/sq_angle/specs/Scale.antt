-- Whole numbers times a natural factor on the left. With the equations of `scales`, `simp scales` takes every such
-- product apart, and `omega (arith, ints)` reads the rest. The laws of the order of angles are based on these.
use Rattle.std.specs.Prelude.{◌≡◌, ℕ, ◌+◌, ◌*◌, ◌<◌, ◌≤◌, ℤ, pos, neg_ℤ, ◌+ℤ◌, ◌*ℤ◌, ◌≤ℤ◌, ◌<ℤ◌}
use Rattle.std.specs.Ordering.{int_cmp, MatchOrdering}
use Rattle.std.specs.declared.cmp.Ordering.{Ordering}
use Rattle.std.specs.declared.cmp.Ordering.TheVariants.{Less, Equal, Greater}
use Rattle.std.specs.Cmp.{int_ranks, int_cmp_is}
use Rattle.std.proofs.Common.{ap, ◌∙◌, sym, arith, mul_comm, mul-le-mul_left, mul-lt-mul_of_pos_right}
use Rattle.std.proofs.Common.{le_of_mul-le-mul_right, lt_of_mul-lt-mul_right}
use Rattle.std.proofs.lemmas.Int.{ints}
use borrow.Author.Differences.{up, down, le_out, lt_out, at_most_in, below_in, sum_is_lem, neg_is, product_is}

-- k(a + b) = ka + kb
pub scale-sum : (k : ℕ) (a b : ℤ) → pos k *ℤ (a +ℤ b) ≡ pos k *ℤ a +ℤ pos k *ℤ b
scale-sum k a b = omega (arith, ints, ap (λ m. k * m) (sum_is_lem a b))

-- k(-a) = -ka
pub scale-neg : (k : ℕ) (a : ℤ) → pos k *ℤ neg_ℤ a ≡ neg_ℤ (pos k *ℤ a)
scale-neg k a = omega (arith, ints, ap (λ m. k * m) (neg_is a).0, ap (λ m. k * m) (neg_is a).1)

-- j(ka) = (jk)a
pub scale-scale : (j k : ℕ) (a : ℤ) → pos j *ℤ (pos k *ℤ a) ≡ pos (j * k) *ℤ a
scale-scale j k a =
    omega (arith, ints, ap (λ m. j * m) (product_is (pos k) a).0, ap (λ m. j * m) (product_is (pos k) a).1)

pub ruleset scales = (scale-sum, scale-neg, scale-scale)

-- j(ka) = k(ja)
pub scale_comm : (j k : ℕ) (a : ℤ) → pos j *ℤ (pos k *ℤ a) ≡ pos k *ℤ (pos j *ℤ a)
scale_comm j k a = scale-scale j k a ∙ ap (λ (n : ℕ). pos n *ℤ a) (mul_comm j k) ∙ sym (scale-scale k j a)

-- a factor keeps an order
pub scale-le : (k : ℕ) (a b : ℤ) → a ≤ℤ b → (pos k *ℤ a) ≤ℤ (pos k *ℤ b)
scale-le k a b h =
    let m : k * (up a + down b) ≤ k * (up b + down a) = mul-le-mul_left k (le_out a b h) in omega (arith, ints)

-- a positive factor keeps a strict order
pub scale-lt : (k : ℕ) (a b : ℤ) → 0 < k → a <ℤ b → (pos k *ℤ a) <ℤ (pos k *ℤ b)
scale-lt k a b p h = omega (arith, ints, mul-lt-mul_of_pos_right (lt_out a b h) p)

-- a positive factor cancels from an order
pub le_of_scale : (k : ℕ) (a b : ℤ) → 0 < k → (pos k *ℤ a) ≤ℤ (pos k *ℤ b) → a ≤ℤ b
le_of_scale k a b p h =
    let f : (up a + down b) * k ≤ (up b + down a) * k = omega (arith, ints) in
    at_most_in a b (le_of_mul-le-mul_right f p)

-- a factor cancels from a strict order
pub lt_of_scale : (k : ℕ) (a b : ℤ) → (pos k *ℤ a) <ℤ (pos k *ℤ b) → a <ℤ b
lt_of_scale k a b h =
    let f : (up a + down b) * k < (up b + down a) * k = omega (arith, ints) in
    below_in a b (lt_of_mul-lt-mul_right k f)

-- a positive factor cancels from an equation
pub same_of_scale : (k : ℕ) (a b : ℤ) → 0 < k → pos k *ℤ a ≡ pos k *ℤ b → a ≡ b
same_of_scale k a b p e =
    let f : (up a + down b) * k ≤ (up b + down a) * k = omega (arith, ints) in
    let g : (up b + down a) * k ≤ (up a + down b) * k = omega (arith, ints) in
    let f' = le_of_mul-le-mul_right f p in
    let g' = le_of_mul-le-mul_right g p in
    omega (arith, ints)

-- implications for each outcome of a comparison carry the facts over
rank-mono : {P Q R P' Q' R' : Type 0} (r : Ordering) → (P → P') → (Q → Q') → (R → R') → MatchOrdering r P Q R
    → MatchOrdering r P' Q' R'
rank-mono Less f g h m = f m
rank-mono Equal f g h m = g m
rank-mono Greater f g h m = h m

-- a positive factor changes no comparison
pub cmp-scale : (k : ℕ) (a b : ℤ) → 0 < k → int_cmp (pos k *ℤ a) (pos k *ℤ b) ≡ int_cmp a b
cmp-scale k a b p =
    int_cmp_is a b (int_cmp (pos k *ℤ a) (pos k *ℤ b))
    (rank-mono (int_cmp (pos k *ℤ a) (pos k *ℤ b)) (lt_of_scale k a b) (same_of_scale k a b p) (lt_of_scale k b a)
    (int_ranks (pos k *ℤ a) (pos k *ℤ b)))
