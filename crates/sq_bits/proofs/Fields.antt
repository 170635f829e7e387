-- Fields of a number: reading one, and replacing one.
use Rattle.std.proofs.Common.{◌≡◌, ℕ, ◌+◌, ◌-◌, ◌*◌, ◌/◌, ◌%◌, ◌<◌, ◌≤◌, ◌^◌, inl, inr, refl, sym, ap, subst, ◌∙◌}
use Rattle.std.proofs.Common.{arith}
use Rattle.std.proofs.lemmas.Nat.{pow-add, pow_pos, shr-shr, shr_split, shr_high, mod_low, mod-pow-add}
use Rattle.std.proofs.lemmas.Nat.{field_of as field_as_mod, mul-add-lt, mod_below, shr_below, shl_whole}
use Rattle.sq_bits.specs.declared.frame.Frame.{Frame}
use Rattle.sq_bits.specs.Frames.{frame_number, IsApart}
use Rattle.sq_bits.proofs.Quotient.{field_at, quotient_of}

-- n with the c bits above the lowest b holding v
abbrev pub replaced : ℕ → ℕ → ℕ → ℕ → ℕ
replaced n b c v = n / 2 ^ (c + b) * 2 ^ (c + b) + (v * 2 ^ b + n % 2 ^ b)

-- the bits below the field's upper end
below_upper : (n b c v : ℕ) → v < 2 ^ c → v * 2 ^ b + n % 2 ^ b < 2 ^ (c + b)
below_upper n b c v small =
    rw (pow-add 2 c b) (omega (arith, mul-add-lt v (2 ^ b) (n % 2 ^ b) (2 ^ c) small (mod_below n (2 ^ b) (pow_pos b))))

pub replaced-upper : (n b c v : ℕ) → v < 2 ^ c → replaced n b c v / 2 ^ (c + b) ≡ n / 2 ^ (c + b)
replaced-upper n b c v small = shr_high (n / 2 ^ (c + b)) (c + b) (v * 2 ^ b + n % 2 ^ b) (below_upper n b c v small)

-- the number is its parts: above the field, the field, and below it
pub parts : (n b c : ℕ) → n / 2 ^ (c + b) * 2 ^ (c + b) + ((n / 2 ^ b % 2 ^ c) * 2 ^ b + n % 2 ^ b) ≡ n
parts n b c = rw (← mod-pow-add n c b) (shr_split n (c + b))

-- the field holds v
pub replaced-field : (n b c v : ℕ) → v < 2 ^ c → replaced n b c v / 2 ^ b % 2 ^ c ≡ v
replaced-field n b c v small =
    sym (field_as_mod (replaced n b c v) c b)
    ∙ ap (λ x. x / 2 ^ b) (mod_low (n / 2 ^ (c + b)) (c + b) (v * 2 ^ b + n % 2 ^ b) (below_upper n b c v small))
    ∙ shr_high v b (n % 2 ^ b) (mod_below n (2 ^ b) (pow_pos b))

-- a field above it is unchanged
replaced-above : (n b c v d e : ℕ) → v < 2 ^ c
    → replaced n b c v / 2 ^ ((c + b) + d) % 2 ^ e ≡ n / 2 ^ ((c + b) + d) % 2 ^ e
replaced-above n b c v d e small =
    rw (← shr-shr (replaced n b c v) (c + b) d, ← shr-shr n (c + b) d, replaced-upper n b c v small) refl

-- the lowest b bits are unchanged
replaced-low : (n b c v : ℕ) → replaced n b c v % 2 ^ b ≡ n % 2 ^ b
replaced-low n b c v =
    let regrouped : replaced n b c v ≡ (n / 2 ^ (c + b) * 2 ^ c + v) * 2 ^ b + n % 2 ^ b =
    rw (pow-add 2 c b) (omega arith) in
    ap (λ x. x % 2 ^ b) regrouped
    ∙ mod_low (n / 2 ^ (c + b) * 2 ^ c + v) b (n % 2 ^ b) (mod_below n (2 ^ b) (pow_pos b))

-- a remainder by a power of 2 has the same remainder by a smaller power as its number
pub mod-mod_pow : (n j k : ℕ) → n % 2 ^ (j + k) % 2 ^ k ≡ n % 2 ^ k
mod-mod_pow n j k = ap (λ x. x % 2 ^ k) (mod-pow-add n j k)
    ∙ mod_low (n / 2 ^ k % 2 ^ j) k (n % 2 ^ k) (mod_below n (2 ^ k) (pow_pos k))

-- a field within the lowest b bits
field_low : (n d e k : ℕ) → n / 2 ^ k % 2 ^ e ≡ n % 2 ^ (d + (e + k)) % 2 ^ (e + k) / 2 ^ k
field_low n d e k = sym (field_as_mod n e k) ∙ ap (λ x. x / 2 ^ k) (sym (mod-mod_pow n d (e + k)))

-- numbers that agree below 2 ^ b have the same fields there
pub same_low_field : (m n b e k : ℕ) → m % 2 ^ b ≡ n % 2 ^ b → e + k ≤ b → m / 2 ^ k % 2 ^ e ≡ n / 2 ^ k % 2 ^ e
same_low_field m n b e k same within =
    let d : ℕ = b - (e + k) in
    let whole : b ≡ d + (e + k) = omega arith in
    let same' : m % 2 ^ (d + (e + k)) ≡ n % 2 ^ (d + (e + k)) = rw whole at same in
    field_low m d e k ∙ ap (λ x. x % 2 ^ (e + k) / 2 ^ k) same' ∙ sym (field_low n d e k)

-- a field apart from it is unchanged
pub replaced-apart : (n v first count start len : ℕ) → v < 2 ^ count → 1 ≤ first → first + count ≤ 113
    → IsApart start len first count
    → field_at (replaced n (113 - first - count) count v) start len ≡ field_at n start len
replaced-apart n v first count start len small begins within (starts, ends, apart) =
    let b : ℕ = 113 - first - count in
    let k : ℕ = 113 - start - len in
    elim apart [
      | inl before ↦
          let d : ℕ = k - (count + b) in
          let far : k ≡ (count + b) + d = omega arith in
          rw far (replaced-above n b count v d len small)
      | inr after ↦ same_low_field (replaced n b count v) n b len k (replaced-low n b count v) (omega arith)
    ]

-- a number of w bits still has w bits
pub replaced-lt : (w n b c v : ℕ) → n < 2 ^ w → c + b ≤ w → v < 2 ^ c → replaced n b c v < 2 ^ w
replaced-lt w n b c v short within small =
    let j : ℕ = w - (c + b) in
    let whole : w ≡ j + (c + b) = omega arith in
    let short' : n < 2 ^ (j + (c + b)) = subst (λ x. n < 2 ^ x) whole short in
    let upper : n / 2 ^ (c + b) < 2 ^ j = shr_below n j (c + b) short' in
    let placed : replaced n b c v < 2 ^ (c + b) * 2 ^ j
    = mul-add-lt (n / 2 ^ (c + b)) (2 ^ (c + b)) (v * 2 ^ b + n % 2 ^ b) (2 ^ j) upper (below_upper n b c v small) in
    subst (λ x. replaced n b c v < 2 ^ x) (sym whole) (rw (pow-add 2 j (c + b)) (omega arith))

-- the step of the code: it subtracts the old field and adds the new one
pub written : (n b c v : ℕ) → n < 2 ^ 112 → c + b ≤ 112 → v < 2 ^ c
    → ((n / 2 ^ b % 2 ^ c) * 2 ^ b % 2 ^ 128 ≤ n)
    × (n - (n / 2 ^ b % 2 ^ c) * 2 ^ b % 2 ^ 128 + v * 2 ^ b % 2 ^ 128 ≡ replaced n b c v)
    × (replaced n b c v < 2 ^ 112)
written n b c v short within small =
    let fits : c + b ≤ 128 = omega arith in
    let held : (n / 2 ^ b % 2 ^ c) * 2 ^ b % 2 ^ 128 ≡ (n / 2 ^ b % 2 ^ c) * 2 ^ b
    = shl_whole (n / 2 ^ b % 2 ^ c) c b 128 (mod_below (n / 2 ^ b) (2 ^ c) (pow_pos c)) fits in
    let new : v * 2 ^ b % 2 ^ 128 ≡ v * 2 ^ b = shl_whole v c b 128 small fits in
    let whole = parts n b c in
    (omega arith, omega arith, replaced-lt 112 n b c v short within small)

-- a field is its leading bits followed by the others
pub field_parts : (f : Frame) (first a b : ℕ) → 1 ≤ first → first + (a + b) ≤ 113
    → quotient_of f first (a + b) ≡ quotient_of f first a * 2 ^ b + quotient_of f (first + a) b
unfolding quotient_of
field_parts f first a b begins within =
    let k : ℕ = 113 - first - (a + b) in
    let low : 113 - (first + a) - b ≡ k = omega arith in
    let high : 113 - first - a ≡ k + b = omega arith in
    rw (high, low, ← shr-shr (frame_number f) k b) (mod-pow-add (frame_number f / 2 ^ k) a b)

pub field_small : (f : Frame) (first count : ℕ) → quotient_of f first count < 2 ^ count
unfolding quotient_of
field_small f first count = mod_below (frame_number f / 2 ^ (113 - first - count)) (2 ^ count) (pow_pos count)
