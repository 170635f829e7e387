-- A limit of addresses has at most one size in bytes.
use Rattle.std.proofs.Common.{◌≡◌, ◌<◌, ◌≤◌, ◌+◌, ◌*◌, ◌^◌, ◌∙◌, ◌⊎◌, ℕ, suc, arith, inl, inr, ap, sym}
use Rattle.std.proofs.Math.Nat.{pow-suc}
use Rattle.std.proofs.Math.Pow.{pow_mono}
use Rattle.squitter_c.specs.Sizes.{AreGroupsFor, OneSize}

-- a power that is enough is at least the least one
not_above : (n a b : ℕ) (x : AreGroupsFor n a) (y : AreGroupsFor n b) → x.exponent < y.exponent → ⊥
not_above n a b x y lt =
    let double : b ≡ 2 ^ y.exponent = y.is_power in
    let more : 2 ^ suc x.exponent ≤ 2 ^ y.exponent = pow_mono (omega (arith, lt)) in
    let twice : 2 ^ suc x.exponent ≡ 2 ^ x.exponent * 2 = pow-suc 2 x.exponent in
    elim y.least [
      | inl none ↦ absurd (omega (arith, none, lt))
      | inr few ↦ absurd (omega (arith, few, more, twice, double, x.is_power, x.enough))
    ]

one_power : (n a b : ℕ) (x : AreGroupsFor n a) (y : AreGroupsFor n b) → x.exponent ≡ y.exponent
one_power n a b x y = elim (compared x.exponent y.exponent) [
  | inl lt ↦ absurd (not_above n a b x y lt)
  | inr rest ↦ elim rest [
    | inl gt ↦ absurd (not_above n b a y x gt)
    | inr same ↦ same
  ]
]
  where
    compared : (i j : ℕ) → (i < j) ⊎ ((j < i) ⊎ (i ≡ j))
    compared i j = grind arith

pub one_size : OneSize
one_size limit a b x y =
    let same : x.groups ≡ y.groups = x.are_groups.is_power
    ∙ ap (λ k. 2 ^ k) (one_power (limit + 1) x.groups y.groups x.are_groups y.are_groups)
    ∙ sym y.are_groups.is_power in
    x.bytes_are ∙ ap (λ g. 1280 + g * 2848 + (limit + 1) * 8) same ∙ sym y.bytes_are
