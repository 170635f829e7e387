-- Bounds on signed numbers and on products, as 128-bit code requires them.
use Rattle.std.proofs.Common.{◌≡◌, ℕ, ◌*◌, ◌^◌, ◌<◌, ◌≤◌, ℤ, pos, arith, ◌*ℤ◌, unsigned_abs, FitsSigned, to_z, of_z}
use Rattle.std.proofs.Math.IntN.{negsuc}
use Rattle.std.proofs.lemmas.Int.{to_z-of_z, unsigned_abs-mul}
use Rattle.std.proofs.lemmas.Nat.{mul-le}
use Rattle.std.specs.Int.{w128}
use lib.Signed.{mag}

-- a number that fits 128 signed bits is unchanged by writing and reading it
pub back : (z : ℤ) → mag z < 2 ^ 127 → to_z w128 (of_z w128 z) ≡ z
back z h = to_z-of_z w128 z (record { sfits = h })

-- a magnitude below n, as the test of a signed type reads it
pub small_mag : (z : ℤ) (n : ℕ) → unsigned_abs z < n → mag z < n
small_mag (pos a) n h = h
small_mag (negsuc a) n h = omega arith

-- the size of a product
pub scaled_size : (k m n : ℕ) (z : ℤ) → k ≤ m → unsigned_abs z ≤ n → unsigned_abs (pos k *ℤ z) ≤ m * n
scaled_size k m n z h l = rw (unsigned_abs-mul (pos k) z) (mul-le k (unsigned_abs z) m n h l)

-- a product of positive numbers is positive
pub mul_pos : (a b : ℕ) → 0 < a → 0 < b → 0 < a * b
mul_pos a b p q = grind arith

-- a number that fits 64 signed bits is unchanged by writing and reading it
pub back64 : (z : ℤ) → FitsSigned mir.Syntax.w64 z → to_z mir.Syntax.w64 (of_z mir.Syntax.w64 z) ≡ z
back64 z h = to_z-of_z mir.Syntax.w64 z h
