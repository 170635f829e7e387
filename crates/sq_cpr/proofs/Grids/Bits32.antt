-- Signed 32-bit numbers as they appear in goals, and indices that fit them.
use Rattle.std.proofs.Common.{◌≡◌, ◌^◌, ◌<◌, ℤ, to_z, of_z}
use Rattle.std.proofs.lemmas.Int.{to_z-of_z}
use Rattle.std.specs.Int.{w32}
use lib.Signed.{mag}

-- a number that fits 32 signed bits is unchanged by writing and reading it
pub back32 : (z : ℤ) → mag z < 2 ^ 31 → to_z w32 (of_z w32 z) ≡ z
back32 z h = to_z-of_z w32 z (record { sfits = h })
