-- Sizes of memory that is lent.
use Rattle.std.specs.Prelude.{◌≡◌, ℕ, ◌%◌, ◌^◌, ◌<◌}

-- whole units of 16 bytes, within the largest size of a block
abbrev pub IsSize : ℕ → Type 0
IsSize n = (n % 16 ≡ 0) × (n < 2 ^ 63)
