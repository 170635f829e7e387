-- The size of a code.
use Rattle.std.specs.Prelude.{◌^◌, ℕ}

-- the number of codes of one zone, in each coordinate
abbrev pub codes_of_zone : ℕ
codes_of_zone = 2 ^ 17
