-- The characters in the texts of angles and frames, as ASCII codes.
use Rattle.std.specs.Prelude.{◌+◌, ℕ}

abbrev pub space : ℕ
space = 32

abbrev pub star : ℕ
star = 42

abbrev pub minus_sign : ℕ
minus_sign = 45

abbrev pub decimal_point : ℕ
decimal_point = 46

abbrev pub semicolon : ℕ
semicolon = 59

-- the digit of a number below 10
abbrev pub digit : ℕ → ℕ
digit n = 48 + n
