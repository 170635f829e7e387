-- The two numbers of a code (RTCA DO-260B, appendix on compact position reporting).
use Rattle.std.specs.Prelude.{ℕ}
use Rattle.sq_cpr.specs.declared.code.Code.{Code}

-- the latitude number (YZ) and the longitude number (XZ)
pub record CodeNumbers : Type 0 where
  pub lat : ℕ
  pub lon : ℕ

abbrev pub numbers_of : Code → CodeNumbers
numbers_of code = record { lat = code.lat; lon = code.lon }
