-- The parts of a head.
use Rattle.std.specs.Prelude.{ℕ}

-- everything in a position squitter with such fields except the encoded position
pub record HeadOf (Fields : Type 0) : Type 0 where
  pub ca : ℕ
  pub address : ℕ
  pub fields : Fields
