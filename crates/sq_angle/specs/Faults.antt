-- The texts of errors.
use Rattle.std.specs.Prelude.{ℕ, List, codes}
use Rattle.sq_angle.specs.declared.read.AngleFault.{AngleFault}
use Rattle.sq_angle.specs.declared.read.AngleFault.TheVariants.{NotANumber, TooManyDecimals, OutOfRange}

-- the text of an angle error
abbrev pub angle_fault_text : AngleFault → List ℕ
angle_fault_text NotANumber = codes "not a number"
angle_fault_text TooManyDecimals = codes "too many decimals"
angle_fault_text OutOfRange = codes "out of range"
