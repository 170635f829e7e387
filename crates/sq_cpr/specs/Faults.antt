-- The texts of errors.
use Rattle.std.specs.Prelude.{◌++◌, ℕ, List, codes, decimal}
use Rattle.sq_cpr.specs.declared.faults.LocalFault.{LocalFault}
use Rattle.sq_cpr.specs.declared.faults.LocalFault.TheVariants as locals
use Rattle.sq_cpr.specs.declared.faults.PairFault.{PairFault}
use Rattle.sq_cpr.specs.declared.faults.PairFault.TheVariants as pairs

-- the text of an error of local decoding
abbrev pub local_fault_text : LocalFault → List ℕ
local_fault_text locals.OutOfRange = codes "latitude out of range"

-- the text of an error of pair decoding before its numbers
abbrev pub pair_fault_label : PairFault → List ℕ
pair_fault_label pairs.OutOfRange = local_fault_text locals.OutOfRange
pair_fault_label (pairs.ZoneCounts even odd) = codes "zone counts "

-- the text of an error of pair decoding
abbrev pub pair_fault_text : PairFault → List ℕ
pair_fault_text pairs.OutOfRange = pair_fault_label pairs.OutOfRange
pair_fault_text (pairs.ZoneCounts even odd) =
    pair_fault_label (pairs.ZoneCounts even odd) ++ decimal even ++ codes " " ++ decimal odd
