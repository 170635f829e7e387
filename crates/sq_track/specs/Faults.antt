-- The texts of faults.
use Rattle.std.specs.Prelude.{◌++◌, ℕ, List, codes, decimal}
use Rattle.sq_track.specs.declared.heard.TrackFault.{TrackFault}
use Rattle.sq_track.specs.declared.heard.TrackFault.TheVariants.{NoLimit, Memory, MomentBack, Full}

-- the text of a fault, up to its number
abbrev pub track_fault_label : TrackFault → List ℕ
track_fault_label NoLimit = codes "limit is 0"
track_fault_label Memory = codes "out of memory"
track_fault_label (MomentBack last) = codes "moment back "
track_fault_label Full = codes "table full"

-- the text of a fault
abbrev pub track_fault_text : TrackFault → List ℕ
track_fault_text (MomentBack last) = track_fault_label (MomentBack last) ++ decimal last
track_fault_text fault = track_fault_label fault
