-- The texts of errors.
use Rattle.std.specs.Prelude.{◌++◌, ◌-◌, ◌^◌, ℕ, List, [], codes, decimal, false, true}
use Rattle.std.specs.Fmt.{digits, format_spec, padded_integral}
use Rattle.sq_cpr.specs.Faults.{local_fault_text, pair_fault_text, pair_fault_label}
use Rattle.sq_cpr.specs.declared.faults.LocalFault.TheVariants as locals
use Rattle.sq_cpr.specs.declared.faults.PairFault.TheVariants as pairs
use Rattle.sq_message.specs.declared.squitter.FrameFault.{FrameFault}
use Rattle.sq_message.specs.declared.squitter.FrameFault.TheVariants.{NotDf17, Parity}
use Rattle.sq_message.specs.declared.place.PlaceFault.{PlaceFault}
use Rattle.sq_message.specs.declared.place.PlaceFault.TheVariants.{NotPosition, OtherAddress, OtherKind, SameParity}
use Rattle.sq_message.specs.declared.place.PlaceFault.TheVariants.{NoSite, OutOfRange, ZoneCounts}

-- upper-case hexadecimal digits, padded with zeros to at least six
abbrev pub six_hexadecimal : ℕ → List ℕ
six_hexadecimal n = padded_integral (format_spec 32 0 4 6 (2 ^ 64 - 1)) false [] (digits 16 true n)

-- the text of a frame error before its number
abbrev pub frame_fault_label : FrameFault → List ℕ
frame_fault_label (NotDf17 format) = codes "not DF17 "
frame_fault_label (Parity remainder) = codes "parity "

-- the text of a frame error
abbrev pub frame_fault_text : FrameFault → List ℕ
frame_fault_text (NotDf17 format) = frame_fault_label (NotDf17 format) ++ decimal format
frame_fault_text (Parity remainder) = frame_fault_label (Parity remainder) ++ six_hexadecimal remainder

-- the text of a place error before its numbers
abbrev pub place_fault_label : PlaceFault → List ℕ
place_fault_label NotPosition = codes "not a position"
place_fault_label OtherAddress = codes "other address"
place_fault_label OtherKind = codes "other kind"
place_fault_label SameParity = codes "same parity"
place_fault_label NoSite = codes "no site"
place_fault_label OutOfRange = local_fault_text locals.OutOfRange
place_fault_label (ZoneCounts even odd) = pair_fault_label (pairs.ZoneCounts even odd)

-- the text of a place error
abbrev pub place_fault_text : PlaceFault → List ℕ
place_fault_text (ZoneCounts even odd) = pair_fault_text (pairs.ZoneCounts even odd)
place_fault_text fault = place_fault_label fault
