-- The columns of a squitter (ICAO Doc 9871, registers 0,5 and 0,6).
use Rattle.std.specs.Prelude.{ℕ, Bool, List, codes, decimal}
use Rattle.std.specs.Fmt.{signed_decimal}
use Rattle.sq_message.specs.declared.air.Altitude.{Altitude}
use Rattle.sq_message.specs.declared.air.Altitude.TheVariants.{Missing, Feet, Raw}
use Rattle.sq_message.specs.declared.squitter.Me.{Me}
use Rattle.sq_message.specs.declared.squitter.Me.TheVariants as kinds
use Rattle.sq_message.specs.declared.squitter.Squitter.{Squitter}
use Rattle.sq_message.specs.Parts.{squitter_parts}
use Rattle.sq_message.specs.Spelling.{bit}
use Rattle.sq_digits.specs.Digits.{hexadecimal}
use Rattle.sq_text.specs.Altitudes.{AltitudeReader}
use Rattle.sq_text.specs.Rows.{Cell, Blank, Number, Word}

-- the kind of a message
abbrev pub kind_name : Me → List ℕ
kind_name (kinds.Airborne airborne) = codes "air"
kind_name (kinds.Surface surface) = codes "ground"
kind_name (kinds.Other other) = codes "other"

-- an altitude in feet, or empty if it is missing or raw
abbrev pub feet_cell : Altitude → Cell
feet_cell Missing = Blank
feet_cell (Feet feet) = Number (signed_decimal feet)
feet_cell (Raw field) = Blank

-- the altitude of a message in feet, or empty if the message has none
abbrev pub feet_of : AltitudeReader → Me → Cell
feet_of altitudes (kinds.Airborne airborne) = feet_cell (altitudes.read airborne.fields)
feet_of altitudes (kinds.Surface surface) = Blank
feet_of altitudes (kinds.Other other) = Blank

-- a bit, as 0 or 1
abbrev pub bit_cell : Bool → Cell
bit_cell b = Number (decimal (bit b))

-- the address of a squitter, in six hexadecimal digits
abbrev pub address_cell : Squitter → Cell
address_cell squitter = Word (hexadecimal 6 (squitter_parts squitter).address)
