-- The text of a squitter: its fields, one for each line.
use Rattle.std.specs.Prelude.{◌≡◌, ℕ, ◌++◌, ◌/◌, ◌^◌, List, codes, decimal}
use Rattle.std.specs.Fmt.{signed_decimal}
use Rattle.sq_zones.specs.declared.parity.Parity.{Parity}
use Rattle.sq_zones.specs.declared.parity.Parity.TheVariants.{Even, Odd}
use Rattle.sq_cpr.specs.Code.{CodeNumbers, numbers_of}
use Rattle.sq_message.specs.declared.air.Altitude.{Altitude}
use Rattle.sq_message.specs.declared.air.Altitude.TheVariants.{Missing, Feet, Raw}
use Rattle.sq_message.specs.declared.other.Other.{Other}
use Rattle.sq_message.specs.declared.squitter.Me.{Me}
use Rattle.sq_message.specs.declared.squitter.Me.TheVariants as kinds
use Rattle.sq_message.specs.declared.squitter.Squitter.{Squitter}
use Rattle.sq_message.specs.Parts.{Airborne, Surface, air_parts, ground_parts, raw_of, SquitterParts, squitter_parts}
use Rattle.sq_message.specs.Altitudes.{IsAltitude}
use Rattle.sq_message.specs.Spelling.{bit}
use Rattle.sq_digits.specs.Digits.{hexadecimal}

-- a line: a name, a space and a word
unfoldable pub line : List ℕ → List ℕ → List ℕ
line name word = name ++ codes " " ++ word ++ codes "\n"

abbrev pub number_line : List ℕ → ℕ → List ℕ
number_line name number = line name (decimal number)

abbrev pub parity_name : Parity → List ℕ
parity_name Even = codes "even"
parity_name Odd = codes "odd"

abbrev pub altitude_line : Altitude → List ℕ
altitude_line Missing = codes "altitude none\n"
altitude_line (Feet feet) = codes "altitude " ++ signed_decimal feet ++ codes " ft\n"
altitude_line (Raw field) = codes "altitude raw " ++ hexadecimal 3 field ++ codes "\n"

-- the parity and the code of a position
abbrev pub place_lines : Parity → CodeNumbers → List ℕ
place_lines parity code = line (codes "parity") (parity_name parity) ++ number_line (codes "lat") code.lat
    ++ number_line (codes "lon") code.lon

-- the lines of an airborne position with this altitude
abbrev pub airborne_lines : Airborne → Altitude → List ℕ
airborne_lines airborne altitude =
    let fields = air_parts airborne.fields in
    number_line (codes "type") fields.type_code ++ line (codes "kind") (codes "air")
    ++ number_line (codes "status") fields.status
    ++ number_line (codes "flag") (bit fields.flag) ++ altitude_line altitude
    ++ number_line (codes "time") (bit fields.time)
    ++ place_lines airborne.parity (numbers_of airborne.code)

abbrev pub surface_lines : Surface → List ℕ
surface_lines surface =
    let fields = ground_parts surface.fields in
    number_line (codes "type") fields.type_code ++ line (codes "kind") (codes "ground")
    ++ number_line (codes "movement") fields.movement
    ++ number_line (codes "track status") (bit fields.track_status) ++ number_line (codes "track") fields.track
    ++ number_line (codes "time") (bit fields.time) ++ place_lines surface.parity (numbers_of surface.code)

abbrev pub other_lines : Other → List ℕ
other_lines other =
    number_line (codes "type") (raw_of other / 2 ^ 51) ++ line (codes "kind") (codes "other")
    ++ line (codes "me") (hexadecimal 14 (raw_of other))

-- the text of an airborne position with the altitude that its field means
abbrev pub IsShownAirborne : Airborne → List ℕ → Type 0
IsShownAirborne airborne text =
    let fields = air_parts airborne.fields in
    (altitude : Altitude) × IsAltitude fields.type_code fields.altitude altitude
    × (text ≡ airborne_lines airborne altitude)

-- the text of a message, by its kind
abbrev pub IsShownMe : Me → List ℕ → Type 0
IsShownMe (kinds.Airborne airborne) text = IsShownAirborne airborne text
IsShownMe (kinds.Surface surface) text = text ≡ surface_lines surface
IsShownMe (kinds.Other other) text = text ≡ other_lines other

-- the lines of the address and the capability of a squitter
abbrev pub head_lines : SquitterParts → List ℕ
head_lines parts = line (codes "address") (hexadecimal 6 parts.address) ++ number_line (codes "ca") parts.ca

-- the text of a squitter: its head, and then its message
abbrev pub IsShown : Squitter → List ℕ → Type 0
IsShown squitter text =
    let parts = squitter_parts squitter in
    (rest : List ℕ) × IsShownMe parts.me rest × (text ≡ head_lines parts ++ rest)
