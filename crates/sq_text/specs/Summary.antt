-- A squitter in one line.
use Rattle.std.specs.Prelude.{ℕ, ◌++◌, ◌/◌, ◌^◌, List, codes, decimal}
use Rattle.sq_zones.specs.declared.parity.Parity.{Parity}
use Rattle.sq_cpr.specs.Code.{CodeNumbers, numbers_of}
use Rattle.sq_message.specs.declared.squitter.Me.{Me}
use Rattle.sq_message.specs.declared.squitter.Me.TheVariants as kinds
use Rattle.sq_message.specs.declared.squitter.Squitter.{Squitter}
use Rattle.sq_message.specs.Parts.{raw_of, squitter_parts}
use Rattle.sq_digits.specs.Digits.{hexadecimal}
use Rattle.sq_text.specs.Show.{parity_name}

-- the two numbers of a code
unfoldable pub code_words : CodeNumbers → List ℕ
code_words code = decimal code.lat ++ codes " " ++ decimal code.lon

-- a kind, the parity and the code of a position
abbrev pub place_words : List ℕ → Parity → CodeNumbers → List ℕ
place_words kind parity code = (kind ++ parity_name parity ++ codes " ") ++ code_words code

-- the kind of a message, followed by the parity and code of a position or by the type code of another message
abbrev pub me_words : Me → List ℕ
me_words (kinds.Airborne airborne) = place_words (codes " air ") airborne.parity (numbers_of airborne.code)
me_words (kinds.Surface surface) = place_words (codes " ground ") surface.parity (numbers_of surface.code)
me_words (kinds.Other other) = codes " other " ++ decimal (raw_of other / 2 ^ 51)

-- `ok`, the address, and the message in short
abbrev pub summary : Squitter → List ℕ
summary squitter = let parts = squitter_parts squitter in codes "ok " ++ hexadecimal 6 parts.address
    ++ me_words parts.me
