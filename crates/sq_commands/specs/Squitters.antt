-- The texts of the answers of `check`.
use Rattle.std.specs.Prelude.{◌++◌, ◌/◌, ◌^◌, Bool, List, [], ◌∷◌, Result, Ok, Err, codes, decimal}
use Rattle.sq_zones.specs.declared.parity.Parity.{Parity}
use Rattle.sq_cpr.specs.declared.code.Code.{Code}
use Rattle.sq_cpr.specs.Code.{numbers_of}
use Rattle.sq_message.specs.declared.other.Other.{Other}
use Rattle.sq_message.specs.declared.squitter.Me.{Me}
use Rattle.sq_message.specs.declared.squitter.Me.TheVariants as kinds
use Rattle.sq_message.specs.declared.squitter.Squitter.{Squitter}
use Rattle.sq_message.specs.Parts.{Airborne, Surface, air_parts, ground_parts, raw_of, squitter_parts}
use Rattle.sq_text.specs.declared.faults.LineFault.{LineFault}
use Rattle.sq_digits.specs.Digits.{hexadecimal}
use Rattle.sq_text.specs.Faults.{fault_text}
use Rattle.sq_text.specs.Show.{parity_name}
use Rattle.sq_text.specs.Summary.{summary}
use Rattle.sq_text.specs.Altitudes.{AltitudeReader}
use Rattle.sq_text.specs.Rows.{Cell, Blank, Number, Word, Column, column, fault_width, number_width, signed_width}
use Rattle.sq_text.specs.Rows.{word_width}
use Rattle.sq_text.specs.Squitters.{address_cell, bit_cell, feet_cell}
use Rattle.sq_commands.specs.declared.formats.Format.{Format}
use Rattle.sq_commands.specs.declared.formats.Format.TheVariants.{Lines, Rows}
use Rattle.sq_commands.specs.Formats.{Telling, Writers, in_lines, in_rows}

-- ---- as a row

-- the values of `check` after the line's number
pub record CheckRow : Type 0 where
  pub answer : Cell
  pub address : Cell
  pub ca : Cell
  pub type_code : Cell
  pub kind : Cell
  pub parity : Cell
  pub lat_code : Cell
  pub lon_code : Cell
  pub time : Cell
  pub feet : Cell
  pub altitude : Cell
  pub status : Cell
  pub flag : Cell
  pub movement : Cell
  pub track_status : Cell
  pub track : Cell
  pub me : Cell

-- the columns that both kinds of position fill
abbrev pub position_columns : List (Column CheckRow)
position_columns =
    column (codes "parity") (word_width 4) (λ row. row.parity)
    ∷ column (codes "lat_code") number_width (λ row. row.lat_code)
    ∷ column (codes "lon_code") number_width (λ row. row.lon_code)
    ∷ column (codes "time") number_width (λ row. row.time) ∷ []

-- the columns that only an airborne position fills
abbrev pub air_columns : List (Column CheckRow)
air_columns =
    column (codes "feet") signed_width (λ row. row.feet)
    ∷ column (codes "altitude") (word_width 3) (λ row. row.altitude)
    ∷ column (codes "status") number_width (λ row. row.status)
    ∷ column (codes "flag") number_width (λ row. row.flag) ∷ []

-- the columns that only a surface position fills
abbrev pub ground_columns : List (Column CheckRow)
ground_columns =
    column (codes "movement") number_width (λ row. row.movement)
    ∷ column (codes "track_status") number_width (λ row. row.track_status)
    ∷ column (codes "track") number_width (λ row. row.track) ∷ []

-- the columns of a message; only messages of other kinds fill the last one
abbrev pub message_columns : List (Column CheckRow)
message_columns =
    column (codes "type") number_width (λ row. row.type_code)
    ∷ column (codes "kind") (word_width 6) (λ row. row.kind)
    ∷ position_columns ++ air_columns ++ ground_columns ++ (column (codes "me") (word_width 14) (λ row. row.me) ∷ [])

-- the columns of `check`
abbrev pub check_columns : List (Column CheckRow)
check_columns =
    column (codes "answer") fault_width (λ row. row.answer)
    ∷ column (codes "address") (word_width 6) (λ row. row.address)
    ∷ column (codes "ca") number_width (λ row. row.ca) ∷ message_columns

-- a row without values
abbrev pub blank_check : CheckRow
blank_check = record {
  answer = Blank;
  address = Blank;
  ca = Blank;
  type_code = Blank;
  kind = Blank;
  parity = Blank;
  lat_code = Blank;
  lon_code = Blank;
  time = Blank;
  feet = Blank;
  altitude = Blank;
  status = Blank;
  flag = Blank;
  movement = Blank;
  track_status = Blank;
  track = Blank;
  me = Blank;
}

-- the row of a position's parity, code and T bit
abbrev pub position_row : Parity → Code → Bool → CheckRow
position_row parity code time = record blank_check {
  parity = Word (parity_name parity);
  lat_code = Number (decimal (numbers_of code).lat);
  lon_code = Number (decimal (numbers_of code).lon);
  time = bit_cell time;
}

-- the row of an airborne position
abbrev pub air_row : AltitudeReader → Airborne → CheckRow
air_row altitudes airborne = let fields = air_parts airborne.fields in
    record (position_row airborne.parity airborne.code fields.time) {
      type_code = Number (decimal fields.type_code);
      kind = Word (codes "air");
      feet = feet_cell (altitudes.read airborne.fields);
      altitude = Word (hexadecimal 3 fields.altitude);
      status = Number (decimal fields.status);
      flag = bit_cell fields.flag;
    }

-- the row of a surface position
abbrev pub ground_row : Surface → CheckRow
ground_row surface = let fields = ground_parts surface.fields in
    record (position_row surface.parity surface.code fields.time) {
      type_code = Number (decimal fields.type_code);
      kind = Word (codes "ground");
      movement = Number (decimal fields.movement);
      track_status = bit_cell fields.track_status;
      track = Number (decimal fields.track);
    }

-- the row of another message: its 56 bits as they are
abbrev pub other_row : Other → CheckRow
other_row other = record blank_check {
  type_code = Number (decimal (raw_of other / 2 ^ 51));
  kind = Word (codes "other");
  me = Word (hexadecimal 14 (raw_of other));
}

-- the row of a message, by its kind
abbrev pub message_row : AltitudeReader → Me → CheckRow
message_row altitudes (kinds.Airborne airborne) = air_row altitudes airborne
message_row altitudes (kinds.Surface surface) = ground_row surface
message_row altitudes (kinds.Other other) = other_row other

-- the row of a squitter, or of a line that was refused
abbrev pub squitter_row : Writers → Result Squitter LineFault → CheckRow
squitter_row writers (Ok squitter) = record (message_row writers.altitudes (squitter_parts squitter).me) {
  answer = Word (codes "ok");
  address = address_cell squitter;
  ca = Number (decimal (squitter_parts squitter).ca);
}
squitter_row writers (Err fault) = record blank_check { answer = Word (fault_text fault) }

-- ---- in each format

-- a line for each answer
abbrev pub squitter_lines : Telling Squitter
squitter_lines = in_lines (λ writers. summary)

abbrev pub squitter_telling : Format → Telling Squitter
squitter_telling Lines = squitter_lines
squitter_telling (Rows form) = in_rows form check_columns squitter_row
