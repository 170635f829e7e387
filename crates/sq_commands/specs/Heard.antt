-- The texts of the answers of `track`.
use Rattle.std.specs.Prelude.{ℕ, ◌++◌, List, [], ◌∷◌, Result, Ok, Err, codes, decimal}
use Rattle.sq_angle.specs.Decimal.{DecimalWriter}
use Rattle.sq_angle.specs.Fraction.{Fraction}
use Rattle.sq_message.specs.declared.place.Place.{Place}
use Rattle.sq_message.specs.Parts.{squitter_parts}
use Rattle.sq_message.specs.Places.{place_latitude, place_longitude}
use Rattle.sq_text.specs.declared.faults.LineFault.{LineFault}
use Rattle.sq_digits.specs.Digits.{hexadecimal}
use Rattle.sq_text.specs.Faults.{fault_text}
use Rattle.sq_track.specs.declared.heard.Heard.{Heard}
use Rattle.sq_track.specs.declared.heard.Heard.TheVariants.{Fix, Followed, Waiting, Split, Far, NoSite, NotPosition}
use Rattle.sq_text.specs.Rows.{Cell, Blank, Number, Word, Column, column, degrees_width, fault_width, number_width}
use Rattle.sq_text.specs.Rows.{signed_width, word_width}
use Rattle.sq_text.specs.Squitters.{address_cell, feet_of, kind_name}
pub use Rattle.sq_commands.specs.declared.answers.HeardSquitter.{HeardSquitter}
use Rattle.sq_commands.specs.declared.formats.Format.{Format}
use Rattle.sq_commands.specs.declared.formats.Format.TheVariants.{Lines, Rows}
use Rattle.sq_commands.specs.Formats.{Telling, Writers, in_lines, in_rows}

-- ---- as a line

-- both coordinates of a place with seven decimals
abbrev pub place_words : DecimalWriter → Place → List ℕ
place_words decimals place = decimals.write (place_latitude place) ++ codes " "
    ++ decimals.write (place_longitude place)

-- the reply for an address, in six digits
abbrev pub heard_words : DecimalWriter → List ℕ → Heard → List ℕ
heard_words decimals address (Fix place) = codes "fix " ++ address ++ codes " " ++ place_words decimals place
heard_words decimals address (Followed place) = codes "followed " ++ address ++ codes " " ++ place_words decimals place
heard_words decimals address Waiting = codes "waiting " ++ address
heard_words decimals address (Split even odd) =
    codes "split " ++ address ++ codes " " ++ (decimal even ++ codes " " ++ decimal odd)
heard_words decimals address Far = codes "far " ++ address
heard_words decimals address NoSite = codes "no site " ++ address
heard_words decimals address NotPosition = codes "no position " ++ address

-- the reply to a squitter, in words
abbrev pub heard_text : DecimalWriter → HeardSquitter → List ℕ
heard_text decimals from =
    heard_words decimals (hexadecimal 6 (squitter_parts from.timed.squitter).address) from.heard

-- ---- as a row

-- the values of `track` after the line's number
pub record TrackRow : Type 0 where
  pub moment : Cell
  pub answer : Cell
  pub address : Cell
  pub kind : Cell
  pub lat : Cell
  pub lon : Cell
  pub feet : Cell

-- the columns of a place
abbrev pub place_columns : List (Column TrackRow)
place_columns =
    column (codes "lat") degrees_width (λ row. row.lat) ∷ column (codes "lon") degrees_width (λ row. row.lon) ∷ []

-- the columns of `track`
abbrev pub track_columns : List (Column TrackRow)
track_columns =
    column (codes "moment") number_width (λ row. row.moment) ∷ column (codes "answer") fault_width (λ row. row.answer)
    ∷ column (codes "address") (word_width 6) (λ row. row.address)
    ∷ column (codes "kind") (word_width 6) (λ row. row.kind)
    ∷ place_columns ++ (column (codes "feet") signed_width (λ row. row.feet) ∷ [])

-- a row without values
abbrev pub blank_track : TrackRow
blank_track = record {
  moment = Blank;
  answer = Blank;
  address = Blank;
  kind = Blank;
  lat = Blank;
  lon = Blank;
  feet = Blank;
}

-- the answer in a word or two
abbrev pub answer_word : Heard → List ℕ
answer_word (Fix place) = codes "fix"
answer_word (Followed place) = codes "followed"
answer_word Waiting = codes "waiting"
answer_word (Split even odd) = codes "split"
answer_word Far = codes "far"
answer_word NoSite = codes "no site"
answer_word NotPosition = codes "no position"

-- a coordinate of the place that was heard, if there is one
abbrev pub coordinate : DecimalWriter → (Place → Fraction) → Heard → Cell
coordinate decimals of (Fix place) = Number (decimals.write (of place))
coordinate decimals of (Followed place) = Number (decimals.write (of place))
coordinate decimals of Waiting = Blank
coordinate decimals of (Split even odd) = Blank
coordinate decimals of Far = Blank
coordinate decimals of NoSite = Blank
coordinate decimals of NotPosition = Blank

-- the row of the place that was heard, if there is one
abbrev pub place_row : DecimalWriter → Heard → TrackRow
place_row decimals heard = record blank_track {
  lat = coordinate decimals place_latitude heard;
  lon = coordinate decimals place_longitude heard;
}

-- the row of a squitter that was heard, or of a line that was refused
abbrev pub heard_row : Writers → Result HeardSquitter LineFault → TrackRow
heard_row writers (Ok from) = record (place_row writers.decimals from.heard) {
  moment = Number (decimal from.timed.moment);
  answer = Word (answer_word from.heard);
  address = address_cell from.timed.squitter;
  kind = Word (kind_name (squitter_parts from.timed.squitter).me);
  feet = feet_of writers.altitudes (squitter_parts from.timed.squitter).me;
}
heard_row writers (Err fault) = record blank_track { answer = Word (fault_text fault) }

-- ---- in each format

-- a line for each answer
abbrev pub heard_lines : Telling HeardSquitter
heard_lines = in_lines (λ writers. heard_text writers.decimals)

abbrev pub heard_telling : Format → Telling HeardSquitter
heard_telling Lines = heard_lines
heard_telling (Rows form) = in_rows form track_columns heard_row
