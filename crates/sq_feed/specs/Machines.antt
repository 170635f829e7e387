-- The items of a source of any format.
use Rattle.std.specs.Prelude.{◌++◌, ℕ, List}
use Rattle.sq_feed.specs.declared.machine.Format.{Format}
use Rattle.sq_feed.specs.declared.machine.Format.TheVariants.{Beast, Avr, Csv, Log}
use Rattle.sq_feed.specs.declared.message.Found.{Found}
use Rattle.sq_feed.specs.Avr.{BegunWord, cut_word, avr_to_come, no_word_begun}
use Rattle.sq_feed.specs.Begun.{Begun, cut_off, nothing_begun, rest_of}
use Rattle.sq_feed.specs.declared.rows.Layout.{Layout}
use Rattle.sq_feed.specs.declared.rows.Layout.TheVariants.{Log as LogLayout}
use Rattle.sq_feed.specs.Rows.{BegunRow, csv_start, cut_row, no_row_begun, rows_to_come}
use Rattle.sq_feed.specs.Stream.{found_in}

-- the format of a source, and what is begun
pub record Begins : Type 0 where
  pub format : Format
  pub beast : Begun
  pub avr : BegunWord
  pub rows : BegunRow

-- the layout of lines in a format
abbrev pub layout_of : Format → Layout
layout_of Beast = LogLayout
layout_of Avr = LogLayout
layout_of Csv = csv_start
layout_of Log = LogLayout

-- the machine at the start of a source
abbrev pub new_machine : Format → Begins
new_machine format = record {
  format = format;
  beast = nothing_begun;
  avr = no_word_begun;
  rows = no_row_begun (layout_of format);
}

abbrev pub to_come_as : Format → Begins → List ℕ → List Found
to_come_as Beast machine bytes = found_in (rest_of machine.beast ++ bytes)
to_come_as Avr machine bytes = avr_to_come machine.avr bytes
to_come_as Csv machine bytes = rows_to_come machine.rows bytes
to_come_as Log machine bytes = rows_to_come machine.rows bytes

-- the items of the bytes to come, after what is begun
abbrev pub to_come : Begins → List ℕ → List Found
to_come machine bytes = to_come_as machine.format machine bytes

abbrev pub dropped_as : Format → Begins → List Found
dropped_as Beast machine = cut_off machine.beast.kind
dropped_as Avr machine = cut_word machine.avr
dropped_as Csv machine = cut_row machine.rows
dropped_as Log machine = cut_row machine.rows

-- the items if a source is lost here: damage, if anything is begun
abbrev pub dropped : Begins → List Found
dropped machine = dropped_as machine.format machine
