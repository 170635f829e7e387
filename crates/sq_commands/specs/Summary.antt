-- The summary of a feed: how many items were written, and what became of the others.
use Rattle.std.specs.Prelude.{◌==◌, ◌+◌, ◌++◌, ◌/◌, nat_lt, Option, Some, None, ℕ, Bool, List, [], ◌∷◌, codes, decimal, false, sum, true, if◌then◌else◌, ◌&&◌, not}
use Rattle.std.specs.List.{flat_map}
use Rattle.sq_feed.specs.Counts.{Tally, nothing_counted}
use Rattle.sq_feed.specs.declared.message.Stranger.{Stranger}
use Rattle.sq_feed.specs.declared.message.Stranger.TheVariants as strangers
use Rattle.sq_feed.specs.declared.units.Unit.{Unit}
use Rattle.sq_feed.specs.declared.units.Unit.TheVariants as units
use Rattle.sq_commands.specs.declared.feed.FeedEnd.{FeedEnd}

-- these texts, each behind a comma
unfoldable pub followed : List (List ℕ) → List ℕ
followed texts = flat_map (λ text. codes ", " ++ text) texts

-- these texts, with commas between them
unfoldable pub joined : List (List ℕ) → List ℕ
joined [] = []
joined (text ∷ texts) = text ++ followed texts

-- texts, behind others or not
unfoldable pub rest_of : (is_first : Bool) → List (List ℕ) → List ℕ
rest_of true texts = joined texts
rest_of false texts = followed texts

-- the comma before a text, unless it is the first
unfoldable pub comma_of : (is_first : Bool) → List ℕ
comma_of true = []
comma_of false = codes ", "

-- a downlink format and how many frames it has, if any
unfoldable pub format_text : ℕ → ℕ → List (List ℕ)
format_text format count =
    if count == 0 then [] else ((codes "DF" ++ decimal format ++ codes " " ++ decimal count) ∷ [])

-- the downlink formats from this one on that have frames
unfoldable pub format_texts : ℕ → List ℕ → List (List ℕ)
format_texts format [] = []
format_texts format (count ∷ counts) = format_text format count ++ format_texts (format + 1) counts

-- a count and its name, or nothing if the count is 0
unfoldable pub part : ℕ → List ℕ → List ℕ
part count name = if count == 0 then [] else (codes ", " ++ decimal count ++ name)

-- the number of frames of other downlink formats, and of each format
abbrev pub other_formats : List ℕ → List ℕ
other_formats counts =
    part (sum counts) (codes " of other downlink formats (" ++ joined (format_texts 0 counts) ++ codes ")")

-- how many frames were written, and the counts of other items that are not 0
unfoldable pub counts_text : Tally → List ℕ
counts_text tally = decimal tally.written ++ codes " written" ++ other_formats tally.formats
    ++ part tally.mode_ac (codes " of Mode A/C") ++ part tally.multilaterated (codes " multilaterated")
    ++ part tally.receiver_ids (codes " receiver ids")
    ++ part tally.aside (codes " set aside") ++ part tally.damaged (codes " damaged")

-- there were items, and all of them are damaged
abbrev pub are_all_damaged : Tally → Bool
are_all_damaged tally = not (tally.found == 0) && (tally.damaged == tally.found)

-- Many times of a source with a receiver's clock were set aside: more than 4, and one for 20 that were written.
abbrev pub has_several_clocks : FeedEnd → Bool
has_several_clocks end =
    not end.is_dated && nat_lt 4 end.counts.aside && nat_lt (end.counts.written / 20) end.counts.aside

-- what to do if many times were set aside
unfoldable pub clocks_advice : FeedEnd → List ℕ
clocks_advice end =
    if has_several_clocks end then codes "; try --arrival: the source seems to have several clocks" else []

-- what to do if the timestamps of a live source are ahead of its arrivals
unfoldable pub ahead_advice : Bool → List ℕ
ahead_advice true = codes "; the clock runs ahead of the arrivals: try --arrival, or read a recording from its file"
ahead_advice false = []

-- what to do if times went back
unfoldable pub back_advice : ℕ → List ℕ
back_advice breaks =
    if breaks == 0 then []
    else codes "; timestamps behind a jump back are moved on: try --leap and --reorder to sort them"

-- what to do if all items are damaged, or if times are doubted
abbrev pub advice : FeedEnd → List ℕ
advice end =
    if are_all_damaged end.counts then codes ": try another --format, or none; the times of a table are seconds"
    else clocks_advice end ++ ahead_advice end.is_ahead ++ back_advice end.breaks

-- what the timestamps seem to be, and what they have to be
abbrev pub unit_text : Unit → List ℕ
unit_text units.Seconds = codes "the timestamps of this log seem to be seconds; they have to be milliseconds"
unit_text units.Microseconds =
    codes "the timestamps seem to be microseconds; a log has milliseconds, and a table has seconds"
unit_text units.Nanoseconds =
    codes "the timestamps seem to be nanoseconds; a log has milliseconds, and a table has seconds"
unit_text units.AllZero =
    codes "all frames of this file have the timestamp 0, as without times: old ones pair with new"
unit_text units.Gps =
    codes "the clock of this source seems to be GPS time (Radarcape): set it to 12 MHz, or read its port with --arrival"

-- the line on the unit, if it is not milliseconds
abbrev pub unit_line : Option Unit → List ℕ
unit_line None = []
unit_line (Some unit) = unit_text unit ++ codes "\n"

-- the summary: a line on the unit, the counts, how often times went back, and what to do
abbrev pub summary_text : FeedEnd → List ℕ
summary_text end =
    unit_line end.unit ++ counts_text end.counts ++ part end.breaks (codes " jumps back") ++ advice end

-- the end of a source with these numbers of squitters that were written and set aside
abbrev pub summed : (written aside : ℕ) → (is_dated : Bool) → FeedEnd
summed written aside is_dated = record {
  counts = record nothing_counted { found = written + aside; written = written; aside = aside };
  stranger = None;
  is_dated = is_dated;
  unit = None;
  breaks = 0;
  is_ahead = false;
}

-- what a source without frames is, and what to do
abbrev pub stranger_text : Stranger → List ℕ
stranger_text strangers.Sbs = codes "the input is SBS (BaseStation) text, which has no frames: read port 30005 or 30002"
stranger_text strangers.Tar = codes "the input is a tar archive: try tar -xOf FILE | squitter feed"
stranger_text strangers.Packed = codes "the input is compressed: try gzip -dc FILE | squitter feed"
stranger_text strangers.Utf16 = codes "the input is UTF-16: try iconv -f UTF-16 -t UTF-8 FILE | squitter feed"
stranger_text strangers.Json = codes "the input is lines of JSON, which have no frames"
stranger_text strangers.Semicolons =
    codes "the table has semicolons between its columns: they have to be commas, and its decimal commas points"
stranger_text strangers.Tabs =
    codes "the table has tabs between its columns: they have to be commas"
stranger_text strangers.NoTime =
    codes "the table has no column time (seconds): name its columns time, icao24 and rawmsg in the first row"
stranger_text strangers.NoRawmsg =
    codes "the table has no column rawmsg, so it has no frames: take one that has them"
stranger_text strangers.NoSeconds =
    codes "the first column of the table has no times in seconds, as 1700000000.25: milliseconds and dates are not read"
stranger_text strangers.NoNames =
    codes "the third column of the table has no frames: name its columns time (seconds), icao24 and rawmsg in the first row"
stranger_text strangers.NoFrame =
    codes "no frame is in the first 16384 bytes: try --format=beast, avr, csv or log; a table has the columns time (seconds), icao24 and rawmsg"
