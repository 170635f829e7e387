-- The command `track`.
use Rattle.std.specs.Prelude.{◌≡◌, ◌≤◌, ◌<◌, ◌^◌, ◌⊎◌, ℕ, List, [], Option, None, Some, Result, MatchResult, length}
use Rattle.sq_devices.specs.Changes.{Taken, Written}
use Rattle.sq_text.specs.Timed.{IsDecimalText, TimedReader}
use Rattle.sq_log.specs.Answers.{Manner, WantsAt}
use Rattle.sq_log.specs.Content.{Answer}
use Rattle.sq_log.specs.Logs.{told_from}
use Rattle.sq_log.specs.Runs.{HasRun, WroteAnswers}
use Rattle.sq_log.specs.declared.run.RunFault.{RunFault}
use Rattle.sq_log.specs.declared.log.Tally.{Tally}
use Rattle.sq_commands.specs.Requests.{AskedTrack}
use Rattle.sq_track.specs.Held.{Held, StandsFor, made_with, settings}
use Rattle.sq_track.specs.History.{History}
use Rattle.sq_commands.specs.declared.arguments.ArgumentFault.{ArgumentFault}
use Rattle.sq_commands.specs.declared.arguments.ArgumentFault.TheVariants as faults
use Rattle.sq_commands.specs.declared.arguments.TrackOptions.{TrackOptions}
use Rattle.sq_commands.specs.declared.formats.Format.{Format}
use Rattle.sq_commands.specs.Arguments.{IsFaultUnless, IsSiteFault, IsSiteWords}
use Rattle.sq_commands.specs.Check.{run_reply}
use Rattle.sq_commands.specs.Faults.{IsMisuse}
use Rattle.sq_commands.specs.Replies.{ReplyParts}
use Rattle.sq_commands.specs.declared.track.Hearing.{Hearing}
use Rattle.sq_commands.specs.Formats.{IsFormatWord, Telling, Writers, told_by}
use Rattle.sq_commands.specs.Heard.{HeardSquitter, heard_telling}
use Rattle.sq_commands.specs.SlowAnswers.{AreTrueAfter}
use Rattle.sq_commands.specs.Holding.{AreHeardLinesBy}
use Rattle.sq_commands.specs.Tracking.{AreHeardLines, Past, track_manner}

-- ---- a run over a log

-- A tracker has heard these lines, and so much of their answers was written as the result says: for each history that
-- it represented, it now represents the history after them. The answers are true in slow worlds.
abbrev pub HasTracked : Telling HeardSquitter → (old new : Held) → Result Tally RunFault → Written → List (List ℕ)
    → Type 0
HasTracked telling old new result output lines = (reader : TimedReader) (writers : Writers) (h : History)
    → StandsFor old h → (answers : List (Answer HeardSquitter)) × (next : History)
    × AreHeardLines reader (settings old) h lines answers next
    × StandsFor new next × AreTrueAfter old h (told_from 1 answers)
    × WroteAnswers result output (told_by telling writers) answers

-- the result of a run over an input, with the tracker before and after it; answers are written in this way
abbrev pub IsTracked : Telling HeardSquitter → Result Tally RunFault → Taken → Written → (old new : Held) → Type 0
IsTracked telling result input output old new =
    HasRun (WantsAt track_manner new) (HasTracked telling old new result output) result input output

-- A tracker has heard these lines, and so much of their answers was written as the result says. Each answer follows
-- from what the tracker held before the line, whatever that was.
abbrev pub HasTrackedBy : Telling HeardSquitter → (old new : Held) → Result Tally RunFault → Written → List (List ℕ)
    → Type 0
HasTrackedBy telling old new result output lines = (reader : TimedReader) (writers : Writers)
    → (answers : List (Answer HeardSquitter)) × AreHeardLinesBy reader old lines answers new
    × WroteAnswers result output (told_by telling writers) answers

-- the result of a run over an input, by any contents of the tracker before it
abbrev pub IsTrackedBy : Telling HeardSquitter → Result Tally RunFault → Taken → Written → (old new : Held) → Type 0
IsTrackedBy telling result input output old new =
    HasRun (WantsAt track_manner new) (HasTrackedBy telling old new result output) result input output

-- how `track` answers texts, by the tracker that it borrows
abbrev pub hearing_manner : {F A : Type 0} → Manner (Hearing F A) Past HeardSquitter
hearing_manner = record {
  stands_for = λ client. track_manner.stands_for client.tracker.now;
  way = track_manner.way;
  wants = λ client. track_manner.wants client.tracker.now;
}

-- ---- the arguments

-- a limit as a number: 1 to 10 digits, below 2^32; 1000 if none is given
abbrev pub IsLimit : Option (List ℕ) → ℕ → Type 0
IsLimit None limit = limit ≡ 1000
IsLimit (Some word) limit = IsDecimalText word limit × (length word ≤ 10) × (limit < 2 ^ 32)

-- a window in milliseconds: 1 to 20 digits, below 2^64; 10000 if none is given
abbrev pub IsWindow : Option (List ℕ) → ℕ → Type 0
IsWindow None window = window ≡ 10000
IsWindow (Some word) window = IsDecimalText word window

-- the words spell these options
pub record IsTrackOptions (words : AskedTrack) (options : TrackOptions) : Type 0 where
  pub format_is : IsFormatWord words.format options.format
  pub limit_is : IsLimit words.limit options.limit
  pub some : 1 ≤ options.limit
  pub window_is : IsWindow words.window options.window
  pub site_is : IsSiteWords words.lat words.lon options.site

-- the first error of the arguments, in reading order
abbrev pub IsTrackFault : AskedTrack → ArgumentFault → Type 0
IsTrackFault words fault =
    IsFaultUnless ((format : Format) × IsFormatWord words.format format) fault faults.Format
    (IsFaultUnless ((n : ℕ) × IsLimit words.limit n) fault faults.Limit
    (IsFaultUnless ((n : ℕ) × IsLimit words.limit n × (1 ≤ n)) fault faults.NoLimit
    (IsFaultUnless ((n : ℕ) × IsWindow words.window n) fault faults.Window
    (IsSiteFault words.lat words.lon fault))))

abbrev pub IsTrackReading : AskedTrack → Result TrackOptions ArgumentFault → Type 0
IsTrackReading words reading = MatchResult reading (IsTrackOptions words) (IsTrackFault words)

-- ---- the command

-- a run over the input, by a new tracker with these options
abbrev pub IsLogRun : TrackOptions → ReplyParts → Taken → Written → Type 0
IsLogRun options reply input output = (old : Held) × (new : Held) × StandsFor old []
    × (settings old ≡ made_with options.limit options.window options.site)
    × ((result : Result Tally RunFault)
    × IsTracked (heard_telling options.format) result input output old new × (reply ≡ run_reply result))

-- the log is heard with the options that the words spell; if they are invalid, the input is unread
abbrev pub IsTrackRun : AskedTrack → ReplyParts → Taken → Written → Type 0
IsTrackRun words reply input output =
    ((options : TrackOptions) × IsTrackOptions words options × IsLogRun options reply input output)
    ⊎ ((fault : ArgumentFault) × IsTrackFault words fault × IsMisuse fault reply input output)
