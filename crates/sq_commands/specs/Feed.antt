-- The command `feed`.
use Rattle.std.specs.Prelude.{◌≡◌, ◌≢◌, ◌++◌, ◌⊎◌, ℕ, List, [], ◌∷◌, Option, None, Some, Result, Ok, Err, MatchResult, codes}
use Rattle.std.specs.Prelude.{◌==◌, ⊤, Bool, false, if◌then◌else◌, map, not, true}
use Rattle.std.specs.Io.KnownBytes.{IsAtEnd}
use Rattle.sq_devices.specs.Changes.{FinishedOnce, Sent, Taken, TookAll, TookPart, TookSome, Unfinished}
use Rattle.sq_devices.specs.Changes.{Written, Wrote}
use Rattle.sq_devices.specs.Clocks.{Times}
use Rattle.sq_devices.specs.Calls.{HasPut}
use Rattle.sq_devices.specs.declared.device.Sink.{Ghosts as SinkGhosts}
use Rattle.sq_devices.specs.Device.{IsPrefixOf, WroteFront}
use Rattle.sq_feed.specs.Counts.{Tally}
use Rattle.sq_feed.specs.Ears.{Hears, told_of_all}
use Rattle.sq_feed.specs.Feeds.{AreFed, Fed, Feeding, HasTold, bytes_in, ear_at_end, last_fed, lines_of, nothing_fed}
use Rattle.sq_feed.specs.Feeds.{told_at_end}
use Rattle.sq_feed.specs.Times.{is_ahead_of_arrivals}
use Rattle.sq_feed.specs.Orders.{Sorting, given_all, is_due, nothing_sorted, sorted, sorted_all}
use Rattle.sq_feed.specs.declared.message.Timed.{Timed}
use Rattle.sq_feed.specs.Units.{Watched, nothing_watched, unit_of, watched_all}
use Rattle.sq_feed.specs.declared.machine.Format.{Format}
use Rattle.sq_feed.specs.declared.machine.Format.TheVariants.{Beast, Avr, Csv, Log}
use Rattle.sq_feed.specs.declared.manner.Manner.{Manner}
use Rattle.sq_feed.specs.declared.message.Stranger.{Stranger}
use Rattle.sq_log.specs.declared.run.RunFault.{RunFault}
use Rattle.sq_log.specs.declared.run.RunFault.TheVariants.{Read, Write, Memory}
use Rattle.sq_commands.specs.Requests.{AskedFeed}
use Rattle.sq_text.specs.Timed.{IsDecimalText}
use Rattle.sq_commands.specs.declared.feed.FeedEnd.{FeedEnd}
use Rattle.sq_commands.specs.declared.feed.FeedOptions.{FeedOptions}
use Rattle.sq_commands.specs.declared.arguments.ArgumentFault.{ArgumentFault}
use Rattle.sq_commands.specs.declared.arguments.ArgumentFault.TheVariants as faults
use Rattle.sq_commands.specs.declared.status.Status.{Status}
use Rattle.sq_commands.specs.declared.status.Status.TheVariants.{Good, Refused}
use Rattle.sq_commands.specs.Arguments.{IsFaultUnless}
use Rattle.sq_commands.specs.Faults.{IsMisuse}
use Rattle.sq_commands.specs.Replies.{ReplyParts, broken_off, reporting}
use Rattle.sq_commands.specs.Summary.{are_all_damaged, stranger_text, summary_text}

-- ---- calls of a feed

-- a gap of more milliseconds is a jump of the receiver's clock, if no other is given: 10 minutes
abbrev pub usual_leap : ℕ
usual_leap = 600000

-- how an input is heard: its timestamps go back by at most `reorder`; with `all_formats` frames of other downlink
-- formats than 17 are given too
abbrev pub manner_of : FeedOptions → Bool → Manner
manner_of options is_live = record {
  leap = options.leap;
  late = options.reorder;
  is_live = is_live;
  ignores_clock = options.ignores_clock;
  all_formats = options.all_formats;
}

-- a feed at the start of an input that is received by this clock
abbrev pub start_of : FeedOptions → Times → Feeding
start_of options clock = nothing_fed options.format (manner_of options clock.is_live)

-- the arrivals of calls
abbrev pub arrivals_in : List Fed → List ℕ
arrivals_in calls = map (λ (c : Fed). c.arrival) calls

-- the squitters in calls
unfoldable pub squitters_in : Feeding → List Fed → List Timed
squitters_in before [] = []
squitters_in before (one ∷ more) = told_of_all one.arrival before.ear one.found ++ squitters_in one.after more

-- all squitters of a source: those in calls, and those of its last items
abbrev pub all_squitters : Feeding → List Fed → (arrival : ℕ) → List Timed
all_squitters before calls arrival = squitters_in before calls ++ told_at_end arrival (last_fed before calls)

-- the order of a feed; a `reorder` of 0 keeps squitters in the order in which they come
abbrev pub order_with : (reorder : ℕ) → Option Sorting
order_with reorder = if reorder == 0 then None else Some (nothing_sorted reorder)

-- the squitters that are given once these came; the order after them; and the squitters that it holds
abbrev pub given_by : Option Sorting → List Timed → List Timed
given_by None came = came
given_by (Some order) came = given_all order came

abbrev pub order_after : Option Sorting → List Timed → Option Sorting
order_after None came = None
order_after (Some order) came = Some (sorted_all order came)

abbrev pub waiting_in : Option Sorting → List Timed
waiting_in None = []
waiting_in (Some order) = order.held

-- The lines of squitters, in the order of their timestamps. A squitter is held until one that is `reorder` milliseconds
-- later has come.
abbrev pub lines_given : (reorder : ℕ) → List Timed → List ℕ
lines_given reorder came = lines_of (given_by (order_with reorder) came)

-- all of them at the end
abbrev pub lines_whole : (reorder : ℕ) → List Timed → List ℕ
lines_whole reorder came =
    lines_given reorder came ++ lines_of (waiting_in (order_after (order_with reorder) came))

-- the lines that are written with the calls of a feed, and those of the whole source
abbrev pub lines_in : FeedOptions → Feeding → List Fed → List ℕ
lines_in options before calls = lines_given options.reorder (squitters_in before calls)

abbrev pub all_lines : FeedOptions → Feeding → List Fed → (arrival : ℕ) → List ℕ
all_lines options before calls arrival = lines_whole options.reorder (all_squitters before calls arrival)

-- the end of a source: the counts of its items, with the last ones; what it is if it has no known format; whether rows
-- stated their times; what the timestamps of its squitters seem to be, if they are not milliseconds; how often times
-- went back; and whether the timestamps of a live source are ahead of its arrivals
abbrev pub end_by : (is_live : Bool) → Watched → Hears → FeedEnd
end_by is_live seen ear = record {
  counts = ear.counts;
  stranger = ear.stranger;
  is_dated = ear.is_dated;
  unit = unit_of (not ear.is_dated) is_live seen;
  breaks = ear.dates.breaks;
  is_ahead = is_ahead_of_arrivals ear.times;
}

abbrev pub end_of : (is_live : Bool) → ℕ → Watched → Feeding → FeedEnd
end_of is_live arrival seen old =
    end_by is_live (watched_all seen (told_at_end arrival old)) (ear_at_end arrival old)

-- the squitters in calls, as far as they are watched
abbrev pub watched_in : Feeding → List Fed → Watched
watched_in before calls = watched_all nothing_watched (squitters_in before calls)

-- the end of a source that these calls read
abbrev pub end_after : (is_live : Bool) → Feeding → List Fed → (arrival : ℕ) → FeedEnd
end_after is_live before calls arrival = end_of is_live arrival (watched_in before calls) (last_fed before calls)

-- ---- one piece

-- no squitter of an order is due
abbrev pub IsSettled : Option Sorting → Type 0
IsSettled None = ⊤
IsSettled (Some order) = is_due order.reorder order.latest order.held ≡ false

-- These squitters came, none is due any more, and this holds of the lines that are given.
abbrev pub HasPutSorted : (old new : Option Sorting) → List Timed → (List ℕ → Type 0) → Type 0
HasPutSorted old new came Of = (new ≡ order_after old came) × IsSettled new × Of (lines_of (given_by old came))

-- These squitters came, in part, and this holds of the lines that are given of all.
abbrev pub HasPutPart : Option Sorting → List Timed → (List ℕ → Type 0) → Type 0
HasPutPart old came Of = Of (lines_of (given_by old came))

-- These squitters came last, and this holds of their lines and of those that were held.
abbrev pub HasPutLast : Option Sorting → List Timed → (List ℕ → Type 0) → Type 0
HasPutLast old came Of = Of (lines_of (given_by old came) ++ lines_of (waiting_in (order_after old came)))

-- Why not all lines were put: the sink has failed, or an order had no memory for a squitter.
abbrev pub HasStopped : Option Sorting → (has_failed : Bool) → RunFault → Type 0
HasStopped order has_failed Read = ⊥
HasStopped order has_failed Write = has_failed ≡ true
HasStopped order has_failed Memory = order ≢ None

-- a prefix of this text was written, and the sink was not finished
abbrev pub WrotePart : Written → List ℕ → Type 0
WrotePart output text = WroteFront output.before output.after text × Unfinished output

-- Lines were appended to those in a buffer. The sink was given the first of all these, and the buffer has the others.
abbrev pub HasLined : {K : Type 0} → SinkGhosts K → (old new : K) → (before after lines : List ℕ) → Type 0
HasLined k old new before after lines = (text : List ℕ) × HasPut k old new text × (text ++ after ≡ before ++ lines)

-- with these bytes a feed went on, and this holds of the squitters that it gave
abbrev pub HasToldText : ℕ → Feeding → List ℕ → Feeding → (List Timed → Type 0) → Type 0
HasToldText arrival old bytes new Of = (told : List Timed) × HasTold arrival old bytes told new × Of told

-- ---- a run over an input

-- A feed took these bytes in calls, and the clock told their arrivals. This holds of the calls.
abbrev pub FedIn : FeedOptions → Times → List ℕ → (List Fed → Type 0) → Type 0
FedIn options clock bytes Of = (calls : List Fed) × AreFed (start_of options clock) calls × (bytes_in calls ≡ bytes)
    × clock.told (arrivals_in calls) × Of calls

-- A feed took these bytes in calls and then ended. The clock told the arrivals, and then that of the end. This holds of
-- the calls and of the end's arrival.
abbrev pub FedWhole : FeedOptions → Times → List ℕ → (List Fed → ℕ → Type 0) → Type 0
FedWhole options clock bytes Of = (calls : List Fed) × (arrival : ℕ) × AreFed (start_of options clock) calls
    × (bytes_in calls ≡ bytes) × clock.told (arrivals_in calls ++ arrival ∷ []) × Of calls arrival

-- the lines of these bytes were written, the output was finished, and all items were counted
abbrev pub HasFedAll : FeedOptions → Times → FeedEnd → Written → List ℕ → Type 0
HasFedAll options clock end output bytes = FedWhole options clock bytes (λ calls arrival.
    Sent output (all_lines options (start_of options clock) calls arrival)
    × (end ≡ end_after clock.is_live (start_of options clock) calls arrival))

-- the lines of the items in these bytes were written
abbrev pub HasFedSome : FeedOptions → Times → Written → List ℕ → Type 0
HasFedSome options clock output bytes =
    FedIn options clock bytes (λ calls. Wrote output (lines_in options (start_of options clock) calls))

-- a run ends at the end of its input, or, if that is live, once it is known to hold no frames
abbrev pub EndsBy : FeedOptions → Times → Taken → List Fed → ℕ → Type 0
EndsBy options clock input calls arrival = IsAtEnd input.after ⊎ ((clock.is_live ≡ true)
    × ((end_after clock.is_live (start_of options clock) calls arrival).stranger ≢ None))

-- a prefix of the lines was written: of those in some of the first bytes, or, where the run ends, of all
abbrev pub HasFedFront : FeedOptions → Times → Taken → Written → List ℕ → Type 0
HasFedFront options clock input output bytes =
    ((front : List ℕ) × IsPrefixOf front bytes × FedIn options clock front (λ calls.
    WroteFront output.before output.after (lines_in options (start_of options clock) calls)))
    ⊎ FedWhole options clock bytes (λ calls arrival. EndsBy options clock input calls arrival
    × WroteFront output.before output.after (all_lines options (start_of options clock) calls arrival))

-- the result of a run over an input with these options; without a format, its first bytes show it
abbrev pub IsFed : FeedOptions → Times → Result FeedEnd RunFault → Taken → Written → Type 0
-- All bytes up to the end of the input were read; or some of them, if the input is live and known to hold no frames.
-- Their lines were written, and the output was finished.
IsFed options clock (Ok end) input output = FinishedOnce output
    × (TookAll input (HasFedAll options clock end output)
    ⊎ ((clock.is_live ≡ true) × (end.stranger ≢ None) × TookSome input (HasFedAll options clock end output)))
-- The source failed. The lines of all items that were read whole were written, but for the squitters that wait.
IsFed options clock (Err Read) input output =
    Unfinished output × TookPart input (HasFedSome options clock output)
-- the sink failed, within the lines of the items that were read
IsFed options clock (Err Write) input output =
    (output.failed ≡ true) × Unfinished output × TookSome input (HasFedFront options clock input output)
-- There was no memory for a squitter that waits: only with a `reorder`. A prefix of the lines was written.
IsFed options clock (Err Memory) input output =
    (options.reorder ≢ 0) × Unfinished output × TookSome input (HasFedFront options clock input output)

-- ---- a law

-- The lines of a whole source are those of all its squitters, sorted: none is late.
abbrev pub WritesAllSorted : Type 0
WritesAllSorted = (options : FeedOptions) (is_live : Bool) (calls : List Fed) (arrival : ℕ)
    → let start = nothing_fed options.format (manner_of options is_live) in AreFed start calls
    → all_lines options start calls arrival ≡ lines_of (sorted (all_squitters start calls arrival))

-- ---- the command

-- A format by its name. With `auto`, or without a name, the first bytes show the format.
abbrev pub IsSourceWord : Option (List ℕ) → Option Format → Type 0
IsSourceWord None format = format ≡ None
IsSourceWord (Some word) format =
    ((word ≡ codes "auto") × (format ≡ None)) ⊎ ((word ≡ codes "beast") × (format ≡ Some Beast))
    ⊎ ((word ≡ codes "avr") × (format ≡ Some Avr)) ⊎ ((word ≡ codes "csv") × (format ≡ Some Csv))
    ⊎ ((word ≡ codes "log") × (format ≡ Some Log))

-- no format has this name
abbrev pub IsNoSource : Option (List ℕ) → Type 0
IsNoSource word = (format : Option Format) → ¬ IsSourceWord word format

-- a source without a known format is refused
abbrev pub status_at_end : Tally → Option Stranger → Status
status_at_end counts None = if are_all_damaged counts then Refused else Good
status_at_end counts (Some stranger) = Refused

-- the report at the end: the summary, or the kind of source without frames
abbrev pub text_at_end : FeedEnd → Option Stranger → List ℕ
text_at_end end None = summary_text end
text_at_end end (Some stranger) = stranger_text stranger

-- milliseconds, as 1 to 20 digits of a number below 2^64; the usual ones if none are given
abbrev pub IsMillis : (usual : ℕ) → Option (List ℕ) → ℕ → Type 0
IsMillis usual None millis = millis ≡ usual
IsMillis usual (Some word) millis = IsDecimalText word millis

-- no milliseconds are given so
abbrev pub IsNoMillis : (usual : ℕ) → Option (List ℕ) → Type 0
IsNoMillis usual word = (n : ℕ) → ¬ IsMillis usual word n

-- the words spell these options
pub record IsFeedOptions (words : AskedFeed) (options : FeedOptions) : Type 0 where
  pub format_is : IsSourceWord words.format options.format
  pub reorder_is : IsMillis 0 words.reorder options.reorder
  pub leap_is : IsMillis usual_leap words.leap options.leap
  pub arrival_is : options.ignores_clock ≡ words.arrival
  pub all_is : options.all_formats ≡ words.all

-- the first error of the arguments, in reading order
abbrev pub IsFeedFault : AskedFeed → ArgumentFault → Type 0
IsFeedFault words fault =
    IsFaultUnless ((format : Option Format) × IsSourceWord words.format format) fault faults.Format
    (IsFaultUnless ((n : ℕ) × IsMillis 0 words.reorder n) fault faults.Reorder
    ((fault ≡ faults.Leap) × IsNoMillis usual_leap words.leap))

abbrev pub IsFeedReading : AskedFeed → Result FeedOptions ArgumentFault → Type 0
IsFeedReading words reading = MatchResult reading (IsFeedOptions words) (IsFeedFault words)

-- the reply of a run, by its result: the end of the source is reported, or the reason why the run stopped early
abbrev pub feed_reply : Result FeedEnd RunFault → ReplyParts
feed_reply (Ok end) = reporting (status_at_end end.counts end.stranger) (text_at_end end end.stranger)
feed_reply (Err fault) = broken_off fault

-- a run over the input
abbrev pub IsFeedRunIn : FeedOptions → Times → ReplyParts → Taken → Written → Type 0
IsFeedRunIn options clock reply input output = (result : Result FeedEnd RunFault)
    × IsFed options clock result input output × (reply ≡ feed_reply result)

-- the input is read with the options that the words spell; if one is invalid, the first is reported, and the input is
-- unread
abbrev pub IsFeedRun : AskedFeed → Times → ReplyParts → Taken → Written → Type 0
IsFeedRun words clock reply input output =
    ((options : FeedOptions) × IsFeedOptions words options × IsFeedRunIn options clock reply input output)
    ⊎ ((fault : ArgumentFault) × IsFeedFault words fault × IsMisuse fault reply input output)
