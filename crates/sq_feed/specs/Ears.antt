-- What becomes of each item: a squitter with its timestamp, or a count.
use Rattle.std.specs.Prelude.{⊤, max, ◌≡◌, ◌≤◌, ◌+◌, ◌*◌, ◌%◌, ◌-◌, ◌^◌, ◌==◌, ◌++◌, ◌/◌, ℕ, Bool, true, false, not, ◌&&◌, ◌||◌, List, [], ◌∷◌, length, map, nat_lt, replicate, slice_index, Option, Some, None, if◌then◌else◌}
use Rattle.sq_feed.specs.declared.counts.Fate.{Fate}
use Rattle.sq_feed.specs.declared.counts.Fate.TheVariants.{Written, OtherFormat, Multilaterated, Damaged}
use Rattle.sq_feed.specs.declared.counts.Fate.TheVariants.{ModeAc as FateModeAc, ReceiverId as IdFate}
use Rattle.sq_feed.specs.declared.message.Found.{Found}
use Rattle.sq_feed.specs.declared.message.Found.TheVariants.{Whole, Damage, ReceiverId, Foreign}
use Rattle.sq_feed.specs.declared.message.Stranger.{Stranger}
use Rattle.sq_feed.specs.declared.message.RawFrame.{RawFrame}
use Rattle.sq_feed.specs.declared.message.RawFrame.TheVariants.{ModeAc, Short, Long}
use Rattle.sq_feed.specs.declared.message.Time.{Time}
use Rattle.sq_feed.specs.declared.message.Timed.{Timed}
use Rattle.sq_feed.specs.declared.message.Time.TheVariants.{Unknown, Ticks, Millis}
use Rattle.sq_feed.specs.Counts.{Tally, counted, counted_rows, nothing_counted}
use Rattle.sq_feed.specs.declared.manner.Manner.{Manner}
use Rattle.sq_feed.specs.Clock.{rate, turn}
use Rattle.sq_feed.specs.Dates.{Judged, ended, gone_all, is_calm, is_timed, judged, longer_run, new_dates, started, timed_all, waiting}
use Rattle.sq_feed.specs.declared.dates.Dates.{Dates}
use Rattle.sq_feed.specs.declared.message.Message.{Message}
use Rattle.sq_feed.specs.Times.{Timing, by_arrival, clock_time, clocked, due, is_beyond_zero, is_clockless, no_times, other_times, told_as}

-- the state: the times, the own times of frames, whether the first of these was that of a row, whether frames of all
-- downlink formats are given, the counts, and what the last source without frames was, if there was one
pub record Hears : Type 0 where
  pub times : Timing
  pub dates : Dates
  pub is_dated : Bool
  pub all_formats : Bool
  pub counts : Tally
  pub stranger : Option Stranger

abbrev pub untouched : Manner → Hears
untouched manner = record {
  times = no_times manner;
  dates = new_dates;
  is_dated = false;
  all_formats = manner.all_formats;
  counts = nothing_counted;
  stranger = None;
}

-- the downlink format: the first five bits
abbrev pub format_of : List ℕ → ℕ
format_of frame = slice_index frame 0 / 8

-- the clock of a frame that a server computed by multilateration: FF 00 and "MLAT"
abbrev pub multilaterated : ℕ
multilaterated = 0xFF00_4D4C_4154

abbrev pub is_multilaterated : Time → Bool
is_multilaterated (Ticks ticks) = ticks == multilaterated
is_multilaterated Unknown = false
is_multilaterated (Millis moment) = false

-- Formats from 16 up have long frames: a short one is damaged.
abbrev pub fate_of_short : Bool → Time → List ℕ → Option Fate
fate_of_short all_formats time frame =
    if not (nat_lt (format_of frame) 16) then Some Damaged
    else (if is_multilaterated time then Some Multilaterated
    else (if not all_formats then Some (OtherFormat (format_of frame)) else None))

-- Formats below 16 have short frames: a long one is damaged. Extended squitters have format 17.
abbrev pub fate_of_long : Bool → Time → List ℕ → Option Fate
fate_of_long all_formats time frame =
    if nat_lt (format_of frame) 16 then Some Damaged
    else (if is_multilaterated time then Some Multilaterated
    else (if not (format_of frame == 17) && not all_formats then Some (OtherFormat (format_of frame)) else None))

-- The fate of a frame, or none if its time decides: for a squitter, or with all formats for any frame of Mode S.
abbrev pub fate_of : Bool → Time → RawFrame → Option Fate
fate_of all_formats time (ModeAc frame) = Some FateModeAc
fate_of all_formats time (Short frame) = fate_of_short all_formats time frame
fate_of all_formats time (Long frame) = fate_of_long all_formats time frame

-- a frame, followed by zeros up to 14 bytes
abbrev pub padded : List ℕ → List ℕ
padded frame = frame ++ replicate (14 - length frame) 0

abbrev pub whole_of : RawFrame → List ℕ
whole_of (ModeAc frame) = padded frame
whole_of (Short frame) = padded frame
whole_of (Long frame) = frame

-- the frame of an item, or zeros
abbrev pub frame_in : Found → List ℕ
frame_in (Whole message) = whole_of message.frame
frame_in Damage = replicate 14 0
frame_in ReceiverId = replicate 14 0
frame_in (Foreign stranger) = replicate 14 0

-- The state after a decision, and the frames with timestamps. The others wait, or are set aside.
abbrev pub ear_judged : ℕ → Hears → Judged → Hears
ear_judged arrival ear judged = record ear {
  times = gone_all judged.after arrival ear.times judged.told;
  dates = judged.after;
  counts = counted_rows ear.counts (length judged.told) judged.aside;
}

abbrev pub told_judged : ℕ → Hears → Judged → List Timed
told_judged arrival ear judged = timed_all judged.after arrival ear.times judged.told

-- ---- a row with its own time

abbrev pub row_judged : Hears → (moment arrival : ℕ) → List ℕ → Judged
row_judged ear moment arrival frame =
    judged ear.times ear.dates arrival (record { moment = moment; frame = frame })

abbrev pub with_row : Hears → Hears
with_row ear = record ear { is_dated = not (is_timed ear.dates) || ear.is_dated }

-- ---- a frame with a clock

abbrev pub clock_one : Hears → (shown arrival : ℕ) → List ℕ → Timed
clock_one ear shown arrival frame = record { moment = clock_time ear.times shown arrival; frame = frame }

-- The first value starts the clock. A value that counts back far beyond 0 jumps.
abbrev pub judged_with : Timing → (shown : ℕ) → Dates → (arrival : ℕ) → Timed → Judged
judged_with t shown d arrival one =
    if not t.clock.is_heard then started d one
    else if is_beyond_zero t shown then longer_run d.run t d arrival one
    else judged t d arrival one

abbrev pub clock_judged : Hears → (shown arrival : ℕ) → List ℕ → Judged
clock_judged ear shown arrival frame =
    judged_with ear.times shown ear.dates arrival (clock_one ear shown arrival frame)

-- The clock counts on from this value if its time is believed: then no frame waits.
abbrev pub with_clock : Hears → (shown arrival : ℕ) → Judged → Hears
with_clock ear shown arrival judged =
    record ear { times = if is_calm judged.after then clocked ear.times shown arrival else ear.times }

-- the state after a frame, and the frames with timestamps
abbrev pub ear_clocked : Hears → (shown arrival : ℕ) → Judged → Hears
ear_clocked ear shown arrival judged = ear_judged arrival (with_clock ear shown arrival judged) judged

abbrev pub told_clocked : Hears → (shown arrival : ℕ) → Judged → List Timed
told_clocked ear shown arrival judged = told_judged arrival (with_clock ear shown arrival judged) judged

-- ---- a frame without a time

abbrev pub ear_arrived : ℕ → Hears → Hears
ear_arrived arrival ear =
    record ear { times = by_arrival ear.times arrival; counts = counted ear.counts Written }

abbrev pub told_arrived : ℕ → Hears → List ℕ → List Timed
told_arrived arrival ear frame = record { moment = told_as ear.times (due ear.times arrival); frame = frame } ∷ []

-- ---- any frame

-- the state after a frame, by its time
abbrev pub ear_at : Time → ℕ → Hears → List ℕ → Hears
ear_at Unknown arrival ear frame = ear_arrived arrival ear
ear_at (Ticks ticks) arrival ear frame =
    if is_clockless ear.times ticks then ear_arrived arrival ear
    else ear_clocked ear (ticks % turn) arrival (clock_judged ear (ticks % turn) arrival frame)
ear_at (Millis moment) arrival ear frame =
    ear_judged arrival (with_row ear) (row_judged ear moment arrival frame)

-- the frames that get their timestamps with it
abbrev pub told_at : Time → ℕ → Hears → List ℕ → List Timed
told_at Unknown arrival ear frame = told_arrived arrival ear frame
told_at (Ticks ticks) arrival ear frame =
    if is_clockless ear.times ticks then told_arrived arrival ear frame
    else told_clocked ear (ticks % turn) arrival (clock_judged ear (ticks % turn) arrival frame)
told_at (Millis moment) arrival ear frame =
    told_judged arrival (with_row ear) (row_judged ear moment arrival frame)

abbrev pub ear_by : Option Fate → ℕ → Hears → Message → Hears
ear_by (Some fate) arrival ear message = record ear { counts = counted ear.counts fate }
ear_by None arrival ear message = ear_at message.time arrival ear (whole_of message.frame)

abbrev pub told_by : Option Fate → ℕ → Hears → Message → List Timed
told_by (Some fate) arrival ear message = []
told_by None arrival ear message = told_at message.time arrival ear (whole_of message.frame)

-- the state after an item with this arrival (ms)
abbrev pub ear_after : ℕ → Hears → Found → Hears
ear_after arrival ear (Whole message) =
    ear_by (fate_of ear.all_formats message.time message.frame) arrival ear message
ear_after arrival ear Damage = record ear { counts = counted ear.counts Damaged }
ear_after arrival ear ReceiverId = record ear { counts = counted ear.counts IdFate }
ear_after arrival ear (Foreign stranger) =
    record ear { counts = counted ear.counts Damaged; stranger = Some stranger }

-- the frames that get their timestamps with an item: its own, or rows that waited for it
abbrev pub told_of : ℕ → Hears → Found → List Timed
told_of arrival ear (Whole message) =
    told_by (fate_of ear.all_formats message.time message.frame) arrival ear message
told_of arrival ear Damage = []
told_of arrival ear ReceiverId = []
told_of arrival ear (Foreign stranger) = []

-- ---- the end of a source

-- No frame comes that confirms a time: those that wait get timestamps, or are set aside.
abbrev pub ear_ended : Hears → Hears
ear_ended ear = ear_judged ear.times.arrival ear (ended ear.times ear.dates)

abbrev pub told_ended : Hears → List Timed
told_ended ear = told_judged ear.times.arrival ear (ended ear.times ear.dates)

-- the state after a connection was lost
abbrev pub lost : Hears → Hears
lost ear = record (ear_ended ear) { times = other_times (ear_ended ear).times }

-- ---- several items with one arrival

abbrev pub ear_after_all : ℕ → Hears → List Found → Hears
ear_after_all arrival ear [] = ear
ear_after_all arrival ear (one ∷ more) = ear_after_all arrival (ear_after arrival ear one) more

abbrev pub told_of_all : ℕ → Hears → List Found → List Timed
told_of_all arrival ear [] = []
told_of_all arrival ear (one ∷ more) = told_of arrival ear one ++ told_of_all arrival (ear_after arrival ear one) more

-- ---- words of examples

-- an extended squitter with this time (ms), as a row, and by a receiver's clock
abbrev pub row_at : ℕ → Found
row_at moment = Whole (record { time = Millis moment; frame = Long (136 ∷ []) })

abbrev pub clock_item : ℕ → Found
clock_item moment = Whole (record { time = Ticks (moment * rate % turn); frame = Long (136 ∷ []) })

-- a source before its first frame, with a leap of ten minutes
abbrev pub new_source : (is_live : Bool) → Hears
new_source is_live = untouched (record {
  leap = 600000;
  late = 0;
  is_live = is_live;
  ignores_clock = false;
  all_formats = false;
})

-- the timestamps of items that arrive at 10^8, and of those that waited at the end
abbrev pub times_of : Hears → List Found → List ℕ
times_of ear items =
    map (λ (t : Timed). t.moment) (told_of_all 100000000 ear items ++ told_ended (ear_after_all 100000000 ear items))

-- the timestamps in a recording of rows with these times, and of frames with these times of a clock
abbrev pub row_times : List ℕ → List ℕ
row_times moments = times_of (new_source false) (map row_at moments)

abbrev pub clock_times : List ℕ → List ℕ
clock_times moments = times_of (new_source false) (map clock_item moments)

-- those of a live source with a clock
abbrev pub live_times : List ℕ → List ℕ
live_times moments = times_of (new_source true) (map clock_item moments)

-- ---- words of the laws

-- Frames in order: each timestamp is before the latest one by at most `late`.
abbrev pub AreNear : (late latest : ℕ) → List Timed → Type 0
AreNear late latest [] = ⊤
AreNear late latest (one ∷ more) = (latest ≤ one.moment + late) × AreNear late (max latest one.moment) more

-- the latest timestamp after these frames
abbrev pub latest_told : ℕ → List Timed → ℕ
latest_told latest [] = latest
latest_told latest (one ∷ more) = latest_told (max latest one.moment) more

-- ---- laws

-- Each timestamp is before the latest one by at most `late`: with 0, timestamps never go back. The state keeps the
-- latest timestamp, so this holds from one call to the next.
abbrev pub StaysNear : Type 0
StaysNear = (arrival : ℕ) (ear : Hears) (items : List Found)
    → AreNear ear.times.late ear.times.latest (told_of_all arrival ear items)
    × ((ear_after_all arrival ear items).times.late ≡ ear.times.late)
    × ((ear_after_all arrival ear items).times.latest
    ≡ latest_told ear.times.latest (told_of_all arrival ear items))

abbrev pub StaysNearAtEnd : Type 0
StaysNearAtEnd = (ear : Hears) → AreNear ear.times.late ear.times.latest (told_ended ear)
    × ((ear_ended ear).times.late ≡ ear.times.late)
    × ((ear_ended ear).times.latest ≡ latest_told ear.times.latest (told_ended ear))

-- Each item is counted once, and each frame with a timestamp is counted as written, up to 2^64 - 1 items. A
-- waiting frame is counted once its time is believed or set aside.
abbrev pub CountsEach : Type 0
CountsEach = (arrival : ℕ) (ear : Hears) (items : List Found)
    → ear.counts.found + length (waiting ear.dates) + length items ≤ 2 ^ 64 - 1
    → ((ear_after_all arrival ear items).counts.found + length (waiting (ear_after_all arrival ear items).dates)
    ≡ ear.counts.found + length (waiting ear.dates) + length items)
    × ((ear_after_all arrival ear items).counts.written ≡ ear.counts.written + length (told_of_all arrival ear items))

-- At its end, a source has no frame that waits: each is counted as written or set aside.
abbrev pub CountsAtEnd : Type 0
CountsAtEnd = (ear : Hears) → ear.counts.found + length (waiting ear.dates) ≤ 2 ^ 64 - 1
    → ((ear_ended ear).counts.found ≡ ear.counts.found + length (waiting ear.dates))
    × ((ear_ended ear).counts.written ≡ ear.counts.written + length (told_ended ear))
    × (waiting (ear_ended ear).dates ≡ [])
