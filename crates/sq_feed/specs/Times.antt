-- The timestamps of frames: by their own times or by their arrival.
use Rattle.std.specs.Prelude.{◌==◌, ◌+◌, ◌-◌, ◌*◌, ◌/◌, ℕ, Bool, not, ◌||◌, ◌&&◌, max, min, nat_le, nat_lt, if◌then◌else◌}
use Rattle.sq_feed.specs.declared.manner.Manner.{Manner}
use Rattle.sq_feed.specs.Clock.{Counted, back_of, count_of, counted_at, followed, most, rate, restarted, unheard}

-- The state: the receiver's clock; whether arrivals are those of a live source; whether the clock is ignored; the
-- longest gap (ms) that is no jump; by how much (ms) a timestamp may be before the latest one; the latest timestamp,
-- and the arrival of its frame.
pub record Timing : Type 0 where
  pub clock : Counted
  pub is_live : Bool
  pub ignores_clock : Bool
  pub leap : ℕ
  pub late : ℕ
  pub latest : ℕ
  pub arrival : ℕ

abbrev pub no_times : Manner → Timing
no_times manner = record {
  clock = unheard;
  is_live = manner.is_live;
  ignores_clock = manner.ignores_clock;
  leap = manner.leap;
  late = manner.late;
  latest = 0;
  arrival = 0;
}

-- the state after a connection was lost
abbrev pub other_times : Timing → Timing
other_times t = record t { clock = restarted t.clock }

-- The present timestamp. In a live source, it is as much after the latest one as the arrivals are apart.
abbrev pub due : Timing → ℕ → ℕ
due t arrival = if t.is_live then min (t.latest + (arrival - t.arrival)) most else t.latest

-- The state after a frame with this time: the latest timestamp moves up to the time, and never goes back.
abbrev pub gone_on : Timing → ℕ → ℕ → Timing
gone_on t moment arrival = if nat_le t.latest moment then record t { latest = moment; arrival = arrival } else t

-- The timestamp of a frame with this time: the time, but before the latest timestamp by at most `late`.
abbrev pub told_as : Timing → ℕ → ℕ
told_as t moment = if nat_le t.latest moment then moment else max moment (t.latest - t.late)

-- ---- a frame without a time

abbrev pub by_arrival : Timing → ℕ → Timing
by_arrival t arrival = gone_on t (due t arrival) arrival

-- ---- a frame with a clock

-- A clock of 0 counts as none: programs without a clock send 0.
abbrev pub is_clockless : Timing → ℕ → Bool
is_clockless t ticks = ticks == 0 || t.ignores_clock

-- A live source cannot be ahead of its arrivals. If its timestamps are, by more than a leap, then it is a recording, or
-- its clock does not run at 12 MHz.
abbrev pub is_ahead_of_arrivals : Timing → Bool
is_ahead_of_arrivals t = t.is_live && nat_lt (t.arrival + t.leap) t.latest

-- The timestamp behind a break in the times: more than a leap after the latest one, so that nothing is paired across
-- it.
abbrev pub beyond : Timing → ℕ
beyond t = min (t.latest + t.leap + 1) most

-- The timestamp at which a clock goes on after it has started again: by the arrival in a live source, otherwise beyond
-- a leap.
abbrev pub resumed : Timing → ℕ → ℕ
resumed t arrival = if t.is_live && not (is_ahead_of_arrivals t) then due t arrival else beyond t

-- The timestamp at which times go on after a step back.
abbrev pub anew_of : Timing → ℕ → ℕ
anew_of t arrival = if t.clock.is_heard then resumed t arrival else beyond t

-- The count at which a clock starts: in a recorded source the first value itself.
abbrev pub start_of : Timing → (shown arrival : ℕ) → ℕ
start_of t shown arrival =
    if not t.is_live && (t.latest == 0) then shown else min (resumed t arrival * rate) most

-- the clock with this value: it goes on, or starts
abbrev pub clock_at : Timing → (shown arrival : ℕ) → Counted
clock_at t shown arrival = if t.clock.is_heard then t.clock else counted_at shown (start_of t shown arrival)

-- the frame's own time (ms)
abbrev pub clock_time : Timing → (shown arrival : ℕ) → ℕ
clock_time t shown arrival = count_of (clock_at t shown arrival) shown / rate

-- the state after a frame with this value, once its time is believed
abbrev pub clocked : Timing → (shown arrival : ℕ) → Timing
clocked t shown arrival = record t { clock = followed (clock_at t shown arrival) shown }

-- ---- a frame with a time of its own

-- A time may always be late by this many milliseconds.
abbrev pub tolerance : Timing → ℕ
tolerance t = max t.late 1000

-- the time is after this one by at most a leap, or late by no more than times may be
abbrev pub is_near : Timing → (base moment : ℕ) → Bool
is_near t base moment = nat_le base (moment + tolerance t) && nat_le moment (base + t.leap)

-- The clock's value counts back beyond 0, by more than times may be late.
abbrev pub is_beyond_zero : Timing → (shown : ℕ) → Bool
is_beyond_zero t shown =
    nat_lt t.clock.elapsed (back_of t.clock.last shown) && nat_lt (tolerance t) (back_of t.clock.last shown / rate)

-- The time is at or after the latest timestamp, by as much as the arrivals of a live source are apart, within a leap.
abbrev pub is_awaited : Timing → (arrival moment : ℕ) → Bool
is_awaited t arrival moment = t.is_live && nat_le t.latest moment && nat_le moment (due t arrival + t.leap)
    && nat_le (due t arrival) (moment + t.leap)
