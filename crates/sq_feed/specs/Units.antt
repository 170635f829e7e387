-- The unit of timestamps, by how far apart the squitters of an aircraft are.
use Rattle.std.specs.Prelude.{◌==◌, ◌+◌, ◌-◌, ◌*◌, ◌/◌, ◌%◌, ℕ, Bool, false, not, ◌&&◌, ◌||◌, List, [], ◌∷◌}
use Rattle.std.specs.Prelude.{map, min, nat_le, nat_lt, replicate, slice_index, slice_set, Option, Some, None, if◌then◌else◌}
use Rattle.std.specs.List.{range_with_len}
use Rattle.sq_feed.specs.declared.message.Timed.{Timed}
use Rattle.sq_feed.specs.declared.units.Unit.{Unit}
use Rattle.sq_feed.specs.declared.units.Unit.TheVariants.{Seconds, Microseconds, Nanoseconds, AllZero, Gps}

-- ---- gaps

-- Gaps between the timestamps of an aircraft: how many there are, and how many are not 0; their sums, where a gap
-- counts as 10^3 at most, as 10^6, and as 10^9; how many are from 10^4 below 10^7, and from 10^7 on.
pub record Gaps : Type 0 where
  pub pairs : ℕ
  pub apart : ℕ
  pub near : ℕ
  pub middle : ℕ
  pub far : ℕ
  pub micros : ℕ
  pub nanos : ℕ

abbrev pub no_gaps : Gaps
no_gaps = record { pairs = 0; apart = 0; near = 0; middle = 0; far = 0; micros = 0; nanos = 0 }

-- 1 where this is so
abbrev pub once : Bool → ℕ
once is = if is then 1 else 0

abbrev pub is_micro_gap : ℕ → Bool
is_micro_gap gap = nat_le 10000 gap && nat_lt gap 10000000

abbrev pub one_gap : Gaps → ℕ → Gaps
one_gap g gap = record {
  pairs = g.pairs + 1;
  apart = g.apart + once (nat_lt 0 gap);
  near = g.near + min gap 1000;
  middle = g.middle + min gap 1000000;
  far = g.far + min gap 1000000000;
  micros = g.micros + once (is_micro_gap gap);
  nanos = g.nanos + once (nat_le 10000000 gap);
}

-- ---- squitters

-- The state: how many squitters were heard; the first and the latest timestamp, and whether any is not 0; a 1 for each
-- of 32 parts of 2^30 ticks (12 MHz) that has timestamps, and the number of these parts; for each number of eight bits,
-- the aircraft that is watched, or 0, and its latest timestamp; and the gaps of these aircraft.
pub record Watched : Type 0 where
  pub heard : ℕ
  pub first : ℕ
  pub latest : ℕ
  pub is_timed : Bool
  pub parts : List ℕ
  pub filled : ℕ
  pub addresses : List ℕ
  pub moments : List ℕ
  pub gaps : Gaps

-- so many squitters are looked at
abbrev pub most_watched : ℕ
most_watched = 16384

abbrev pub nothing_watched : Watched
nothing_watched = record {
  heard = 0;
  first = 0;
  latest = 0;
  is_timed = false;
  parts = replicate 32 0;
  filled = 0;
  addresses = replicate 256 0;
  moments = replicate 256 0;
  gaps = no_gaps;
}

-- The part of 2^30 ticks at 12 MHz in which the last tick of a millisecond lies, from 0 to 31. Its first one may lie
-- before the second of GPS time that the millisecond belongs to.
abbrev pub part_of : ℕ → ℕ
part_of moment = (moment % 1073741824 * 12000 + 11999) % 1073741824 / 33554432

-- the state, with the times of one squitter more
abbrev pub timed : Watched → ℕ → Watched
timed w moment = record w {
  heard = w.heard + 1;
  first = if w.heard == 0 then moment else w.first;
  latest = moment;
  is_timed = w.is_timed || not (moment == 0);
  parts = slice_set w.parts (part_of moment) 1;
  filled = w.filled + once (slice_index w.parts (part_of moment) == 0);
}

-- A timestamp of the aircraft that is watched in this place. One that goes back makes no gap.
abbrev pub heard_again : Watched → (place moment : ℕ) → Watched
heard_again w place moment = record w {
  moments = slice_set w.moments place moment;
  gaps = if nat_le (slice_index w.moments place) moment then one_gap w.gaps (moment - slice_index w.moments place)
      else w.gaps;
}

-- the first timestamp of an aircraft that is watched in this place from now on
abbrev pub heard_first : Watched → (place moment address : ℕ) → Watched
heard_first w place moment address = record w {
  addresses = slice_set w.addresses place address;
  moments = slice_set w.moments place moment;
}

-- Of the aircraft with the same last eight bits, the first one is watched.
abbrev pub placed : Watched → (place moment address : ℕ) → Watched
placed w place moment address =
    if slice_index w.addresses place == address then heard_again w place moment
    else (if slice_index w.addresses place == 0 then heard_first w place moment address else w)

-- the state after a squitter
abbrev pub watched : Watched → (moment address : ℕ) → Watched
watched w moment address =
    if nat_lt w.heard most_watched then placed (timed w moment) (address % 256) moment address else w

-- the address in a frame of format 17: its bytes 1 to 3
abbrev pub address_in : List ℕ → ℕ
address_in frame = slice_index frame 1 * 65536 + slice_index frame 2 * 256 + slice_index frame 3

-- The state after a frame with its timestamp. Only extended squitters count.
abbrev pub watched_one : Watched → Timed → Watched
watched_one w one =
    if slice_index one.frame 0 / 8 == 17 then watched w one.moment (address_in one.frame) else w

-- the state after frames
unfoldable pub watched_all : Watched → List Timed → Watched
watched_all w [] = w
watched_all w (one ∷ more) = watched_all (watched_one w one) more

-- ---- the unit

-- so many gaps show a unit
abbrev pub few_gaps : ℕ
few_gaps = 16

-- All timestamps are from 10^k, and below 4 * 10^k: seconds (k = 9), milliseconds (12) and microseconds (15) since 1970
-- are so from 2001 to 2096.
abbrev pub is_since : (power : ℕ) → Watched → Bool
is_since power w = nat_le power w.first && nat_lt w.first (4 * power)
    && nat_le power w.latest && nat_lt w.latest (4 * power)

-- No aircraft sends more than 6.2 squitters a second on average, so that a mean gap is above 160 ms. It is far below 50
-- if timestamps are seconds, also where several receivers hear each squitter.
abbrev pub is_in_seconds : Watched → Bool
is_in_seconds w = nat_lt w.gaps.near (50 * w.gaps.pairs)
    || (is_since 1000000000 w && nat_lt w.gaps.near (100 * w.gaps.pairs))

-- Most gaps are from 0.01 to 10 seconds, and the mean is 0.1 seconds at least, if timestamps are microseconds.
abbrev pub is_in_micros : Watched → Bool
is_in_micros w =
    nat_le (100000 * w.gaps.apart) w.gaps.middle && nat_lt w.gaps.apart (2 * w.gaps.micros)

-- Most gaps are at least 0.01 seconds, and the mean is 0.1 seconds at least, if timestamps are nanoseconds. In
-- milliseconds this mean is longer than a day.
abbrev pub is_in_nanos : Watched → Bool
is_in_nanos w =
    nat_le (100000000 * w.gaps.apart) w.gaps.far && nat_lt w.gaps.apart (2 * w.gaps.nanos)

-- A clock of milliseconds would have run for 317 years.
abbrev pub is_beyond : Watched → Bool
is_beyond w = nat_le 10000000000000 w.latest

-- such timestamps are nanoseconds, else microseconds
abbrev pub beyond_in_nanos : Watched → Bool
beyond_in_nanos w = nat_le 100000000000000000 w.latest || (not (is_since 1000000000000000 w) && is_in_nanos w)

-- the unit of timestamps that a source states itself, if it is not milliseconds
abbrev pub unit_by_gaps : Watched → Option Unit
unit_by_gaps w =
    if is_since 1000000000000 w then None
    else (if is_beyond w then Some (if beyond_in_nanos w then Nanoseconds else Microseconds)
    else (if is_in_seconds w then Some Seconds
    else (if is_in_micros w then Some Microseconds
    else (if is_in_nanos w then Some Nanoseconds else None))))

-- GPS time has seconds above 30 bits of nanoseconds: the last two of the 32 parts of 2^30 have no timestamp. In a live
-- source the parts begin anywhere, so that one of them has none; 640 squitters over ten times 2^30 ticks show it.
abbrev pub leaves_out : (is_live : Bool) → Watched → Bool
leaves_out is_live w =
    if is_live then nat_le 640 w.heard && nat_le 894785 (w.latest - w.first) && nat_lt w.filled 32
    else (slice_index w.parts 30 == 0) && (slice_index w.parts 31 == 0)

-- The mean gap, read at 12 MHz, is 8 seconds at least, which are 0.09 seconds of GPS time. A quarter of the gaps are
-- from 10 seconds on, so that it is no pause between two flights.
abbrev pub is_gps : (is_live : Bool) → Watched → Bool
is_gps is_live w = nat_le (8000 * w.gaps.pairs) w.gaps.middle && nat_le w.gaps.pairs (4 * w.gaps.micros)
    && leaves_out is_live w

-- the unit of the timestamps, if it is not milliseconds, or that all of several are 0; those of a receiver's clock can
-- only be GPS time
abbrev pub unit_of : (is_clocked is_live : Bool) → Watched → Option Unit
unit_of is_clocked is_live w =
    if nat_le 2 w.heard && not w.is_timed then Some AllZero
    else (if nat_lt w.gaps.pairs few_gaps then None
    else (if not is_clocked then unit_by_gaps w
    else (if is_gps is_live w then Some Gps else None)))

-- ---- instances

-- this many squitters of one aircraft, each so much later than the one before it
abbrev pub regular : (count start step : ℕ) → List Timed
regular count start step =
    map (λ n. record { moment = start + step * n; frame = 0x8D ∷ 0x40 ∷ 0x62 ∷ 0x1D ∷ replicate 10 0 })
    (range_with_len 0 count)

-- the unit of these squitters in a recording
abbrev pub told_unit : (is_clocked : Bool) → List Timed → Option Unit
told_unit is_clocked squitters = unit_of is_clocked false (watched_all nothing_watched squitters)
