-- Counts of items, in order.
use Rattle.std.proofs.Common.{◌≡◌, ◌+◌, ◌-◌, ◌^◌, ◌<◌, ◌≤◌, ◌++◌, ◌%◌, ℕ, Bool, true, false, not, List, [], ◌∷◌, length, ap, sym, refl, subst, arith}
use Rattle.std.proofs.Common.{length-append}
use Rattle.std.specs.Prelude.{◌==◌, ◌&&◌, nat_lt, Option, Some, None, if◌then◌else◌}
use Rattle.std.proofs.lemmas.Bool.{ne_eqb}
use Rattle.std.proofs.lemmas.Bool.Decides.{nat_tests}
use Rattle.sq_feed.specs.declared.counts.Fate.{Fate}
use Rattle.sq_feed.specs.declared.counts.Fate.TheVariants.{Written, OtherFormat, ModeAc, Multilaterated, Damaged, Aside, ReceiverId as IdFate}
use Rattle.sq_feed.specs.declared.dates.Dates.{Dates}
use Rattle.sq_feed.specs.declared.dates.First.{First}
use Rattle.sq_feed.specs.declared.dates.First.TheVariants.{NoTime, Waits, Believed}
use Rattle.sq_feed.specs.declared.dates.Run.{Run}
use Rattle.sq_feed.specs.declared.dates.Run.TheVariants.{Empty, One, Two, Torn}
use Rattle.sq_feed.specs.declared.message.Found.{Found}
use Rattle.sq_feed.specs.declared.message.Found.TheVariants.{Whole, Damage, Foreign, ReceiverId}
use Rattle.sq_feed.specs.declared.message.Message.{Message}
use Rattle.sq_feed.specs.declared.message.RawFrame.{RawFrame}
use Rattle.sq_feed.specs.declared.message.RawFrame.TheVariants.{ModeAc as ModeAcFrame, Short, Long}
use Rattle.sq_feed.specs.declared.message.Time.{Time}
use Rattle.sq_feed.specs.declared.message.Time.TheVariants.{Unknown, Ticks, Millis}
use Rattle.sq_feed.specs.declared.message.Timed.{Timed}
use Rattle.sq_feed.specs.Counts.{Tally, counted, counted_as, counted_rows}
use Rattle.sq_feed.specs.Dates.{Judged, believes, confirmed, confirmed_by, ended, ended_at, ended_run, first_waiting}
use Rattle.sq_feed.specs.Dates.{follows, goes_on_from, is_ahead, is_beside, is_fit, joined, judged, judged_at, judged_later, longer_run, own, replaced}
use Rattle.sq_feed.specs.Dates.{run_waiting, shifted, started, timed_all, waiting, waits}
use Rattle.sq_feed.specs.Clock.{turn}
use Rattle.sq_feed.specs.Ears.{CountsAtEnd, CountsEach, Hears, clock_judged, clock_one, ear_after, ear_arrived, ear_at}
use Rattle.sq_feed.specs.Ears.{ear_by, ear_clocked, ear_judged, fate_of, format_of, is_multilaterated, judged_with, row_judged}
use Rattle.sq_feed.specs.Ears.{told_arrived, told_at, told_by, told_clocked, told_judged, told_of, told_of_all, whole_of}
use Rattle.sq_feed.specs.Ears.{with_clock, with_row}
use Rattle.sq_feed.specs.Times.{Timing, gone_on, is_beyond_zero, is_clockless}

-- ---- rows

-- each of this many frames is told, left out, or waits
abbrev pub Balances : Judged → ℕ → Type 0
Balances judged count = length judged.told + judged.aside + length (waiting judged.after) ≡ count

if_balances : (b : Bool) (x y : Judged) (count : ℕ) → Balances x count → Balances y count
    → Balances (if b then x else y) count
if_balances true x y count p q = p
if_balances false x y count p q = q

confirmed_balances : (t : Timing) (d : Dates) (arrival : ℕ) (one : Timed) (told : List Timed) (run : Run)
    → Balances (confirmed t d arrival one told run)
    (length (first_waiting d.first) + length told + length (run_waiting run))
confirmed_balances t d arrival one told run =
    if_balances (is_ahead t d one) (believes d run (first_waiting d.first ++ told) [])
    (believes (shifted t d arrival one) run told (first_waiting d.first))
    (length (first_waiting d.first) + length told + length (run_waiting run))
    (omega (arith, length-append (first_waiting d.first) told)) (omega arith)

-- frames wait as a run, and others are left out
waits_balances : (d : Dates) (run : Run) (aside : List Timed)
    → Balances (waits d run aside) (length (first_waiting d.first) + length (run_waiting run) + length aside)
waits_balances d run aside = omega (arith, length-append (first_waiting d.first) (run_waiting run))

joined_two : (b : Bool) (x y : Timed) → length (run_waiting (if b then Two x y else Torn x y)) ≡ 2
joined_two true x y = refl
joined_two false x y = refl

replaced_balances : (t : Timing) (d : Dates) (a b one : Timed)
    → Balances (replaced t d a b one) (length (first_waiting d.first) + 3)
replaced_balances t d a b one =
    let count = length (first_waiting d.first) + 3 in
    let beside = waits_balances d (Two a one) (b ∷ []) in
    let joins = waits_balances d (joined t d b one) (a ∷ []) in
    if_balances (goes_on_from t d a b one.moment) (waits d (Two a one) (b ∷ [])) (waits d (joined t d b one) (a ∷ []))
    count (omega (arith, beside)) (omega (arith, joins, joined_two (follows t d b one.moment) b one))

run_balances : (run : Run) (t : Timing) (d : Dates) (arrival : ℕ) (one : Timed)
    → Balances (longer_run run t d arrival one) (length (first_waiting d.first) + length (run_waiting run) + 1)
run_balances Empty t d arrival one =
    let is = waits_balances d (One one) [] in omega (arith, is)
run_balances (One a) t d arrival one =
    let is = waits_balances d (joined t d a one) [] in
    omega (arith, is, joined_two (follows t d a one.moment) a one)
run_balances (Two a b) t d arrival one =
    let count = length (first_waiting d.first) + 3 in
    let three = confirmed_balances t d arrival a (a ∷ b ∷ one ∷ []) Empty in
    let two = confirmed_balances t d arrival a (a ∷ b ∷ []) (One one) in
    let all = if_balances (follows t d b one.moment) (confirmed_by t d arrival a b one) (replaced t d a b one) count
    (if_balances (is_beside t d b one.moment) (confirmed t d arrival a (a ∷ b ∷ one ∷ []) Empty)
    (confirmed t d arrival a (a ∷ b ∷ []) (One one)) count (omega (arith, three)) (omega (arith, two)))
    (replaced_balances t d a b one) in
    omega (arith, all)
run_balances (Torn a b) t d arrival one =
    let all = replaced_balances t d a b one in omega (arith, all)

later_balances : (t : Timing) (d : Dates) (arrival : ℕ) (one : Timed)
    → Balances (judged_later t d arrival one) (length (first_waiting d.first) + length (run_waiting d.run) + 1)
later_balances t d arrival one =
    if_balances (is_fit t d arrival one.moment)
    (believes d Empty (first_waiting d.first ++ one ∷ []) (run_waiting d.run)) (longer_run d.run t d arrival one)
    (length (first_waiting d.first) + length (run_waiting d.run) + 1)
    (omega (arith, length-append (first_waiting d.first) (one ∷ []))) (run_balances d.run t d arrival one)

first_balances : (first : First) (t : Timing) (d : Dates) (arrival : ℕ) (one : Timed) → d.first ≡ first
    → Balances (judged_at first t d arrival one) (length (first_waiting d.first) + length (run_waiting d.run) + 1)
first_balances NoTime t d arrival one is =
    let none : length (first_waiting d.first) ≡ 0 = ap (λ f. length (first_waiting f)) is in omega (arith, none)
first_balances (Waits first) t d arrival one is = later_balances t d arrival one
first_balances Believed t d arrival one is = later_balances t d arrival one

pub judged_balances : (t : Timing) (d : Dates) (arrival : ℕ) (one : Timed)
    → Balances (judged t d arrival one) (length (waiting d) + 1)
judged_balances t d arrival one =
    let is = first_balances d.first t d arrival one refl in
    omega (arith, is, length-append (first_waiting d.first) (run_waiting d.run))

-- a frame that jumps, whatever its time
jump_balances : (t : Timing) (d : Dates) (arrival : ℕ) (one : Timed)
    → Balances (longer_run d.run t d arrival one) (length (waiting d) + 1)
jump_balances t d arrival one =
    let is = run_balances d.run t d arrival one in
    omega (arith, is, length-append (first_waiting d.first) (run_waiting d.run))

-- a frame with a clock
pub clock_balances : (t : Timing) (shown : ℕ) (d : Dates) (arrival : ℕ) (one : Timed)
    → Balances (judged_with t shown d arrival one) (length (waiting d) + 1)
clock_balances t shown d arrival one =
    if_balances (not t.clock.is_heard) (started d one)
    (if is_beyond_zero t shown then longer_run d.run t d arrival one else judged t d arrival one)
    (length (waiting d) + 1) (omega arith)
    (if_balances (is_beyond_zero t shown) (longer_run d.run t d arrival one) (judged t d arrival one)
    (length (waiting d) + 1) (jump_balances t d arrival one) (judged_balances t d arrival one))

none_waits : (b : Bool) (x y : Judged) → waiting x.after ≡ [] → waiting y.after ≡ []
    → waiting (if b then x else y).after ≡ []
none_waits true x y p q = p
none_waits false x y p q = q

end_balances : (run : Run) (t : Timing) (d : Dates)
    → Balances (ended_run run t d) (length (first_waiting d.first) + length (run_waiting run))
    × (waiting (ended_run run t d).after ≡ [])
end_balances Empty t d = (omega arith, refl)
end_balances (One a) t d = (
  if_balances (is_ahead t d a) (believes d Empty (first_waiting d.first ++ a ∷ []) [])
      (believes d Empty (first_waiting d.first) (a ∷ [])) (length (first_waiting d.first) + 1)
      (omega (arith, length-append (first_waiting d.first) (a ∷ []))) (omega arith),
  none_waits (is_ahead t d a) (believes d Empty (first_waiting d.first ++ a ∷ []) [])
      (believes d Empty (first_waiting d.first) (a ∷ [])) refl refl,
)
end_balances (Two a b) t d = (
  let is = confirmed_balances t d t.arrival a (a ∷ b ∷ []) Empty in omega (arith, is),
  none_waits (is_ahead t d a) (believes d Empty (first_waiting d.first ++ a ∷ b ∷ []) [])
      (believes (shifted t d t.arrival a) Empty (a ∷ b ∷ []) (first_waiting d.first)) refl refl,
)
end_balances (Torn a b) t d = (omega arith, refl)

-- one item was counted, and `written` frames were written
record Counts (before after : Tally) (written : ℕ) : Type 0 where
  found : after.found ≡ before.found + 1
  wrote : after.written ≡ before.written + written

as_fate : (tally : Tally) (fate : Fate) → tally.found < 2 ^ 64 - 1 → counted tally fate ≡ counted_as tally fate
as_fate tally fate few =
    ap (λ (t : Bool). if t then tally else counted_as tally fate)
    (ne_eqb tally.found (2 ^ 64 - 1) (λ e. absurd (omega (arith, e, few))))

written_counts : (tally : Tally) → tally.found < 2 ^ 64 - 1 → Counts tally (counted tally Written) 1
written_counts tally few =
    subst (λ t. Counts tally t 1) (sym (as_fate tally Written few)) (record { found = refl; wrote = refl })

-- a fate other than being written
abbrev IsOther : Fate → Type 0
IsOther Written = ⊥
IsOther (OtherFormat format) = Unit {0}
IsOther ModeAc = Unit {0}
IsOther Multilaterated = Unit {0}
IsOther IdFate = Unit {0}
IsOther Damaged = Unit {0}
IsOther Aside = Unit {0}

abbrev IsOtherFate : Option Fate → Type 0
IsOtherFate (Some fate) = IsOther fate
IsOtherFate None = Unit {0}

other_as : (tally : Tally) (fate : Fate) → IsOther fate → Counts tally (counted_as tally fate) 0
other_as tally Written other = absurd other
other_as tally (OtherFormat format) other = record { found = refl; wrote = omega arith }
other_as tally ModeAc other = record { found = refl; wrote = omega arith }
other_as tally Multilaterated other = record { found = refl; wrote = omega arith }
other_as tally IdFate other = record { found = refl; wrote = omega arith }
other_as tally Damaged other = record { found = refl; wrote = omega arith }
other_as tally Aside other = record { found = refl; wrote = omega arith }

other_counts : (tally : Tally) (fate : Fate) → IsOther fate → tally.found < 2 ^ 64 - 1
    → Counts tally (counted tally fate) 0
other_counts tally fate other few =
    subst (λ t. Counts tally t 0) (sym (as_fate tally fate few)) (other_as tally fate other)

pub timed_length : (told : List Timed) (d : Dates) (arrival : ℕ) (t : Timing)
    → length (timed_all d arrival t told) ≡ length told
timed_length [] d arrival t = refl
timed_length (one ∷ more) d arrival t =
    let more-is = timed_length more d arrival (gone_on t (own d one.moment) arrival) in omega (arith, more-is)

rows_by : (b : Bool) (tally : Tally) (written aside : ℕ)
    → nat_lt (2 ^ 64 - 1) (tally.found + written + aside) ≡ b → tally.found + written + aside ≤ 2 ^ 64 - 1
    → ((counted_rows tally written aside).found ≡ tally.found + written + aside)
    × ((counted_rows tally written aside).written ≡ tally.written + written)
rows_by true tally written aside is few =
    let much : 2 ^ 64 - 1 < tally.found + written + aside = grind (arith, nat_tests, is) in
    absurd (omega (arith, much, few))
rows_by false tally written aside is few =
    let counts : counted_rows tally written aside ≡ record tally {
      found = tally.found + written + aside;
      written = tally.written + written;
      aside = tally.aside + aside;
    } = ap (λ (b : Bool). if b then tally else record tally {
      found = tally.found + written + aside;
      written = tally.written + written;
      aside = tally.aside + aside;
    }) is in (ap (λ (t : Tally). t.found) counts, ap (λ (t : Tally). t.written) counts)

rows_count : (tally : Tally) (written aside : ℕ) → tally.found + written + aside ≤ 2 ^ 64 - 1
    → ((counted_rows tally written aside).found ≡ tally.found + written + aside)
    × ((counted_rows tally written aside).written ≡ tally.written + written)
rows_count tally written aside few =
    rows_by (nat_lt (2 ^ 64 - 1) (tally.found + written + aside)) tally written aside refl few

-- ---- items

-- one item was counted or waits, and `written` frames were written
record Heard (before after : Hears) (written : ℕ) : Type 0 where
  found : after.counts.found + length (waiting after.dates)
      ≡ before.counts.found + length (waiting before.dates) + 1
  wrote : after.counts.written ≡ before.counts.written + written

-- an item that leaves rows as they are
heard_as : (before after : Hears) (written : ℕ) → after.dates ≡ before.dates
    → Counts before.counts after.counts written → Heard before after written
heard_as before after written same counts = record {
  found =
      let few : length (waiting after.dates) ≡ length (waiting before.dates) = ap (λ d. length (waiting d)) same in
      let found = counts.found in omega (arith, few, found);
  wrote = counts.wrote;
}

-- a frame without a time
arrived_counts : (arrival : ℕ) (ear : Hears) (frame : List ℕ)
    → ear.counts.found + length (waiting ear.dates) < 2 ^ 64 - 1
    → Heard ear (ear_arrived arrival ear) (length (told_arrived arrival ear frame))
arrived_counts arrival ear frame few =
    heard_as ear (ear_arrived arrival ear) 1 refl (written_counts ear.counts (omega (arith, few)))

-- a frame with a time of its own: `with` is the state in which its decision counts
judged_counts : (arrival : ℕ) (ear with : Hears) (judged : Judged) → with.counts ≡ ear.counts
    → Balances judged (length (waiting ear.dates) + 1) → ear.counts.found + length (waiting ear.dates) < 2 ^ 64 - 1
    → Heard ear (ear_judged arrival with judged) (length (told_judged arrival with judged))
judged_counts arrival ear with judged same balance few =
    let found-is : with.counts.found ≡ ear.counts.found = ap (λ (c : Tally). c.found) same in
    let written-is : with.counts.written ≡ ear.counts.written = ap (λ (c : Tally). c.written) same in
    let (found, written) = rows_count with.counts (length judged.told) judged.aside
    (omega (arith, few, balance, found-is)) in
    let told = timed_length judged.told judged.after arrival with.times in
    record { found = omega (arith, found, balance, found-is); wrote = omega (arith, written, told, written-is) }

ticks_counts : (b : Bool) (shown arrival : ℕ) (ear : Hears) (frame : List ℕ)
    → ear.counts.found + length (waiting ear.dates) < 2 ^ 64 - 1
    → Heard ear (if b then ear_arrived arrival ear
    else ear_clocked ear shown arrival (clock_judged ear shown arrival frame))
    (length (if b then told_arrived arrival ear frame
    else told_clocked ear shown arrival (clock_judged ear shown arrival frame)))
ticks_counts true shown arrival ear frame few = arrived_counts arrival ear frame few
ticks_counts false shown arrival ear frame few =
    let judged = clock_judged ear shown arrival frame in
    judged_counts arrival ear (with_clock ear shown arrival judged) judged refl
    (clock_balances ear.times shown ear.dates arrival (clock_one ear shown arrival frame)) few

-- a frame whose time decides
time_counts : (time : Time) (arrival : ℕ) (ear : Hears) (frame : List ℕ)
    → ear.counts.found + length (waiting ear.dates) < 2 ^ 64 - 1
    → Heard ear (ear_at time arrival ear frame) (length (told_at time arrival ear frame))
time_counts Unknown arrival ear frame few = arrived_counts arrival ear frame few
time_counts (Ticks ticks) arrival ear frame few =
    ticks_counts (is_clockless ear.times ticks) (ticks % turn) arrival ear frame few
time_counts (Millis moment) arrival ear frame few =
    judged_counts arrival ear (with_row ear) (row_judged ear moment arrival frame) refl
    (judged_balances ear.times ear.dates arrival (record { moment = moment; frame = frame })) few

fate_counts : (fate : Option Fate) (arrival : ℕ) (ear : Hears) (message : Message)
    → ear.counts.found + length (waiting ear.dates) < 2 ^ 64 - 1 → IsOtherFate fate
    → Heard ear (ear_by fate arrival ear message) (length (told_by fate arrival ear message))
fate_counts (Some fate) arrival ear message few other =
    heard_as ear (ear_by (Some fate) arrival ear message) 0 refl
    (other_counts ear.counts fate other (omega (arith, few)))
fate_counts None arrival ear message few other = time_counts message.time arrival ear (whole_of message.frame) few

-- the fate of a frame by the three tests of its format
tests_other : (a b c : Bool) (format : ℕ)
    → IsOtherFate (if a then Some Damaged
    else (if b then Some Multilaterated else (if c then Some (OtherFormat format) else None)))
tests_other true b c format = tt
tests_other false true c format = tt
tests_other false false true format = tt
tests_other false false false format = tt

frame_other : (all : Bool) (time : Time) (frame : RawFrame) → IsOtherFate (fate_of all time frame)
frame_other all time (ModeAcFrame frame) = tt
frame_other all time (Short frame) =
    tests_other (not (nat_lt (format_of frame) 16)) (is_multilaterated time) (not all) (format_of frame)
frame_other all time (Long frame) =
    tests_other (nat_lt (format_of frame) 16) (is_multilaterated time) (not (format_of frame == 17) && not all)
    (format_of frame)

item_counts : (arrival : ℕ) (ear : Hears) (item : Found)
    → ear.counts.found + length (waiting ear.dates) < 2 ^ 64 - 1
    → Heard ear (ear_after arrival ear item) (length (told_of arrival ear item))
item_counts arrival ear (Whole message) few =
    fate_counts (fate_of ear.all_formats message.time message.frame) arrival ear message few
    (frame_other ear.all_formats message.time message.frame)
item_counts arrival ear Damage few =
    heard_as ear (ear_after arrival ear Damage) 0 refl (other_counts ear.counts Damaged tt (omega (arith, few)))
item_counts arrival ear ReceiverId few =
    heard_as ear (ear_after arrival ear ReceiverId) 0 refl (other_counts ear.counts IdFate tt (omega (arith, few)))
item_counts arrival ear (Foreign stranger) few =
    heard_as ear (ear_after arrival ear (Foreign stranger)) 0 refl
    (other_counts ear.counts Damaged tt (omega (arith, few)))

pub counts_each : CountsEach
counts_each arrival ear [] few = (omega arith, omega arith)
counts_each arrival ear (item ∷ items) few =
    let one = item_counts arrival ear item (omega (arith, few)) in
    let next = ear_after arrival ear item in
    let (found, written) = counts_each arrival next items (omega (arith, few, one.found)) in (
      omega (arith, found, one.found),
      omega (arith, written, one.wrote, length-append (told_of arrival ear item) (told_of_all arrival next items)),
    )

pub ended_balances : (first : First) (t : Timing) (d : Dates) → d.first ≡ first
    → Balances (ended_at first t d) (length (waiting d)) × (waiting (ended_at first t d).after ≡ [])
ended_balances NoTime t d is =
    let none : length (first_waiting d.first) ≡ 0 = ap (λ f. length (first_waiting f)) is in
    let empty : waiting (record d { run = Empty }) ≡ [] = ap (λ f. first_waiting f ++ []) is in
    (omega (arith, none, ap length empty, length-append (first_waiting d.first) (run_waiting d.run)), empty)
ended_balances (Waits one) t d is =
    let (balance, none) = end_balances d.run t d in
    (omega (arith, balance, length-append (first_waiting d.first) (run_waiting d.run)), none)
ended_balances Believed t d is =
    let (balance, none) = end_balances d.run t d in
    (omega (arith, balance, length-append (first_waiting d.first) (run_waiting d.run)), none)

pub counts_at_end : CountsAtEnd
counts_at_end ear few =
    let last = ended ear.times ear.dates in
    let (balance, none) = ended_balances ear.dates.first ear.times ear.dates refl in
    let left : length (waiting last.after) ≡ 0 = ap length none in
    let (found, written) = rows_count ear.counts (length last.told) last.aside (omega (arith, few, balance)) in
    let told = timed_length last.told last.after ear.times.arrival ear.times in
    (omega (arith, found, balance, left), omega (arith, written, told), none)
