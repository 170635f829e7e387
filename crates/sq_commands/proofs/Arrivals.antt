-- Arrivals do not matter where the input is not live.
use Rattle.std.proofs.Common.{◌≡◌, ◌%◌, ◌∙◌, ◌++◌, ℕ, Bool, true, false, List, [], ◌∷◌, Option, None, Some, ap, ap₂, length, not, refl, subst, sym}
use Rattle.std.specs.Prelude.{◌||◌, nat_le, if◌then◌else◌}
use Rattle.sq_feed.specs.Counts.{counted, counted_rows}
use Rattle.sq_feed.specs.Clock.{turn}
use Rattle.sq_feed.specs.Dates.{Judged, ended, gone_all, is_calm, is_timed, judged, longer_run, own, started, timed_all}
use Rattle.sq_feed.specs.declared.dates.Dates.{Dates}
use Rattle.sq_feed.specs.declared.dates.First.{First}
use Rattle.sq_feed.specs.declared.dates.First.TheVariants.{NoTime, Waits, Believed}
use Rattle.sq_feed.specs.declared.dates.Run.{Run}
use Rattle.sq_feed.specs.declared.dates.Run.TheVariants.{Empty, One, Two, Torn}
use Rattle.sq_feed.specs.declared.message.Message.{Message}
use Rattle.sq_feed.specs.declared.message.Timed.{Timed}
use Rattle.sq_feed.specs.Ears.{Hears, clock_judged, clock_one, ear_after, ear_after_all, ear_arrived, ear_at, ear_by, ear_clocked}
use Rattle.sq_feed.specs.Ears.{ear_ended, ear_judged, fate_of, row_judged, told_arrived, told_at, told_by}
use Rattle.sq_feed.specs.Ears.{told_clocked, told_ended, told_judged, told_of, told_of_all, whole_of, with_clock}
use Rattle.sq_feed.specs.Ears.{with_row}
use Rattle.sq_feed.specs.Times.{Timing, by_arrival, clocked, due, gone_on, is_ahead_of_arrivals, is_beyond_zero}
use Rattle.sq_feed.specs.Times.{is_clockless, told_as}
use Rattle.sq_feed.specs.declared.counts.Fate.{Fate}
use Rattle.sq_feed.specs.declared.counts.Fate.TheVariants.{Written}
use Rattle.sq_feed.specs.declared.message.Found.{Found}
use Rattle.sq_feed.specs.declared.message.Found.TheVariants.{Whole, Damage, Foreign, ReceiverId}
use Rattle.sq_feed.specs.declared.message.Time.{Time}
use Rattle.sq_feed.specs.declared.message.Time.TheVariants.{Unknown, Ticks, Millis}

-- the times without the arrivals that they keep
abbrev pub still : Timing → Timing
still t = record t { arrival = 0 }

abbrev pub frozen : Timing → Timing
frozen t = record t { is_live = false }

still_if : (b : Bool) (x x' y y' : Timing) → still x ≡ still x' → still y ≡ still y'
    → still (if b then x else y) ≡ still (if b then x' else y')
still_if true x x' y y' p q = p
still_if false x x' y y' p q = q

live_if : (b : Bool) (x y : Timing) (live : Bool) → x.is_live ≡ live → y.is_live ≡ live
    → (if b then x else y).is_live ≡ live
live_if true x y live p q = p
live_if false x y live p q = q

-- ---- one frame

gone_still : (t : Timing) (moment arrival : ℕ) → still (gone_on t moment arrival) ≡ still (gone_on (still t) moment 0)
gone_still t moment arrival =
    still_if (nat_le t.latest moment) (record t { latest = moment; arrival = arrival })
    (record (still t) { latest = moment; arrival = 0 }) t (still t) refl refl

clocked_frozen : (t : Timing) (shown arrival : ℕ)
    → still (clocked (frozen t) shown arrival) ≡ still (clocked (still (frozen t)) shown 0)
clocked_frozen t shown arrival = refl

live_gone : (t : Timing) (moment arrival : ℕ) → (gone_on t moment arrival).is_live ≡ t.is_live
live_gone t moment arrival =
    live_if (nat_le t.latest moment) (record t { latest = moment; arrival = arrival }) t t.is_live refl refl

live_clocked : (b : Bool) (t : Timing) (shown arrival : ℕ)
    → (if b then clocked t shown arrival else t).is_live ≡ t.is_live
live_clocked b t shown arrival = live_if b (clocked t shown arrival) t t.is_live refl refl

is_frozen : (t : Timing) → t.is_live ≡ false → frozen t ≡ t
is_frozen t is = λ i. record t { is_live = sym is i }

clocked_still : (b : Bool) (t : Timing) (shown arrival : ℕ) → t.is_live ≡ false
    → still (if b then clocked t shown arrival else t) ≡ still (if b then clocked (still t) shown 0 else still t)
clocked_still b t shown arrival is =
    still_if b (clocked t shown arrival) (clocked (still t) shown 0) t (still t)
    (subst (λ (u : Timing). still (clocked u shown arrival) ≡ still (clocked (still u) shown 0)) (is_frozen t is)
    (clocked_frozen t shown arrival)) refl

arrival_frozen : (t : Timing) (arrival : ℕ)
    → still (by_arrival (frozen t) arrival) ≡ still (by_arrival (still (frozen t)) 0)
arrival_frozen t arrival = gone_still (frozen t) t.latest arrival

arrival_still : (t : Timing) (arrival : ℕ) → t.is_live ≡ false
    → still (by_arrival t arrival) ≡ still (by_arrival (still t) 0)
arrival_still t arrival is =
    subst (λ (u : Timing). still (by_arrival u arrival) ≡ still (by_arrival (still u) 0)) (is_frozen t is)
    (arrival_frozen t arrival)

due_still : (t : Timing) (arrival : ℕ) → t.is_live ≡ false → due t arrival ≡ due (still t) 0
due_still t arrival is =
    subst (λ (u : Timing). due u arrival ≡ due (still u) 0) (is_frozen t is) refl

-- ---- rows

rows_still : (told : List Timed) (d : Dates) (a b : ℕ) (t u : Timing) → still t ≡ still u
    → timed_all d a t told ≡ timed_all d b u told
rows_still [] d a b t u same = refl
rows_still (one ∷ more) d a b t u same =
    let moment = own d one.moment in
    ap₂ (λ (m : ℕ) (l : List Timed). record { moment = m; frame = one.frame } ∷ l)
    (ap (λ (s : Timing). told_as s moment) same)
    (rows_still more d a b (gone_on t moment a) (gone_on u moment b)
    (gone_still t moment a ∙ ap (λ (s : Timing). still (gone_on s moment 0)) same ∙ sym (gone_still u moment b)))

all_still : (told : List Timed) (d : Dates) (a b : ℕ) (t u : Timing) → still t ≡ still u
    → still (gone_all d a t told) ≡ still (gone_all d b u told)
all_still [] d a b t u same = same
all_still (one ∷ more) d a b t u same =
    let moment = own d one.moment in
    all_still more d a b (gone_on t moment a) (gone_on u moment b)
    (gone_still t moment a ∙ ap (λ (s : Timing). still (gone_on s moment 0)) same ∙ sym (gone_still u moment b))

live_all : (told : List Timed) (d : Dates) (arrival : ℕ) (t : Timing)
    → (gone_all d arrival t told).is_live ≡ t.is_live
live_all [] d arrival t = refl
live_all (one ∷ more) d arrival t =
    live_all more d arrival (gone_on t (own d one.moment) arrival) ∙ live_gone t (own d one.moment) arrival

abbrev dates_of : First → Run → (ahead breaks : ℕ) → Dates
dates_of first run ahead breaks = record { first = first; run = run; ahead = ahead; breaks = breaks }

judged_by : (first : First) (run : Run) (ahead breaks : ℕ) (t : Timing) (arrival : ℕ) (one : Timed)
    → judged (frozen t) (dates_of first run ahead breaks) arrival one
    ≡ judged (still (frozen t)) (dates_of first run ahead breaks) 0 one
judged_by NoTime run ahead breaks t arrival one = refl
judged_by (Waits first) Empty ahead breaks t arrival one = refl
judged_by (Waits first) (One a) ahead breaks t arrival one = refl
judged_by (Waits first) (Two a b) ahead breaks t arrival one = refl
judged_by (Waits first) (Torn a b) ahead breaks t arrival one = refl
judged_by Believed Empty ahead breaks t arrival one = refl
judged_by Believed (One a) ahead breaks t arrival one = refl
judged_by Believed (Two a b) ahead breaks t arrival one = refl
judged_by Believed (Torn a b) ahead breaks t arrival one = refl

judged_still : (t : Timing) (d : Dates) (arrival : ℕ) (one : Timed) → t.is_live ≡ false
    → judged t d arrival one ≡ judged (still t) d 0 one
judged_still t d arrival one is =
    subst (λ (u : Timing). judged u d arrival one ≡ judged (still u) d 0 one) (is_frozen t is)
    (judged_by d.first d.run d.ahead d.breaks t arrival one)

ended_by : (first : First) (run : Run) (ahead breaks : ℕ) (t : Timing)
    → ended (frozen t) (dates_of first run ahead breaks) ≡ ended (still (frozen t)) (dates_of first run ahead breaks)
ended_by NoTime run ahead breaks t = refl
ended_by (Waits first) Empty ahead breaks t = refl
ended_by (Waits first) (One a) ahead breaks t = refl
ended_by (Waits first) (Two a b) ahead breaks t = refl
ended_by (Waits first) (Torn a b) ahead breaks t = refl
ended_by Believed Empty ahead breaks t = refl
ended_by Believed (One a) ahead breaks t = refl
ended_by Believed (Two a b) ahead breaks t = refl
ended_by Believed (Torn a b) ahead breaks t = refl

ended_still : (t : Timing) (d : Dates) → t.is_live ≡ false → ended t d ≡ ended (still t) d
ended_still t d is =
    subst (λ (u : Timing). ended u d ≡ ended (still u) d) (is_frozen t is)
    (ended_by d.first d.run d.ahead d.breaks t)

-- ---- a frame with a clock

-- a frame that jumps, whatever its time
longer_by : (first : First) (run : Run) (ahead breaks : ℕ) (t : Timing) (arrival : ℕ) (one : Timed)
    → longer_run run (frozen t) (dates_of first run ahead breaks) arrival one
    ≡ longer_run run (still (frozen t)) (dates_of first run ahead breaks) 0 one
longer_by NoTime Empty ahead breaks t arrival one = refl
longer_by NoTime (One a) ahead breaks t arrival one = refl
longer_by NoTime (Two a b) ahead breaks t arrival one = refl
longer_by NoTime (Torn a b) ahead breaks t arrival one = refl
longer_by (Waits first) Empty ahead breaks t arrival one = refl
longer_by (Waits first) (One a) ahead breaks t arrival one = refl
longer_by (Waits first) (Two a b) ahead breaks t arrival one = refl
longer_by (Waits first) (Torn a b) ahead breaks t arrival one = refl
longer_by Believed Empty ahead breaks t arrival one = refl
longer_by Believed (One a) ahead breaks t arrival one = refl
longer_by Believed (Two a b) ahead breaks t arrival one = refl
longer_by Believed (Torn a b) ahead breaks t arrival one = refl

clock_judged_by : (starts below : Bool) (t : Timing) (d : Dates) (shown arrival : ℕ) (one : Timed)
    → (if starts then started d one
    else if below then longer_run d.run (frozen t) d arrival one else judged (frozen t) d arrival one)
    ≡ (if starts then started d one
    else if below then longer_run d.run (still (frozen t)) d 0 one else judged (still (frozen t)) d 0 one)
clock_judged_by true below t d shown arrival one = refl
clock_judged_by false true t d shown arrival one = longer_by d.first d.run d.ahead d.breaks t arrival one
clock_judged_by false false t d shown arrival one = judged_still (frozen t) d arrival one refl

-- ---- one item

-- the state without the arrivals that it keeps
abbrev pub quiet : Hears → Hears
quiet ear = record ear { times = still ear.times }

clock_judged_quiet : (ear : Hears) (shown arrival : ℕ) (frame : List ℕ) → ear.times.is_live ≡ false
    → clock_judged ear shown arrival frame ≡ clock_judged (quiet ear) shown 0 frame
clock_judged_quiet ear shown arrival frame is =
    subst (λ (u : Timing). clock_judged (record ear { times = u }) shown arrival frame
    ≡ clock_judged (quiet (record ear { times = u })) shown 0 frame) (is_frozen ear.times is)
    (clock_judged_by (not ear.times.clock.is_heard) (is_beyond_zero ear.times shown) ear.times ear.dates shown
    arrival (clock_one (record ear { times = frozen ear.times }) shown arrival frame))

told_if : (b : Bool) (x x' y y' : List Timed) → x ≡ x' → y ≡ y' → (if b then x else y) ≡ (if b then x' else y')
told_if true x x' y y' p q = p
told_if false x x' y y' p q = q

ear_if : (b : Bool) (x x' y y' : Hears) → quiet x ≡ quiet x' → quiet y ≡ quiet y'
    → quiet (if b then x else y) ≡ quiet (if b then x' else y')
ear_if true x x' y y' p q = p
ear_if false x x' y y' p q = q

told_arrived_quiet : (arrival : ℕ) (ear : Hears) (frame : List ℕ) → ear.times.is_live ≡ false
    → told_arrived arrival ear frame ≡ told_arrived 0 (quiet ear) frame
told_arrived_quiet arrival ear frame is =
    ap (λ m. record { moment = told_as ear.times m; frame = frame } ∷ []) (due_still ear.times arrival is)

ear_arrived_quiet : (arrival : ℕ) (ear : Hears) → ear.times.is_live ≡ false
    → quiet (ear_arrived arrival ear) ≡ quiet (ear_arrived 0 (quiet ear))
ear_arrived_quiet arrival ear is =
    ap (λ (t : Timing). record ear { times = t; counts = counted ear.counts Written })
    (arrival_still ear.times arrival is)

told_clocked_quiet : (ear : Hears) (shown arrival : ℕ) (judged : Judged) → ear.times.is_live ≡ false
    → told_clocked ear shown arrival judged ≡ told_clocked (quiet ear) shown 0 judged
told_clocked_quiet ear shown arrival judged is =
    let calm = is_calm judged.after in
    rows_still judged.told judged.after arrival 0 (if calm then clocked ear.times shown arrival else ear.times)
    (if calm then clocked (still ear.times) shown 0 else still ear.times)
    (clocked_still calm ear.times shown arrival is)

ear_clocked_quiet : (ear : Hears) (shown arrival : ℕ) (judged : Judged) → ear.times.is_live ≡ false
    → quiet (ear_clocked ear shown arrival judged) ≡ quiet (ear_clocked (quiet ear) shown 0 judged)
ear_clocked_quiet ear shown arrival judged is =
    let calm = is_calm judged.after in
    ap (λ (t : Timing). record ear {
      times = t;
      dates = judged.after;
      counts = counted_rows ear.counts (length judged.told) judged.aside;
    }) (all_still judged.told judged.after arrival 0 (if calm then clocked ear.times shown arrival else ear.times)
    (if calm then clocked (still ear.times) shown 0 else still ear.times)
    (clocked_still calm ear.times shown arrival is))

told_at_quiet : (time : Time) (arrival : ℕ) (ear : Hears) (frame : List ℕ) → ear.times.is_live ≡ false
    → told_at time arrival ear frame ≡ told_at time 0 (quiet ear) frame
told_at_quiet Unknown arrival ear frame is = told_arrived_quiet arrival ear frame is
told_at_quiet (Ticks ticks) arrival ear frame is =
    let shown = ticks % turn in
    let judged = clock_judged ear shown arrival frame in
    told_if (is_clockless ear.times ticks) (told_arrived arrival ear frame) (told_arrived 0 (quiet ear) frame)
    (told_clocked ear shown arrival judged)
    (told_clocked (quiet ear) shown 0 (clock_judged (quiet ear) shown 0 frame))
    (told_arrived_quiet arrival ear frame is)
    (told_clocked_quiet ear shown arrival judged is
    ∙ ap (told_clocked (quiet ear) shown 0) (clock_judged_quiet ear shown arrival frame is))
told_at_quiet (Millis moment) arrival ear frame is =
    let row = row_judged ear moment arrival frame in
    rows_still row.told row.after arrival 0 ear.times (still ear.times) refl
    ∙ ap (told_judged 0 (quiet ear))
    (judged_still ear.times ear.dates arrival (record { moment = moment; frame = frame }) is)

ear_at_quiet : (time : Time) (arrival : ℕ) (ear : Hears) (frame : List ℕ) → ear.times.is_live ≡ false
    → quiet (ear_at time arrival ear frame) ≡ quiet (ear_at time 0 (quiet ear) frame)
ear_at_quiet Unknown arrival ear frame is = ear_arrived_quiet arrival ear is
ear_at_quiet (Ticks ticks) arrival ear frame is =
    let shown = ticks % turn in
    let judged = clock_judged ear shown arrival frame in
    ear_if (is_clockless ear.times ticks) (ear_arrived arrival ear) (ear_arrived 0 (quiet ear))
    (ear_clocked ear shown arrival judged)
    (ear_clocked (quiet ear) shown 0 (clock_judged (quiet ear) shown 0 frame)) (ear_arrived_quiet arrival ear is)
    (ear_clocked_quiet ear shown arrival judged is
    ∙ ap (λ (j : Judged). quiet (ear_clocked (quiet ear) shown 0 j)) (clock_judged_quiet ear shown arrival frame is))
ear_at_quiet (Millis moment) arrival ear frame is =
    let row = row_judged ear moment arrival frame in
    ap (λ (t : Timing). record ear {
      times = t;
      dates = row.after;
      is_dated = not (is_timed ear.dates) || ear.is_dated;
      counts = counted_rows ear.counts (length row.told) row.aside;
    }) (all_still row.told row.after arrival 0 ear.times (still ear.times) refl)
    ∙ ap (λ (j : Judged). quiet (ear_judged 0 (with_row (quiet ear)) j))
    (judged_still ear.times ear.dates arrival (record { moment = moment; frame = frame }) is)

live_judged : (arrival : ℕ) (ear : Hears) (judged : Judged)
    → (ear_judged arrival ear judged).times.is_live ≡ ear.times.is_live
live_judged arrival ear judged = live_all judged.told judged.after arrival ear.times

ear_live_if : (b : Bool) (x y : Hears) (live : Bool) → x.times.is_live ≡ live → y.times.is_live ≡ live
    → (if b then x else y).times.is_live ≡ live
ear_live_if true x y live p q = p
ear_live_if false x y live p q = q

live_at : (time : Time) (arrival : ℕ) (ear : Hears) (frame : List ℕ)
    → (ear_at time arrival ear frame).times.is_live ≡ ear.times.is_live
live_at Unknown arrival ear frame = live_gone ear.times (due ear.times arrival) arrival
live_at (Ticks ticks) arrival ear frame =
    let shown = ticks % turn in
    let judged = clock_judged ear shown arrival frame in
    ear_live_if (is_clockless ear.times ticks) (ear_arrived arrival ear) (ear_clocked ear shown arrival judged)
    ear.times.is_live (live_gone ear.times (due ear.times arrival) arrival)
    (live_judged arrival (with_clock ear shown arrival judged) judged
    ∙ live_clocked (is_calm judged.after) ear.times shown arrival)
live_at (Millis moment) arrival ear frame =
    live_judged arrival (with_row ear) (row_judged ear moment arrival frame)

told_by_quiet : (fate : Option Fate) (arrival : ℕ) (ear : Hears) (message : Message)
    → ear.times.is_live ≡ false → told_by fate arrival ear message ≡ told_by fate 0 (quiet ear) message
told_by_quiet (Some fate) arrival ear message is = refl
told_by_quiet None arrival ear message is = told_at_quiet message.time arrival ear (whole_of message.frame) is

ear_by_quiet : (fate : Option Fate) (arrival : ℕ) (ear : Hears) (message : Message) → ear.times.is_live ≡ false
    → quiet (ear_by fate arrival ear message) ≡ quiet (ear_by fate 0 (quiet ear) message)
ear_by_quiet (Some fate) arrival ear message is = refl
ear_by_quiet None arrival ear message is = ear_at_quiet message.time arrival ear (whole_of message.frame) is

live_by : (fate : Option Fate) (arrival : ℕ) (ear : Hears) (message : Message)
    → (ear_by fate arrival ear message).times.is_live ≡ ear.times.is_live
live_by (Some fate) arrival ear message = refl
live_by None arrival ear message = live_at message.time arrival ear (whole_of message.frame)

told_of_quiet : (arrival : ℕ) (ear : Hears) (item : Found) → ear.times.is_live ≡ false
    → told_of arrival ear item ≡ told_of 0 (quiet ear) item
told_of_quiet arrival ear Damage is = refl
told_of_quiet arrival ear ReceiverId is = refl
told_of_quiet arrival ear (Foreign stranger) is = refl
told_of_quiet arrival ear (Whole message) is =
    told_by_quiet (fate_of ear.all_formats message.time message.frame) arrival ear message is

ear_after_quiet : (arrival : ℕ) (ear : Hears) (item : Found) → ear.times.is_live ≡ false
    → quiet (ear_after arrival ear item) ≡ quiet (ear_after 0 (quiet ear) item)
ear_after_quiet arrival ear Damage is = refl
ear_after_quiet arrival ear ReceiverId is = refl
ear_after_quiet arrival ear (Foreign stranger) is = refl
ear_after_quiet arrival ear (Whole message) is =
    ear_by_quiet (fate_of ear.all_formats message.time message.frame) arrival ear message is

live_after : (arrival : ℕ) (ear : Hears) (item : Found) → (ear_after arrival ear item).times.is_live
    ≡ ear.times.is_live
live_after arrival ear Damage = refl
live_after arrival ear ReceiverId = refl
live_after arrival ear (Foreign stranger) = refl
live_after arrival ear (Whole message) =
    live_by (fate_of ear.all_formats message.time message.frame) arrival ear message

-- ---- two states that differ in arrivals alone

pub record AreAlike (k l : Hears) : Type 0 where
  pub same : quiet k ≡ quiet l
  pub unlive : k.times.is_live ≡ false

-- what the times of a recording say of arrivals
pub ahead_quiet : (t : Timing) → t.is_live ≡ false → is_ahead_of_arrivals t ≡ is_ahead_of_arrivals (still t)
ahead_quiet t is =
    subst (λ (u : Timing). is_ahead_of_arrivals u ≡ is_ahead_of_arrivals (still u)) (is_frozen t is) refl

pub other_unlive : (k l : Hears) → AreAlike k l → l.times.is_live ≡ false
other_unlive k l alike = ap (λ (m : Hears). m.times.is_live) (sym alike.same) ∙ alike.unlive

told_alike : (a b : ℕ) (k l : Hears) (item : Found) → AreAlike k l → told_of a k item ≡ told_of b l item
told_alike a b k l item alike =
    told_of_quiet a k item alike.unlive ∙ ap (λ (m : Hears). told_of 0 m item) alike.same
    ∙ sym (told_of_quiet b l item (other_unlive k l alike))

ears_alike : (a b : ℕ) (k l : Hears) (item : Found) → AreAlike k l
    → AreAlike (ear_after a k item) (ear_after b l item)
ears_alike a b k l item alike = record {
  same = ear_after_quiet a k item alike.unlive ∙ ap (λ (m : Hears). quiet (ear_after 0 m item)) alike.same
      ∙ sym (ear_after_quiet b l item (other_unlive k l alike));
  unlive = live_after a k item ∙ alike.unlive;
}

pub all_told_alike : (a b : ℕ) (items : List Found) (k l : Hears) → AreAlike k l
    → told_of_all a k items ≡ told_of_all b l items
all_told_alike a b [] k l alike = refl
all_told_alike a b (item ∷ more) k l alike =
    ap₂ (λ (x y : List Timed). x ++ y) (told_alike a b k l item alike)
    (all_told_alike a b more (ear_after a k item) (ear_after b l item) (ears_alike a b k l item alike))

pub all_ears_alike : (a b : ℕ) (items : List Found) (k l : Hears) → AreAlike k l
    → AreAlike (ear_after_all a k items) (ear_after_all b l items)
all_ears_alike a b [] k l alike = alike
all_ears_alike a b (item ∷ more) k l alike =
    all_ears_alike a b more (ear_after a k item) (ear_after b l item) (ears_alike a b k l item alike)

-- the end of rows
pub ended_alike : (k l : Hears) → AreAlike k l
    → (told_ended k ≡ told_ended l) × AreAlike (ear_ended k) (ear_ended l)
ended_alike k l alike = (
  ended_quiet k alike.unlive ∙ ap told_ended alike.same ∙ sym (ended_quiet l (other_unlive k l alike)),
  record {
    same = ear_quiet k alike.unlive ∙ ap (λ (m : Hears). quiet (ear_ended m)) alike.same
        ∙ sym (ear_quiet l (other_unlive k l alike));
    unlive = live_judged k.times.arrival k (ended k.times k.dates) ∙ alike.unlive;
  },
)
  where
    ended_quiet : (ear : Hears) → ear.times.is_live ≡ false → told_ended ear ≡ told_ended (quiet ear)
    ended_quiet ear is =
        let last = ended ear.times ear.dates in
        rows_still last.told last.after ear.times.arrival 0 ear.times (still ear.times) refl
        ∙ ap (told_judged 0 (quiet ear)) (ended_still ear.times ear.dates is)

    ear_quiet : (ear : Hears) → ear.times.is_live ≡ false → quiet (ear_ended ear) ≡ quiet (ear_ended (quiet ear))
    ear_quiet ear is =
        let last = ended ear.times ear.dates in
        ap (λ (t : Timing). record ear {
          times = t;
          dates = last.after;
          counts = counted_rows ear.counts (length last.told) last.aside;
        }) (all_still last.told last.after ear.times.arrival 0 ear.times (still ear.times) refl)
        ∙ ap (λ (j : Judged). quiet (ear_judged 0 (quiet ear) j)) (ended_still ear.times ear.dates is)
