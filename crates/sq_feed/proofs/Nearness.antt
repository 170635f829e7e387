-- Timestamps that stay near the latest one.
use Rattle.std.proofs.Common.{◌≡◌, ◌≤◌, ◌-◌, ◌%◌, ◌∙◌, ◌++◌, ℕ, Bool, true, false, List, [], ◌∷◌, ap, arith, max, nat_le, refl, subst₂, sym}
use Rattle.std.specs.Prelude.{Option, Some, None, if◌then◌else◌}
use Rattle.std.proofs.lemmas.Bool.Decides.{nat_tests}
use Rattle.sq_feed.specs.declared.counts.Fate.{Fate}
use Rattle.sq_feed.specs.declared.dates.Dates.{Dates}
use Rattle.sq_feed.specs.declared.message.Found.{Found}
use Rattle.sq_feed.specs.declared.message.Found.TheVariants.{Whole, Damage, Foreign, ReceiverId}
use Rattle.sq_feed.specs.declared.message.Message.{Message}
use Rattle.sq_feed.specs.declared.message.Time.{Time}
use Rattle.sq_feed.specs.declared.message.Time.TheVariants.{Unknown, Ticks, Millis}
use Rattle.sq_feed.specs.declared.message.Timed.{Timed}
use Rattle.sq_feed.specs.Clock.{turn}
use Rattle.sq_feed.specs.Dates.{ended, gone_all, is_calm, own, timed_all}
use Rattle.sq_feed.specs.Ears.{AreNear, Hears, StaysNear, StaysNearAtEnd, clock_judged, ear_after, ear_after_all}
use Rattle.sq_feed.specs.Ears.{ear_arrived, ear_at, ear_by, ear_clocked, fate_of, latest_told, row_judged, told_arrived}
use Rattle.sq_feed.specs.Ears.{told_at, told_by, told_clocked, told_of, told_of_all, whole_of}
use Rattle.sq_feed.specs.Times.{Timing, clocked, due, gone_on, is_clockless, told_as}

-- These frames have timestamps, and this is the state after them.
record Goes (late latest : ℕ) (told : List Timed) (new : Timing) : Type 0 where
  near : AreNear late latest told
  late_is : new.late ≡ late
  latest_is : new.latest ≡ latest_told latest told

by_test : (b : Bool) (t : Timing) (moment arrival : ℕ) (frame : List ℕ) → nat_le t.latest moment ≡ b
    → Goes t.late t.latest
    (record { moment = if b then moment else max moment (t.latest - t.late); frame = frame } ∷ [])
    (if b then record t { latest = moment; arrival = arrival } else t)
by_test true t moment arrival frame is =
    let le : t.latest ≤ moment = grind (arith, nat_tests, is) in
    record { near = (omega (arith, le), tt); late_is = refl; latest_is = omega (arith, le) }
by_test false t moment arrival frame is =
    let lt : moment ≤ t.latest = grind (arith, nat_tests, is) in
    record { near = (omega arith, tt); late_is = refl; latest_is = omega (arith, lt) }

gone : (t : Timing) (moment arrival : ℕ) (frame : List ℕ)
    → Goes t.late t.latest (record { moment = told_as t moment; frame = frame } ∷ []) (gone_on t moment arrival)
gone t moment arrival frame = by_test (nat_le t.latest moment) t moment arrival frame refl

stays : (t : Timing) → Goes t.late t.latest [] t
stays t = record { near = tt; late_is = refl; latest_is = refl }

-- ---- several frames

near_append : (xs ys : List Timed) (late latest : ℕ) → AreNear late latest xs
    → AreNear late (latest_told latest xs) ys → AreNear late latest (xs ++ ys)
near_append [] ys late latest p q = q
near_append (x ∷ xs) ys late latest (first, p) q = (first, near_append xs ys late (max latest x.moment) p q)

latest_append : (xs ys : List Timed) (latest : ℕ) → latest_told latest (xs ++ ys)
    ≡ latest_told (latest_told latest xs) ys
latest_append [] ys latest = refl
latest_append (x ∷ xs) ys latest = latest_append xs ys (max latest x.moment)

goes_more : (xs ys : List Timed) (late latest : ℕ) (mid new : Timing) → Goes late latest xs mid
    → Goes mid.late mid.latest ys new → Goes late latest (xs ++ ys) new
goes_more xs ys late latest mid new p q = record {
  near = near_append xs ys late latest p.near (subst₂ (λ l m. AreNear l m ys) p.late_is p.latest_is q.near);
  late_is = q.late_is ∙ p.late_is;
  latest_is = q.latest_is ∙ ap (λ m. latest_told m ys) p.latest_is ∙ sym (latest_append xs ys latest);
}

rows_go : (told : List Timed) (d : Dates) (arrival : ℕ) (t : Timing)
    → Goes t.late t.latest (timed_all d arrival t told) (gone_all d arrival t told)
rows_go [] d arrival t = stays t
rows_go (one ∷ more) d arrival t =
    let moment = own d one.moment in
    let next = gone_on t moment arrival in
    goes_more (record { moment = told_as t moment; frame = one.frame } ∷ []) (timed_all d arrival next more) t.late
    t.latest next (gone_all d arrival next more) (gone t moment arrival one.frame) (rows_go more d arrival next)

-- a frame with a clock, if its time is believed or not
clock_goes : (b : Bool) (told : List Timed) (d : Dates) (t : Timing) (shown arrival : ℕ)
    → Goes t.late t.latest (timed_all d arrival (if b then clocked t shown arrival else t) told)
    (gone_all d arrival (if b then clocked t shown arrival else t) told)
clock_goes true told d t shown arrival = rows_go told d arrival (clocked t shown arrival)
clock_goes false told d t shown arrival = rows_go told d arrival t

-- ---- items

ticks_goes : (b : Bool) (shown arrival : ℕ) (ear : Hears) (frame : List ℕ)
    → Goes ear.times.late ear.times.latest (if b then told_arrived arrival ear frame
    else told_clocked ear shown arrival (clock_judged ear shown arrival frame))
    (if b then ear_arrived arrival ear
    else ear_clocked ear shown arrival (clock_judged ear shown arrival frame)).times
ticks_goes true shown arrival ear frame = gone ear.times (due ear.times arrival) arrival frame
ticks_goes false shown arrival ear frame =
    let judged = clock_judged ear shown arrival frame in
    clock_goes (is_calm judged.after) judged.told judged.after ear.times shown arrival

time_goes : (time : Time) (arrival : ℕ) (ear : Hears) (frame : List ℕ)
    → Goes ear.times.late ear.times.latest (told_at time arrival ear frame) (ear_at time arrival ear frame).times
time_goes Unknown arrival ear frame = gone ear.times (due ear.times arrival) arrival frame
time_goes (Ticks ticks) arrival ear frame =
    ticks_goes (is_clockless ear.times ticks) (ticks % turn) arrival ear frame
time_goes (Millis moment) arrival ear frame =
    let row = row_judged ear moment arrival frame in rows_go row.told row.after arrival ear.times

fate_goes : (fate : Option Fate) (arrival : ℕ) (ear : Hears) (message : Message)
    → Goes ear.times.late ear.times.latest (told_by fate arrival ear message) (ear_by fate arrival ear message).times
fate_goes (Some fate) arrival ear message = stays ear.times
fate_goes None arrival ear message = time_goes message.time arrival ear (whole_of message.frame)

item_goes : (arrival : ℕ) (ear : Hears) (item : Found)
    → Goes ear.times.late ear.times.latest (told_of arrival ear item) (ear_after arrival ear item).times
item_goes arrival ear (Whole message) =
    fate_goes (fate_of ear.all_formats message.time message.frame) arrival ear message
item_goes arrival ear Damage = stays ear.times
item_goes arrival ear ReceiverId = stays ear.times
item_goes arrival ear (Foreign stranger) = stays ear.times

all_go : (items : List Found) (arrival : ℕ) (ear : Hears)
    → Goes ear.times.late ear.times.latest (told_of_all arrival ear items) (ear_after_all arrival ear items).times
all_go [] arrival ear = stays ear.times
all_go (item ∷ more) arrival ear =
    let next = ear_after arrival ear item in
    goes_more (told_of arrival ear item) (told_of_all arrival next more) ear.times.late ear.times.latest next.times
    (ear_after_all arrival next more).times (item_goes arrival ear item) (all_go more arrival next)

pub stays_near : StaysNear
stays_near arrival ear items =
    let all = all_go items arrival ear in (all.near, all.late_is, all.latest_is)

pub stays_near_at_end : StaysNearAtEnd
stays_near_at_end ear =
    let last = ended ear.times ear.dates in
    let all = rows_go last.told last.after ear.times.arrival ear.times in (all.near, all.late_is, all.latest_is)
