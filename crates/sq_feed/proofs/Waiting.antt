-- How many frames of rows wait, or are ready.
use Rattle.std.proofs.Common.{◌≡◌, ◌+◌, ◌<◌, ◌≤◌, ◌++◌, ◌⊎◌, ◌∙◌, ℕ, List, [], ◌∷◌, length, ap, arith, inl, inr, refl}
use Rattle.std.proofs.Common.{length-append}
use Rattle.sq_feed.specs.declared.dates.Dates.{Dates}
use Rattle.sq_feed.specs.declared.dates.First.{First}
use Rattle.sq_feed.specs.declared.dates.First.TheVariants.{NoTime, Waits, Believed}
use Rattle.sq_feed.specs.declared.dates.Run.{Run}
use Rattle.sq_feed.specs.declared.dates.Run.TheVariants.{Empty, One, Two, Torn}
use Rattle.sq_feed.specs.declared.message.Timed.{Timed}
use Rattle.sq_feed.specs.Dates.{HasRoom, Judged, ended, first_waiting, run_waiting, timed_all, waiting}
use Rattle.sq_feed.specs.Feeds.{Feeding, steps_for, steps_left}
use Rattle.sq_feed.specs.Readers.{calls_for, calls_left}
use Rattle.sq_feed.specs.Times.{Timing}
use Rattle.sq_feed.proofs.Tallies.{Balances, ended_balances, timed_length}

first_few : (first : First) → length (first_waiting first) ≤ 1
first_few NoTime = omega arith
first_few (Waits one) = omega arith
first_few Believed = omega arith

run_few : (run : Run) → length (run_waiting run) ≤ 2
run_few Empty = omega arith
run_few (One a) = omega arith
run_few (Two a b) = omega arith
run_few (Torn a b) = omega arith

pub waiting_few : (d : Dates) → length (waiting d) ≤ 3
waiting_few d =
    let first = first_few d.first in
    let run = run_few d.run in
    omega (arith, first, run, length-append (first_waiting d.first) (run_waiting d.run))

-- There is room for the frames that get timestamps.
pub told_few : (judged : Judged) (waited : ℕ) (told old : List Timed) → Balances judged (waited + 1)
    → told ≡ judged.told → length old + waited ≤ 3 → length old + length told ≤ 4
told_few judged waited told old balance told-is room = omega (arith, ap length told-is, balance, room)

-- A frame makes as many frames ready as waited, and itself.
pub room_after : (judged : Judged) (d : Dates) (t : Timing) (arrival : ℕ) (after next : Dates)
    (told old new : List Timed) → Balances judged (length (waiting d) + 1) → after ≡ judged.after → told ≡ judged.told
    → next ≡ after → new ≡ old ++ timed_all after arrival t told → length old + length (waiting d) ≤ 3
    → HasRoom new next
room_after judged d t arrival after next told old new balance after-is told-is same new-is room =
    let long : length new ≡ length old + length told =
    ap length new-is ∙ length-append old (timed_all after arrival t told)
    ∙ ap (λ n. length old + n) (timed_length told after arrival t) in
    let left : length (waiting next) ≡ length (waiting judged.after) =
    ap (λ (a : Dates). length (waiting a)) (same ∙ after-is) in
    (omega (arith, long, left, ap length told-is, balance, room), waiting_few next)

no_length : {X : Type 0} (l : List X) → length l ≡ 0 → l ≡ []
no_length [] none = refl
no_length (x ∷ xs) none = absurd (omega (arith, none))

-- Without a step left, no squitter is ready.
pub none_ready : (feed : Feeding) → steps_left feed ≡ 0 → feed.ready ≡ []
none_ready feed done = no_length feed.ready (omega (arith, done))

pub no_calls : (feed : Feeding) → steps_left feed ≡ 0 → calls_left feed.reader ≡ 0
no_calls feed done = omega (arith, done)
