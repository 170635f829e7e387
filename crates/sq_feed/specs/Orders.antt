-- Squitters in the order of their timestamps.
use Rattle.std.specs.Prelude.{◌≡◌, ◌≤◌, ◌++◌, ◌+◌, ◌-◌, ◌⊎◌, ◌^◌, ⊤, ℕ, Bool, false, List, [], ◌∷◌, eqb, filter}
use Rattle.std.specs.Prelude.{length, max, min, nat_le, nat_lt, if◌then◌else◌}
use Rattle.std.specs.List.{insert}
use Rattle.sq_feed.specs.declared.message.Timed.{Timed}
use Rattle.sq_feed.specs.Ears.{AreNear}

-- the state: how late a squitter may come (ms), the latest timestamp so far, the last timestamp that was given, how
-- many squitters were late, and the squitters that are held
pub record Sorting : Type 0 where
  pub reorder : ℕ
  pub latest : ℕ
  pub given : ℕ
  pub late : ℕ
  pub held : List Timed

abbrev pub nothing_sorted : ℕ → Sorting
nothing_sorted reorder = record { reorder = reorder; latest = 0; given = 0; late = 0; held = [] }

-- ---- a squitter comes

-- the index for a squitter with this timestamp: after the last one that is not later
abbrev pub place_of : ℕ → List Timed → ℕ
place_of moment [] = 0
place_of moment (one ∷ more) =
    if eqb (place_of moment more) 0 then (if nat_lt moment one.moment then 0 else 1) else place_of moment more + 1

-- a squitter, inserted at its place among others
abbrev pub put_in : Timed → List Timed → List Timed
put_in one held = insert held (place_of one.moment held) one

-- A squitter is late: one with a later timestamp was given before.
abbrev pub is_late : Timed → Sorting → Bool
is_late one s = nat_lt one.moment s.given

-- A late squitter is dropped and counted. At 2^64 - 1 the count stops.
abbrev pub without_one : Sorting → Sorting
without_one s = record s { late = min (s.late + 1) (2 ^ 64 - 1) }

abbrev pub holding_one : Timed → Sorting → Sorting
holding_one one s = record s { latest = max s.latest one.moment; held = put_in one s.held }

abbrev pub with_one : Timed → Sorting → Sorting
with_one one s = if is_late one s then without_one s else holding_one one s

-- the squitter, if it is late
abbrev pub late_of : Timed → Sorting → List Timed
late_of one s = if is_late one s then one ∷ [] else []

-- ---- squitters are given

-- the first squitter is due: the latest one is at least `reorder` later
abbrev pub is_due : (reorder latest : ℕ) → List Timed → Bool
is_due reorder latest [] = false
is_due reorder latest (one ∷ more) = nat_le (one.moment + reorder) latest

-- the squitters that are due, from the first one on, and those after them
abbrev pub due_of : (reorder latest : ℕ) → List Timed → List Timed
due_of reorder latest [] = []
due_of reorder latest (one ∷ more) =
    if is_due reorder latest (one ∷ more) then one ∷ due_of reorder latest more else []

abbrev pub left_of : (reorder latest : ℕ) → List Timed → List Timed
left_of reorder latest [] = []
left_of reorder latest (one ∷ more) =
    if is_due reorder latest (one ∷ more) then left_of reorder latest more else one ∷ more

-- the timestamp of the last of these squitters; without one, the one before them
abbrev pub last_given : ℕ → List Timed → ℕ
last_given before [] = before
last_given before (one ∷ more) = last_given one.moment more

abbrev pub given_now : Sorting → List Timed
given_now s = due_of s.reorder s.latest s.held

abbrev pub settled : Sorting → Sorting
settled s = record s { given = last_given s.given (given_now s); held = left_of s.reorder s.latest s.held }

-- ---- several squitters

-- All squitters that are given, if each one comes once all that were due are given; the state afterwards; and those
-- that are late.
abbrev pub given_all : Sorting → List Timed → List Timed
given_all s [] = given_now s
given_all s (one ∷ more) = given_now s ++ given_all (with_one one (settled s)) more

abbrev pub sorted_all : Sorting → List Timed → Sorting
sorted_all s [] = settled s
sorted_all s (one ∷ more) = sorted_all (with_one one (settled s)) more

abbrev pub late_all : Sorting → List Timed → List Timed
late_all s [] = []
late_all s (one ∷ more) = late_of one (settled s) ++ late_all (with_one one (settled s)) more

-- These squitters came, and these were given: with any more to come, `old` gives these, and then what `new` gives.
pub record HasSorted (old : Sorting) (came given : List Timed) (new : Sorting) : Type 0 where
  pub gives : (more : List Timed) → given_all old (came ++ more) ≡ given ++ given_all new more
  pub leaves : (more : List Timed) → sorted_all old (came ++ more) ≡ sorted_all new more
  pub last : new.given ≡ last_given old.given given

-- The first squitters that were held were given.
pub record HasFlushed (old : Sorting) (given : List Timed) (new : Sorting) : Type 0 where
  pub held : given ++ new.held ≡ old.held
  pub last : new.given ≡ last_given old.given given
  pub same : (new.reorder ≡ old.reorder) × (new.latest ≡ old.latest) × (new.late ≡ old.late)

-- ---- words of the laws

-- a squitter with this timestamp, and a frame of no bytes
abbrev pub timed_at : ℕ → Timed
timed_at moment = record { moment = moment; frame = [] }

-- how many squitters pass a test
abbrev pub count_of : (Timed → Bool) → List Timed → ℕ
count_of test [] = 0
count_of test (one ∷ more) = (if test one then 1 else 0) + count_of test more

-- timestamps that rise, from this one on
abbrev pub RiseFrom : ℕ → List Timed → Type 0
RiseFrom moment [] = ⊤
RiseFrom moment (one ∷ more) = (moment ≤ one.moment) × RiseFrom one.moment more

-- squitters, each inserted at its place when it comes
abbrev pub put_all : List Timed → List Timed → List Timed
put_all held [] = held
put_all held (one ∷ more) = put_all (put_in one held) more

abbrev pub sorted : List Timed → List Timed
sorted came = put_all [] came

-- the squitters with one timestamp
abbrev pub only : ℕ → List Timed → List Timed
only moment squitters = filter (λ one. eqb one.moment moment) squitters

-- a call: the squitters that came, those that were given, and the state after it
pub record Sorted : Type 0 where
  pub came : List Timed
  pub given : List Timed
  pub after : Sorting

-- calls in order
abbrev pub AreSorted : Sorting → List Sorted → Type 0
AreSorted before [] = ⊤
AreSorted before (one ∷ more) = HasSorted before one.came one.given one.after × AreSorted one.after more

-- In a call squitters came, or some that were held were given.
abbrev pub IsCalled : Sorting → Sorted → Type 0
IsCalled before one = HasSorted before one.came one.given one.after
    ⊎ ((one.came ≡ []) × HasFlushed before one.given one.after)

-- calls in order, with flushes among them, as for a live source that pauses
abbrev pub AreCalled : Sorting → List Sorted → Type 0
AreCalled before [] = ⊤
AreCalled before (one ∷ more) = IsCalled before one × AreCalled one.after more

abbrev pub last_sorted : Sorting → List Sorted → Sorting
last_sorted before [] = before
last_sorted before (one ∷ more) = last_sorted one.after more

abbrev pub came_in : List Sorted → List Timed
came_in [] = []
came_in (one ∷ more) = one.came ++ came_in more

abbrev pub given_in : List Sorted → List Timed
given_in [] = []
given_in (one ∷ more) = one.given ++ given_in more

-- ---- laws

-- Whatever comes, and whenever an order is flushed, the timestamps that it gives rise.
abbrev pub AlwaysRises : Type 0
AlwaysRises = (reorder : ℕ) (calls : List Sorted) → AreCalled (nothing_sorted reorder) calls
    → RiseFrom 0 (given_in calls)

-- Each squitter that came was given, is held, or was counted as late, exactly once.
abbrev pub CountsAll : Type 0
CountsAll = (reorder : ℕ) (calls : List Sorted) → AreCalled (nothing_sorted reorder) calls
    → length (came_in calls) ≤ 2 ^ 64 - 1
    → let after = last_sorted (nothing_sorted reorder) calls in
    length (given_in calls) + length after.held + after.late ≡ length (came_in calls)

-- Each squitter that came or was held is given, held or late at the end, as often as it came: no squitter is lost or
-- duplicated.
abbrev pub GivesAll : Type 0
GivesAll = (s : Sorting) (came : List Timed) (test : Timed → Bool)
    → count_of test (given_all s came ++ ((sorted_all s came).held ++ late_all s came))
    ≡ count_of test (s.held ++ came)

-- The count is that of the late squitters.
abbrev pub CountsTheLate : Type 0
CountsTheLate = (s : Sorting) (came : List Timed) → s.late ≤ 2 ^ 64 - 1
    → (sorted_all s came).late ≡ min (s.late + length (late_all s came)) (2 ^ 64 - 1)

-- If none is late, the squitters given, followed by those held, are all that came, sorted.
abbrev pub GivesInOrder : Type 0
GivesInOrder = (reorder : ℕ) (came : List Timed) → late_all (nothing_sorted reorder) came ≡ []
    → given_all (nothing_sorted reorder) came ++ (sorted_all (nothing_sorted reorder) came).held ≡ sorted came

-- If each squitter is before the latest one by at most `reorder`, none is late.
abbrev pub InTimeIsNotLate : Type 0
InTimeIsNotLate = (reorder : ℕ) (came : List Timed) → AreNear reorder 0 came
    → late_all (nothing_sorted reorder) came ≡ []

-- With a `reorder` of 0, none is held, and squitters with timestamps that rise are given as they come.
abbrev pub GivesAtOnce : Type 0
GivesAtOnce = (came : List Timed) → ((sorted_all (nothing_sorted 0) came).held ≡ [])
    × (RiseFrom 0 came → given_all (nothing_sorted 0) came ≡ came)

-- Sorted squitters: their timestamps rise, and squitters with one timestamp are in the order of arrival.
abbrev pub SortsStably : Type 0
SortsStably = (came : List Timed)
    → RiseFrom 0 (sorted came) × ((moment : ℕ) → only moment (sorted came) ≡ only moment came)

-- How squitters are cut into calls does not matter. All calls, and a flush after them, give the squitters that one
-- call with all of them gives and holds, and count the same ones as late.
abbrev pub SortsTheWhole : Type 0
SortsTheWhole = (before : Sorting) (calls : List Sorted) → AreSorted before calls
    → (given_in calls ++ (last_sorted before calls).held
    ≡ given_all before (came_in calls) ++ (sorted_all before (came_in calls)).held)
    × ((last_sorted before calls).late ≡ (sorted_all before (came_in calls)).late)

-- The earliest squitters are given, as many as are due, and each squitter that was held is given or held.
abbrev pub GivesTheFirst : Type 0
GivesTheFirst = (reorder latest : ℕ) (held : List Timed)
    → due_of reorder latest held ++ left_of reorder latest held ≡ held
