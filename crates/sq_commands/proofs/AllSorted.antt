-- The lines of a whole source: all its squitters, sorted.
use Rattle.std.proofs.Common.{◌≡◌, ◌==◌, ◌++◌, ◌∙◌, ℕ, Bool, true, false, List, [], ◌∷◌, None, Option, Some, ap}
use Rattle.std.proofs.Common.{append-nil}
use Rattle.std.proofs.Common.{arith, if◌then◌else◌, max, refl, subst, sym}
use Rattle.std.proofs.lemmas.Bool.Decides.{nat_tests}
use Rattle.sq_feed.specs.declared.message.Timed.{Timed}
use Rattle.sq_feed.specs.Ears.{AreNear, Hears, latest_told, told_ended, told_of_all}
use Rattle.sq_feed.specs.Feeds.{AreFed, Fed, Feeding, ear_at_last, last_fed, lines_of, nothing_fed, told_at_end}
use Rattle.sq_feed.specs.Orders.{Sorting, nothing_sorted, sorted}
use Rattle.sq_feed.specs.Readers.{awaited}
use Rattle.sq_feed.proofs.Feeding.{lines_of-append}
use Rattle.sq_feed.proofs.Nearness.{stays_near, stays_near_at_end}
use Rattle.sq_feed.proofs.Rising.{gives_in_order, in_time_is_not_late, near_is_rising, sorted_rising}
use Rattle.sq_commands.specs.Feed.{WritesAllSorted, all_squitters, given_by, lines_whole, manner_of, order_after}
use Rattle.sq_commands.specs.Feed.{squitters_in, waiting_in}

near_join : (late latest : ℕ) (xs ys : List Timed) → AreNear late latest xs → AreNear late (latest_told latest xs) ys
    → AreNear late latest (xs ++ ys)
near_join late latest [] ys first second = second
near_join late latest (x ∷ xs) ys first second = (first.0, near_join late (max latest x.moment) xs ys first.1 second)

latest_join : (latest : ℕ) (xs ys : List Timed) → latest_told latest (xs ++ ys) ≡ latest_told (latest_told latest xs) ys
latest_join latest [] ys = refl
latest_join latest (x ∷ xs) ys = latest_join (max latest x.moment) xs ys

-- the timestamps of calls stay near the latest one
near_calls : (calls : List Fed) (before : Feeding) → AreFed before calls
    → AreNear before.ear.times.late before.ear.times.latest (squitters_in before calls)
    × ((last_fed before calls).ear.times.late ≡ before.ear.times.late)
    × ((last_fed before calls).ear.times.latest ≡ latest_told before.ear.times.latest (squitters_in before calls))
unfolding squitters_in
near_calls [] before fed = (tt, refl, refl)
near_calls (one ∷ more) before (fed, others) =
    let told = told_of_all one.arrival before.ear one.found in
    let now = stays_near one.arrival before.ear one.found in
    let late : one.after.ear.times.late ≡ before.ear.times.late =
    ap (λ (e : Hears). e.times.late) fed.heard ∙ now.1 in
    let latest : one.after.ear.times.latest ≡ latest_told before.ear.times.latest told =
    ap (λ (e : Hears). e.times.latest) fed.heard ∙ now.2 in
    let rest = near_calls more one.after others in
    let after = squitters_in one.after more in (
      near_join before.ear.times.late before.ear.times.latest told after now.0
          (subst (λ n. AreNear n (latest_told before.ear.times.latest told) after) late
          (subst (λ n. AreNear one.after.ear.times.late n after) latest rest.0)),
      rest.1 ∙ late,
      rest.2 ∙ ap (λ n. latest_told n after) latest ∙ sym (latest_join before.ear.times.latest told after),
    )

near_all : (before : Feeding) (calls : List Fed) (arrival : ℕ) → AreFed before calls
    → AreNear before.ear.times.late before.ear.times.latest (all_squitters before calls arrival)
near_all before calls arrival fed =
    let last = last_fed before calls in
    let front = near_calls calls before fed in
    let items = told_of_all arrival last.ear (awaited last.reader []) in
    let ear = ear_at_last arrival last in
    let end = stays_near arrival last.ear (awaited last.reader []) in
    let rows = stays_near_at_end ear in
    let whole : AreNear last.ear.times.late last.ear.times.latest (told_at_end arrival last) =
    near_join last.ear.times.late last.ear.times.latest items (told_ended ear) end.0
    (subst (λ n. AreNear n (latest_told last.ear.times.latest items) (told_ended ear)) end.1
    (subst (λ n. AreNear ear.times.late n (told_ended ear)) end.2 rows.0)) in
    near_join before.ear.times.late before.ear.times.latest (squitters_in before calls) (told_at_end arrival last)
    front.0
    (subst (λ n. AreNear n (latest_told before.ear.times.latest (squitters_in before calls)) (told_at_end arrival last))
    front.1 (subst (λ n. AreNear last.ear.times.late n (told_at_end arrival last)) front.2 whole))

whole_sorted : (reorder : ℕ) (came : List Timed) → AreNear reorder 0 came
    → lines_whole reorder came ≡ lines_of (sorted came)
whole_sorted reorder came near = by (reorder == 0) refl
  where
    order : Bool → Option Sorting
    order b = if b then None else Some (nothing_sorted reorder)

    by : (b : Bool) → (reorder == 0) ≡ b → lines_of (given_by (order b) came)
        ++ lines_of (waiting_in (order_after (order b) came)) ≡ lines_of (sorted came)
    by true is =
        let zero : reorder ≡ 0 = grind (arith, nat_tests, is) in
        append-nil (lines_of came)
        ∙ ap lines_of (sym (sorted_rising came (near_is_rising 0 came (subst (λ n. AreNear n 0 came) zero near))))
    by false is =
        sym (lines_of-append (given_by (order false) came) (waiting_in (order_after (order false) came)))
        ∙ ap lines_of (gives_in_order reorder came (in_time_is_not_late reorder came near))

pub writes_all_sorted : WritesAllSorted
writes_all_sorted options is_live calls arrival fed =
    let start = nothing_fed options.format (manner_of options is_live) in
    whole_sorted options.reorder (all_squitters start calls arrival) (near_all start calls arrival fed)
