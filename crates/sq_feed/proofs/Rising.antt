-- What an order gives: timestamps that rise, each squitter once, and all of them sorted where none is late.
use Rattle.std.proofs.Common.{◌≡◌, ◌≤◌, ◌++◌, ◌+◌, ◌-◌, ◌^◌, ◌∙◌, ℕ, Bool, true, false, List, [], ◌∷◌, ap, ap₂}
use Rattle.std.proofs.Common.{append_assoc, arith, if◌then◌else◌, length, nat_le, refl, subst, sym, max, inl, inr}
use Rattle.std.proofs.Common.{append-nil}
use Rattle.std.proofs.lemmas.Bool.Decides.{nat_tests}
use Rattle.sq_feed.specs.declared.message.Timed.{Timed}
use Rattle.sq_feed.specs.Ears.{AreNear}
use Rattle.sq_feed.specs.Orders.{AlwaysRises, AreCalled, CountsAll, GivesAtOnce, GivesInOrder, InTimeIsNotLate}
use Rattle.sq_feed.specs.Orders.{IsCalled, RiseFrom, Sorted, Sorting, came_in, count_of, due_of, given_all, given_in}
use Rattle.sq_feed.specs.Orders.{given_now, holding_one, is_late, last_given, last_sorted, late_all, late_of, left_of}
use Rattle.sq_feed.specs.Orders.{nothing_sorted, put_all, put_in, settled, sorted, sorted_all, with_one, without_one}
use Rattle.sq_feed.proofs.Ordering.{AllUntil, counts_the_late, given_with, gives_all, gives_the_first, held_so}
use Rattle.sq_feed.proofs.Ordering.{not_later, not_lt, put_behind, reorder_with, rise_in}

-- ---- timestamps that rise

rise_join : (low : ℕ) (xs ys : List Timed) → RiseFrom low xs → RiseFrom (last_given low xs) ys
    → RiseFrom low (xs ++ ys)
rise_join low [] ys first second = second
rise_join low (x ∷ xs) ys first second = (first.0, rise_join x.moment xs ys first.1 second)

rise_split : (low : ℕ) (xs ys : List Timed) → RiseFrom low (xs ++ ys)
    → RiseFrom low xs × RiseFrom (last_given low xs) ys
rise_split low [] ys rise = (tt, rise)
rise_split low (x ∷ xs) ys rise =
    let rest = rise_split x.moment xs ys rise.1 in ((rise.0, rest.0), rest.1)

rise_settled : (s : Sorting) → RiseFrom s.given s.held
    → RiseFrom s.given (given_now s) × RiseFrom (settled s).given (settled s).held
rise_settled s rise =
    rise_split s.given (given_now s) (settled s).held
    (subst (RiseFrom s.given) (sym (gives_the_first s.reorder s.latest s.held)) rise)

rise_with : (one : Timed) (s : Sorting) → RiseFrom s.given s.held
    → RiseFrom (with_one one s).given (with_one one s).held
rise_with one s rise = by (is_late one s) refl
  where
    by : (b : Bool) → is_late one s ≡ b → RiseFrom (if b then without_one s else holding_one one s).given
        (if b then without_one s else holding_one one s).held
    by true is = rise
    by false is = rise_in s.given s.held one rise (not_lt one.moment s.given is)

rise_of_all : (s : Sorting) (came : List Timed) → RiseFrom s.given s.held
    → RiseFrom s.given (given_all s came) × RiseFrom (sorted_all s came).given (sorted_all s came).held
rise_of_all s [] rise = rise_settled s rise
rise_of_all s (one ∷ more) rise =
    let now = rise_settled s rise in
    let next = with_one one (settled s) in
    let rest = rise_of_all next more (rise_with one (settled s) now.1) in (
      rise_join s.given (given_now s) (given_all next more) now.0
          (subst (λ g. RiseFrom g (given_all next more)) (given_with one (settled s)) rest.0),
      rest.1,
    )

-- what a call gives rises, and so does what is held after it
rise_called : (before : Sorting) (one : Sorted) → IsCalled before one → RiseFrom before.given before.held
    → RiseFrom before.given one.given × RiseFrom one.after.given one.after.held
rise_called before one (inl sorts) rise =
    let all = rise_of_all before one.came rise in
    let after = one.after in
    let gives : given_all before one.came ≡ one.given ++ given_now after =
    ap (given_all before) (sym (append-nil one.came)) ∙ sorts.gives [] in
    let leaves : sorted_all before one.came ≡ settled after =
    ap (sorted_all before) (sym (append-nil one.came)) ∙ sorts.leaves [] in
    let given = rise_split before.given one.given (given_now after)
    (subst (RiseFrom before.given) gives all.0) in
    let held = rise_join (last_given before.given one.given) (given_now after) (settled after).held given.1
    (subst (λ g. RiseFrom (last_given g (given_now after)) (settled after).held) sorts.last
    (subst (λ (s : Sorting). RiseFrom s.given s.held) leaves all.1)) in (
      given.0,
      subst (λ g. RiseFrom g after.held) (sym sorts.last)
          (subst (RiseFrom (last_given before.given one.given)) (gives_the_first after.reorder after.latest after.held)
          held),
    )
rise_called before one (inr (none, flushed)) rise =
    let both = rise_split before.given one.given one.after.held
    (subst (RiseFrom before.given) (sym flushed.held) rise) in
    (both.0, subst (λ g. RiseFrom g one.after.held) (sym flushed.last) both.1)

last_called : (before : Sorting) (one : Sorted) → IsCalled before one
    → one.after.given ≡ last_given before.given one.given
last_called before one (inl sorts) = sorts.last
last_called before one (inr (none, flushed)) = flushed.last

rise_calls : (before : Sorting) (calls : List Sorted) → AreCalled before calls → RiseFrom before.given before.held
    → RiseFrom before.given (given_in calls)
rise_calls before [] called rise = tt
rise_calls before (one ∷ more) (called, others) rise =
    let now = rise_called before one called rise in
    rise_join before.given one.given (given_in more) now.0
    (subst (λ g. RiseFrom g (given_in more)) (last_called before one called)
    (rise_calls one.after more others now.1))

pub always_rises : AlwaysRises
always_rises reorder calls called = rise_calls (nothing_sorted reorder) calls called tt

-- ---- each squitter is given, held or late

count_each : (xs : List Timed) → count_of (λ _. true) xs ≡ length xs
count_each [] = refl
count_each (x ∷ xs) = omega (arith, count_each xs)

length-append_so : (xs ys : List Timed) → length (xs ++ ys) ≡ length xs + length ys
length-append_so [] ys = omega arith
length-append_so (x ∷ xs) ys = omega (arith, length-append_so xs ys)

counts_called : (before : Sorting) (one : Sorted) → IsCalled before one
    → before.late + length before.held + length one.came ≤ 2 ^ 64 - 1
    → length one.given + length one.after.held + one.after.late
    ≡ length before.held + length one.came + before.late
counts_called before one (inl sorts) few =
    let after = one.after in
    let late = late_all before one.came in
    let given = given_all before one.came in
    let held = (sorted_all before one.came).held in
    let gives : given ≡ one.given ++ given_now after =
    ap (given_all before) (sym (append-nil one.came)) ∙ sorts.gives [] in
    let leaves : sorted_all before one.came ≡ settled after =
    ap (sorted_all before) (sym (append-nil one.came)) ∙ sorts.leaves [] in
    let all : length given + (length held + length late) ≡ length before.held + length one.came =
    omega (
      arith,
      gives_all before one.came (λ _. true),
      count_each (given ++ (held ++ late)),
      count_each (before.held ++ one.came),
      length-append_so given (held ++ late),
      length-append_so held late,
      length-append_so before.held one.came,
    ) in
    omega (
      arith,
      all,
      few,
      ap (λ (l : List Timed). length l) gives,
      length-append_so one.given (given_now after),
      ap (λ (s : Sorting). length s.held) leaves,
      ap (λ (s : Sorting). s.late) leaves,
      counts_the_late before one.came (omega (arith, few)),
      ap (λ (l : List Timed). length l) (gives_the_first after.reorder after.latest after.held),
      length-append_so (given_now after) (settled after).held,
    )
counts_called before one (inr (none, flushed)) few =
    omega (
      arith,
      ap (λ (l : List Timed). length l) flushed.held,
      length-append_so one.given one.after.held,
      ap (λ (l : List Timed). length l) none,
      flushed.same.2,
    )

counts_calls : (before : Sorting) (calls : List Sorted) → AreCalled before calls
    → before.late + length before.held + length (came_in calls) ≤ 2 ^ 64 - 1
    → let after = last_sorted before calls in
    length (given_in calls) + length after.held + after.late
    ≡ length before.held + length (came_in calls) + before.late
counts_calls before [] called few = omega arith
counts_calls before (one ∷ more) (called, others) few =
    let long = length-append_so one.came (came_in more) in
    let now = counts_called before one called (omega (arith, few, long)) in
    omega (
      arith,
      now,
      long,
      length-append_so one.given (given_in more),
      counts_calls one.after more others (omega (arith, few, now, long)),
    )

pub counts_all : CountsAll
counts_all reorder calls called few = omega (
  arith,
  counts_calls (nothing_sorted reorder) calls called (omega (arith, few)),
)

-- ---- squitters of which none is late

none_left : (xs ys : List Timed) → xs ++ ys ≡ [] → (xs ≡ []) × (ys ≡ [])
none_left [] ys none = (refl, none)
none_left (x ∷ xs) ys none = absurd (omega (arith, ap (λ (l : List Timed). length l) none))

not_late : (one : Timed) (s : Sorting) → late_of one s ≡ [] → is_late one s ≡ false
not_late one s none = by (is_late one s) none
  where
    by : (b : Bool) → (if b then one ∷ [] else []) ≡ [] → b ≡ false
    by true is = absurd (omega (arith, ap (λ (l : List Timed). length l) is))
    by false is = refl

until_both : (moment : ℕ) (xs ys : List Timed) → AllUntil moment xs → AllUntil moment ys → AllUntil moment (xs ++ ys)
until_both moment [] ys first second = second
until_both moment (x ∷ xs) ys first second = (first.0, until_both moment xs ys first.1 second)

until_higher : (low high : ℕ) (xs : List Timed) → low ≤ high → AllUntil low xs → AllUntil high xs
until_higher low high [] fits until = tt
until_higher low high (x ∷ xs) fits until = (omega (arith, fits, until.0), until_higher low high xs fits until.1)

until_last : (low : ℕ) (xs : List Timed) → RiseFrom low xs → (low ≤ last_given low xs) × AllUntil (last_given low xs) xs
until_last low [] rise = (omega arith, tt)
until_last low (x ∷ xs) rise =
    let rest = until_last x.moment xs rise.1 in (omega (arith, rise.0, rest.0), (rest.0, rest.1))

-- behind the squitters that were given before, which are all at or before the last timestamp given
in_order : (before : List Timed) (s : Sorting) (came : List Timed) → AllUntil s.given before → RiseFrom s.given s.held
    → late_all s came ≡ []
    → (before ++ given_all s came) ++ (sorted_all s came).held ≡ put_all (before ++ s.held) came
in_order before s [] until rise none =
    append_assoc before (given_now s) (settled s).held
    ∙ ap (λ l. before ++ l) (gives_the_first s.reorder s.latest s.held)
in_order before s (one ∷ more) until rise none =
    let mid = settled s in
    let now = rise_settled s rise in
    let last = until_last s.given (given_now s) now.0 in
    let all = before ++ given_now s in
    let both : AllUntil mid.given all =
    until_both mid.given before (given_now s) (until_higher s.given mid.given before last.0 until) last.1 in
    let nones = none_left (late_of one mid) (late_all (with_one one mid) more) none in
    let fine = not_late one mid nones.0 in
    let same = held_so one mid fine in
    let next = holding_one one mid in
    let later : mid.given ≤ one.moment = not_lt one.moment mid.given fine in
    let rest = in_order all next more both (rise_in mid.given mid.held one now.1 later)
    (subst (λ (t : Sorting). late_all t more ≡ []) same nones.1) in
    ap (λ (t : Sorting). (before ++ (given_now s ++ given_all t more)) ++ (sorted_all t more).held) same
    ∙ ap (λ l. l ++ (sorted_all next more).held) (sym (append_assoc before (given_now s) (given_all next more)))
    ∙ rest
    ∙ ap (λ l. put_all l more) (sym (put_behind one all mid.held (until_higher mid.given one.moment all later both))
    ∙ ap (put_in one) (append_assoc before (given_now s) mid.held
    ∙ ap (λ l. before ++ l) (gives_the_first s.reorder s.latest s.held)))

pub gives_in_order : GivesInOrder
gives_in_order reorder came none = in_order [] (nothing_sorted reorder) came tt tt none

-- the last timestamp that was given is before the latest one by at least the delay
last_due : (reorder latest given : ℕ) (held : List Timed) → given ≤ latest - reorder
    → last_given given (due_of reorder latest held) ≤ latest - reorder
last_due reorder latest given [] fits = fits
last_due reorder latest given (x ∷ xs) fits =
    by (nat_le (x.moment + reorder) latest) refl (last_due reorder latest x.moment xs)
  where
    by : (b : Bool) → nat_le (x.moment + reorder) latest ≡ b
        → (x.moment ≤ latest - reorder → last_given x.moment (due_of reorder latest xs) ≤ latest - reorder)
        → last_given given (if b then x ∷ due_of reorder latest xs else []) ≤ latest - reorder
    by true is rest = let old : x.moment + reorder ≤ latest = grind (arith, nat_tests, is) in
        rest (omega (arith, old))
    by false is rest = fits

near_is_fine : (s : Sorting) (came : List Timed) → s.given ≤ s.latest - s.reorder → AreNear s.reorder s.latest came
    → late_all s came ≡ []
near_is_fine s [] fits near = refl
near_is_fine s (one ∷ more) fits near =
    let mid = settled s in
    let due : mid.given ≤ s.latest - s.reorder = last_due s.reorder s.latest s.given s.held fits in
    let fine : is_late one mid ≡ false = not_later one.moment mid.given (omega (arith, due, near.0)) in
    let up : mid.given ≤ max s.latest one.moment - s.reorder = omega (arith, due) in
    ap₂ (λ (b : Bool) (t : Sorting). (if b then one ∷ [] else []) ++ late_all t more) fine (held_so one mid fine)
    ∙ near_is_fine (holding_one one mid) more up near.1

pub in_time_is_not_late : InTimeIsNotLate
in_time_is_not_late reorder came near = near_is_fine (nothing_sorted reorder) came (omega arith) near

-- ---- squitters that rise already

put_last : (one : Timed) (held : List Timed) → AllUntil one.moment held → put_in one held ≡ held ++ one ∷ []
put_last one held until = ap (put_in one) (sym (append-nil held)) ∙ put_behind one held [] until

put_rising : (low : ℕ) (held came : List Timed) → AllUntil low held → RiseFrom low came
    → put_all held came ≡ held ++ came
put_rising low held [] until rise = sym (append-nil held)
put_rising low held (x ∷ xs) until rise =
    let below = until_higher low x.moment held rise.0 until in
    ap (λ l. put_all l xs) (put_last x held below)
    ∙ put_rising x.moment (held ++ x ∷ []) xs (until_both x.moment held (x ∷ []) below (omega arith, tt)) rise.1
    ∙ append_assoc held (x ∷ []) xs

pub sorted_rising : (came : List Timed) → RiseFrom 0 came → sorted came ≡ came
sorted_rising came rise = put_rising 0 [] came tt rise

rising_is_near : (low : ℕ) (came : List Timed) → RiseFrom low came → AreNear 0 low came
rising_is_near low [] rise = tt
rising_is_near low (x ∷ xs) rise =
    let last : x.moment ≡ max low x.moment = omega (arith, rise.0) in
    (omega (arith, rise.0), subst (λ n. AreNear 0 n xs) last (rising_is_near x.moment xs rise.1))

pub near_is_rising : (low : ℕ) (came : List Timed) → AreNear 0 low came → RiseFrom low came
near_is_rising low [] near = tt
near_is_rising low (x ∷ xs) near =
    let last : max low x.moment ≡ x.moment = omega (arith, near.0) in
    (omega (arith, near.0), near_is_rising x.moment xs (subst (λ n. AreNear 0 n xs) last near.1))

-- ---- no delay

left_none : (latest : ℕ) (held : List Timed) → AllUntil latest held → left_of 0 latest held ≡ []
left_none latest [] until = refl
left_none latest (x ∷ xs) until =
    let due : nat_le (x.moment + 0) latest ≡ true = grind (arith, nat_tests, until.0) in
    ap (λ b. if b then left_of 0 latest xs else x ∷ xs) due ∙ left_none latest xs until.1

none_held : (s : Sorting) (came : List Timed) → s.reorder ≡ 0 → AllUntil s.latest s.held
    → (sorted_all s came).held ≡ []
none_held s [] zero until = ap (λ r. left_of r s.latest s.held) zero ∙ left_none s.latest s.held until
none_held s (one ∷ more) zero until =
    none_held (with_one one mid) more (reorder_with one mid ∙ zero) (by (is_late one mid))
  where
    mid : Sorting
    mid = settled s

    none : mid.held ≡ []
    none = ap (λ r. left_of r s.latest s.held) zero ∙ left_none s.latest s.held until

    by : (b : Bool) → AllUntil (if b then without_one mid else holding_one one mid).latest
        (if b then without_one mid else holding_one one mid).held
    by true = subst (AllUntil mid.latest) (sym none) tt
    by false = subst (λ h. AllUntil (max mid.latest one.moment) (put_in one h)) (sym none) (omega arith, tt)

pub gives_at_once : GivesAtOnce
gives_at_once came = (
  none,
  λ rise. sym (append-nil (given_all start came)) ∙ ap (λ l. given_all start came ++ l) (sym none)
      ∙ gives_in_order 0 came (in_time_is_not_late 0 came (rising_is_near 0 came rise)) ∙ sorted_rising came rise,
)
  where
    start : Sorting
    start = nothing_sorted 0

    none : (sorted_all start came).held ≡ []
    none = none_held start came refl tt
