-- Orders, step by step.
use Rattle.std.proofs.Common.{◌≡◌, ◌≤◌, ◌<◌, ◌++◌, ◌+◌, ◌-◌, ◌^◌, ◌∙◌, ℕ, Bool, true, false, List, [], ◌∷◌, ap, ap₂}
use Rattle.std.proofs.Common.{append_assoc, arith, drop, if◌then◌else◌, length, min, nat_lt, refl, subst, sym, take}
use Rattle.std.proofs.Common.{get_or, max, eqb, add-one, append-nil, take-add, length-take}
use Rattle.std.proofs.lemmas.List.{drop-drop, take-append-drop, take_more}
use Rattle.std.proofs.lemmas.List.Elements.{filter-append}
use Rattle.std.proofs.lemmas.Bool.Decides.{nat_tests}
use Rattle.std.proofs.Math.Seq.{drop-append_seam}
use Rattle.std.specs.List.{insert}
use Rattle.std.specs.Prelude.{⊤}
use Rattle.sq_feed.specs.declared.message.Timed.{Timed}
use Rattle.sq_feed.specs.Orders.{CountsTheLate, GivesAll, GivesTheFirst, HasFlushed, HasSorted, RiseFrom, Sorting}
use Rattle.sq_feed.specs.Orders.{SortsStably, SortsTheWhole, came_in, count_of, due_of, given_all, given_in, given_now}
use Rattle.sq_feed.specs.Orders.{holding_one, is_due, is_late, last_given, last_sorted, late_all, late_of, left_of}
use Rattle.sq_feed.specs.Orders.{only, place_of, put_all, put_in, settled, sorted_all, with_one, without_one}

-- timestamps that are all at or before this one
abbrev pub AllUntil : ℕ → List Timed → Type 0
AllUntil moment [] = ⊤
AllUntil moment (one ∷ more) = (one.moment ≤ moment) × AllUntil moment more

-- a state in which this timestamp was given last, and these squitters are held
abbrev pub left_as : Sorting → ℕ → List Timed → Sorting
left_as s given held = record s { given = given; held = held }

-- ---- indices

-- the index for a squitter, by its index `k` among the squitters after the first one; if `b`, that first one is later
abbrev step_to : Bool → ℕ → ℕ
step_to b k = if eqb k 0 then (if b then 0 else 1) else k + 1

step_up : (b : Bool) (k : ℕ) → b ≡ false → step_to b k ≡ k + 1
step_up b k is = by (eqb k 0) refl
  where
    by : (c : Bool) → eqb k 0 ≡ c → (if c then (if b then 0 else 1) else k + 1) ≡ k + 1
    by true e = let z : k ≡ 0 = grind (arith, nat_tests, e) in
        ap (λ d. if d then 0 else 1) is ∙ omega (arith, z)
    by false e = refl

step_over : (b : Bool) (k : ℕ) → 0 < k → step_to b k ≡ k + 1
step_over b k some =
    let e : eqb k 0 ≡ false = grind (arith, nat_tests, some) in
    ap (λ c. if c then (if b then 0 else 1) else k + 1) e

later_is : (a b : ℕ) → a < b → nat_lt a b ≡ true
later_is a b less = grind (arith, nat_tests, less)

pub not_later : (a b : ℕ) → b ≤ a → nat_lt a b ≡ false
not_later a b less = grind (arith, nat_tests, less)

lt_le : (a b : ℕ) → nat_lt a b ≡ true → a ≤ b
lt_le a b less = grind (arith, nat_tests, less)

pub not_lt : (a b : ℕ) → nat_lt a b ≡ false → b ≤ a
not_lt a b less = grind (arith, nat_tests, less)

-- a later squitter at the end does not change the index; after one that is not later, the index is the end
pub place_later : (moment : ℕ) (xs : List Timed) (y : Timed) → moment < y.moment
    → place_of moment (xs ++ y ∷ []) ≡ place_of moment xs
place_later moment [] y less = ap (λ b. step_to b 0) (later_is moment y.moment less)
place_later moment (x ∷ xs) y less = ap (step_to (nat_lt moment x.moment)) (place_later moment xs y less)

pub place_here : (moment : ℕ) (xs : List Timed) (y : Timed) → y.moment ≤ moment
    → place_of moment (xs ++ y ∷ []) ≡ length xs + 1
place_here moment [] y less = ap (λ b. step_to b 0) (not_later moment y.moment less)
place_here moment (x ∷ xs) y less =
    ap (step_to (nat_lt moment x.moment)) (place_here moment xs y less)
    ∙ step_over (nat_lt moment x.moment) (length xs + 1) (omega arith)
    ∙ omega arith

-- one step of the search from the end
pub back_later : (moment at : ℕ) (held : List Timed) (any : Timed) → 0 < at → at ≤ length held
    → moment < (get_or held (at - 1) any).moment
    → place_of moment (take at held) ≡ place_of moment (take (at - 1) held)
back_later moment at held any some within less =
    let k = at - 1 in
    let next : k + 1 ≡ at = omega (arith, some) in
    subst (λ (n : ℕ). place_of moment (take n held) ≡ place_of moment (take k held)) next
    (ap (place_of moment) (take_more held k any (omega (arith, some, within)))
    ∙ place_later moment (take k held) (get_or held k any) less)

pub back_here : (moment at : ℕ) (held : List Timed) (any : Timed) → 0 < at → at ≤ length held
    → (get_or held (at - 1) any).moment ≤ moment → place_of moment (take at held) ≡ at
back_here moment at held any some within less =
    let k = at - 1 in
    let next : k + 1 ≡ at = omega (arith, some) in
    let long : length (take k held) + 1 ≡ at = omega (arith, some, within, length-take k held) in
    subst (λ (n : ℕ). place_of moment (take n held) ≡ at) next
    (ap (place_of moment) (take_more held k any (omega (arith, some, within)))
    ∙ place_here moment (take k held) (get_or held k any) less ∙ long)

place_behind : (moment : ℕ) (xs ys : List Timed) → AllUntil moment xs
    → place_of moment (xs ++ ys) ≡ length xs + place_of moment ys
place_behind moment [] ys until = omega arith
place_behind moment (x ∷ xs) ys until =
    let k = place_of moment (xs ++ ys) in
    step_up (nat_lt moment x.moment) k (not_later moment x.moment until.0)
    ∙ omega (arith, place_behind moment xs ys until.1)

insert_more : (x : Timed) (xs : List Timed) (at : ℕ) (one : Timed)
    → insert (x ∷ xs) (at + 1) one ≡ x ∷ insert xs at one
insert_more x xs at one = subst (λ (k : ℕ). insert (x ∷ xs) k one ≡ x ∷ insert xs at one) (sym (add-one at)) refl

insert_behind : (xs ys : List Timed) (k : ℕ) (one : Timed)
    → insert (xs ++ ys) (length xs + k) one ≡ xs ++ insert ys k one
insert_behind [] ys k one = let z : length {A = Timed} [] + k ≡ k = omega arith in ap (λ n. insert ys n one) z
insert_behind (x ∷ xs) ys k one =
    let z : length (x ∷ xs) + k ≡ (length xs + k) + 1 = omega arith in
    ap (λ n. insert (x ∷ (xs ++ ys)) n one) z ∙ insert_more x (xs ++ ys) (length xs + k) one
    ∙ ap (λ l. x ∷ l) (insert_behind xs ys k one)

pub put_behind : (one : Timed) (xs ys : List Timed) → AllUntil one.moment xs
    → put_in one (xs ++ ys) ≡ xs ++ put_in one ys
put_behind one xs ys until =
    ap (λ k. insert (xs ++ ys) k one) (place_behind one.moment xs ys until)
    ∙ insert_behind xs ys (place_of one.moment ys) one

-- the items before an index are dropped, and one is inserted at that index or after it
pub drop_insert : (first at : ℕ) (xs : List Timed) (one : Timed) → first ≤ length xs
    → drop first (insert xs (first + at) one) ≡ insert (drop first xs) at one
drop_insert first at xs one fits =
    let long : length (take first xs) ≡ first = omega (arith, length-take first xs) in
    let rest = take at (drop first xs) ++ one ∷ drop (first + at) xs in
    ap (λ l. drop first (l ++ one ∷ drop (first + at) xs)) (take-add first at xs)
    ∙ ap (drop first) (append_assoc (take first xs) (take at (drop first xs)) (one ∷ drop (first + at) xs))
    ∙ subst (λ (n : ℕ). drop n (take first xs ++ rest) ≡ rest) long (drop-append_seam (take first xs) rest)
    ∙ ap (λ l. take at (drop first xs) ++ one ∷ l) (sym (drop-drop at first xs))

pub held_so : (one : Timed) (s : Sorting) → is_late one s ≡ false → with_one one s ≡ holding_one one s
held_so one s is = ap (λ b. if b then without_one s else holding_one one s) is

-- an index in the list of an order, and after it the index for a squitter
pub put_view : (one : Timed) (old : Sorting) (latest first at : ℕ) (line after : List Timed)
    → is_late one old ≡ false → latest ≡ max old.latest one.moment → drop first line ≡ old.held → first ≤ length line
    → at ≡ place_of one.moment (drop first line) → after ≡ insert line (first + at) one
    → left_as (record old { latest = latest }) old.given (drop first after) ≡ with_one one old
put_view one old latest first at line after fine late held fits place is =
    let puts : drop first after ≡ put_in one old.held =
    ap (drop first) is ∙ drop_insert first at line one fits ∙ ap (λ n. insert (drop first line) n one) place
    ∙ ap (put_in one) held in
    ap₂ (λ (l : ℕ) (h : List Timed). left_as (record old { latest = l }) old.given h) late puts
    ∙ sym (held_so one old fine)

-- ---- steps of an order

pub gives_the_first : GivesTheFirst
gives_the_first reorder latest [] = refl
gives_the_first reorder latest (x ∷ xs) =
    by (is_due reorder latest (x ∷ xs)) (gives_the_first reorder latest xs)
  where
    by : (b : Bool) → due_of reorder latest xs ++ left_of reorder latest xs ≡ xs
        → (if b then x ∷ due_of reorder latest xs else [])
        ++ (if b then left_of reorder latest xs else x ∷ xs) ≡ x ∷ xs
    by true rest = ap (λ l. x ∷ l) rest
    by false rest = refl

none_due : (reorder latest : ℕ) (held : List Timed) → is_due reorder latest held ≡ false
    → (due_of reorder latest held ≡ []) × (left_of reorder latest held ≡ held)
none_due reorder latest [] is = (refl, refl)
none_due reorder latest (x ∷ xs) is = (
  ap (λ b. if b then x ∷ due_of reorder latest xs else []) is,
  ap (λ b. if b then left_of reorder latest xs else x ∷ xs) is,
)

-- no squitter is due
pub settled_none : (s : Sorting) → is_due s.reorder s.latest s.held ≡ false
    → (given_now s ≡ []) × (settled s ≡ s)
settled_none s is =
    let none = none_due s.reorder s.latest s.held is in
    (none.0, ap₂ (λ d h. left_as s (last_given s.given d) h) none.0 none.1)

-- a squitter that comes changes neither the delay nor what was given
pub given_with : (one : Timed) (s : Sorting) → (with_one one s).given ≡ s.given
given_with one s = by (is_late one s)
  where
    by : (b : Bool) → (if b then without_one s else holding_one one s).given ≡ s.given
    by true = refl
    by false = refl

pub reorder_with : (one : Timed) (s : Sorting) → (with_one one s).reorder ≡ s.reorder
reorder_with one s = by (is_late one s)
  where
    by : (b : Bool) → (if b then without_one s else holding_one one s).reorder ≡ s.reorder
    by true = refl
    by false = refl

last-append : (before : ℕ) (xs ys : List Timed) → last_given before (xs ++ ys) ≡ last_given (last_given before xs) ys
last-append before [] ys = refl
last-append before (x ∷ xs) ys = last-append x.moment xs ys

-- no squitter is due, and one more came
pub sorted_put : (old mid : Sorting) (came given : List Timed) (one : Timed)
    → HasSorted old came given mid → is_due mid.reorder mid.latest mid.held ≡ false
    → HasSorted old (came ++ one ∷ []) given (with_one one mid)
sorted_put old mid came given one sorts is =
    let none = settled_none mid is in record {
      gives = λ more. ap (given_all old) (append_assoc came (one ∷ []) more) ∙ sorts.gives (one ∷ more)
          ∙ ap₂ (λ l (s : Sorting). given ++ (l ++ given_all (with_one one s) more)) none.0 none.1;
      leaves = λ more. ap (sorted_all old) (append_assoc came (one ∷ []) more) ∙ sorts.leaves (one ∷ more)
          ∙ ap (λ s. sorted_all (with_one one s) more) none.1;
      last = given_with one mid ∙ sorts.last;
    }

-- the first held squitter is due, and is given
first_given : (s : Sorting) (given : ℕ) (one : Timed) (held more : List Timed)
    → is_due s.reorder s.latest (one ∷ held) ≡ true
    → (given_all (left_as s given (one ∷ held)) more ≡ one ∷ given_all (left_as s one.moment held) more)
    × (sorted_all (left_as s given (one ∷ held)) more ≡ sorted_all (left_as s one.moment held) more)
first_given s given one held more is = by more
  where
    first : due_of s.reorder s.latest (one ∷ held) ≡ one ∷ due_of s.reorder s.latest held
    first = ap (λ b. if b then one ∷ due_of s.reorder s.latest held else []) is

    rest : left_of s.reorder s.latest (one ∷ held) ≡ left_of s.reorder s.latest held
    rest = ap (λ b. if b then left_of s.reorder s.latest held else one ∷ held) is

    same : settled (left_as s given (one ∷ held)) ≡ settled (left_as s one.moment held)
    same = ap₂ (λ d h. left_as s (last_given given d) h) first rest

    by : (more : List Timed)
        → (given_all (left_as s given (one ∷ held)) more ≡ one ∷ given_all (left_as s one.moment held) more)
        × (sorted_all (left_as s given (one ∷ held)) more ≡ sorted_all (left_as s one.moment held) more)
    by [] = (first, same)
    by (next ∷ others) = (
      ap₂ (λ l t. l ++ given_all (with_one next t) others) first same,
      ap (λ t. sorted_all (with_one next t) others) same,
    )

flushed_as : (old new : Sorting) (one : Timed) → HasFlushed old (one ∷ []) new
    → new ≡ left_as old one.moment new.held
flushed_as old new one flushed = λ i. record {
  reorder = flushed.same.0 i;
  latest = flushed.same.1 i;
  given = flushed.last i;
  late = flushed.same.2 i;
  held = new.held;
}

pub sorted_give : (old mid new : Sorting) (came given : List Timed) (one : Timed)
    → HasSorted old came given mid → is_due mid.reorder mid.latest mid.held ≡ true
    → HasFlushed mid (one ∷ []) new
    → HasSorted old came (given ++ one ∷ []) new
sorted_give old mid new came given one sorts is flushed =
    let due : is_due mid.reorder mid.latest (one ∷ new.held) ≡ true =
    subst (λ h. is_due mid.reorder mid.latest h ≡ true) (sym flushed.held) is in
    let was : mid ≡ left_as mid mid.given (one ∷ new.held) = ap (left_as mid mid.given) (sym flushed.held) in
    let now : left_as mid one.moment new.held ≡ new = sym (flushed_as mid new one flushed) in record {
      gives = λ more. sorts.gives more ∙ ap (λ s. given ++ given_all s more) was
          ∙ ap (λ l. given ++ l) (first_given mid mid.given one new.held more due).0
          ∙ ap (λ s. given ++ one ∷ given_all s more) now
          ∙ sym (append_assoc given (one ∷ []) (given_all new more));
      leaves = λ more. sorts.leaves more ∙ ap (λ s. sorted_all s more) was
          ∙ (first_given mid mid.given one new.held more due).1 ∙ ap (λ s. sorted_all s more) now;
      last = flushed.last ∙ sym (last-append old.given given (one ∷ []));
    }

-- none was given
pub flushed_none : (old new : Sorting) → HasFlushed old [] new → new ≡ old
flushed_none old new flushed = λ i. record {
  reorder = flushed.same.0 i;
  latest = flushed.same.1 i;
  given = flushed.last i;
  late = flushed.same.2 i;
  held = flushed.held i;
}

pub flushed_more : (old mid new : Sorting) (given : List Timed) (one : Timed) → HasFlushed old given mid
    → HasFlushed mid (one ∷ []) new → HasFlushed old (given ++ one ∷ []) new
flushed_more old mid new given one x y = record {
  held = append_assoc given (one ∷ []) new.held ∙ ap (λ l. given ++ l) y.held ∙ x.held;
  last = y.last ∙ sym (last-append old.given given (one ∷ []));
  same = (y.same.0 ∙ x.same.0, y.same.1 ∙ x.same.1, y.same.2 ∙ x.same.2);
}

-- ---- counts

count-append : (test : Timed → Bool) (xs ys : List Timed)
    → count_of test (xs ++ ys) ≡ count_of test xs + count_of test ys
count-append test [] ys = omega arith
count-append test (x ∷ xs) ys = grind (arith, count-append test xs ys)

count-put : (test : Timed → Bool) (xs : List Timed) (one : Timed)
    → count_of test (put_in one xs) ≡ count_of test (one ∷ xs)
count-put test xs one =
    let at = place_of one.moment xs in
    count-append test (take at xs) (one ∷ drop at xs)
    ∙ omega (
      arith,
      sym (count-append test (take at xs) (drop at xs))
          ∙ ap (count_of test) (take-append-drop at xs),
    )

count_now : (test : Timed → Bool) (s : Sorting)
    → count_of test (given_now s) + count_of test (settled s).held ≡ count_of test s.held
count_now test s =
    sym (count-append test (given_now s) (settled s).held)
    ∙ ap (count_of test) (gives_the_first s.reorder s.latest s.held)

-- a squitter that comes is held or late
count_one : (test : Timed → Bool) (s : Sorting) (one : Timed)
    → count_of test (with_one one s).held + count_of test (late_of one s) ≡ count_of test (one ∷ s.held)
count_one test s one = by (is_late one s)
  where
    by : (b : Bool) → count_of test (if b then without_one s else holding_one one s).held
        + count_of test (if b then one ∷ [] else []) ≡ count_of test (one ∷ s.held)
    by true = omega arith
    by false = omega (arith, count-put test s.held one)

pub gives_all : GivesAll
gives_all s [] test =
    ap (λ l. count_of test (given_now s ++ l)) (append-nil (settled s).held)
    ∙ ap (count_of test) (gives_the_first s.reorder s.latest s.held ∙ sym (append-nil s.held))
gives_all s (one ∷ more) test =
    let given = given_now s in
    let mid = settled s in
    let next = with_one one mid in
    let rest = given_all next more in
    let held = (sorted_all next more).held in
    let late = late_all next more in
    omega (
      arith,
      count-append test (given ++ rest) (held ++ (late_of one mid ++ late)),
      count-append test given rest,
      count-append test held (late_of one mid ++ late),
      count-append test (late_of one mid) late,
      gives_all next more test,
      count-append test rest (held ++ late),
      count-append test held late,
      count-append test next.held more,
      count-append test s.held (one ∷ more),
      count_one test mid one,
      count_now test s,
    )

pub counts_the_late : CountsTheLate
counts_the_late s [] few = omega (arith, few)
counts_the_late s (one ∷ more) few =
    by (is_late one mid) (counts_the_late (without_one mid) more) (counts_the_late (holding_one one mid) more)
  where
    mid : Sorting
    mid = settled s

    by : (b : Bool)
        → ((without_one mid).late ≤ 2 ^ 64 - 1 → (sorted_all (without_one mid) more).late
        ≡ min ((without_one mid).late + length (late_all (without_one mid) more)) (2 ^ 64 - 1))
        → (mid.late ≤ 2 ^ 64 - 1 → (sorted_all (holding_one one mid) more).late
        ≡ min (mid.late + length (late_all (holding_one one mid) more)) (2 ^ 64 - 1))
        → (sorted_all (if b then without_one mid else holding_one one mid) more).late
        ≡ min (s.late + length ((if b then one ∷ [] else [])
        ++ late_all (if b then without_one mid else holding_one one mid) more)) (2 ^ 64 - 1)
    by true dropped held = let up : min (s.late + 1) (2 ^ 64 - 1) ≤ 2 ^ 64 - 1 = omega arith in
        omega (arith, few, dropped up)
    by false dropped held = omega (arith, held few)

-- after the due squitters are given, no other squitter is due
left_settled : (reorder latest : ℕ) (held : List Timed)
    → (due_of reorder latest (left_of reorder latest held) ≡ [])
    × (left_of reorder latest (left_of reorder latest held) ≡ left_of reorder latest held)
left_settled reorder latest [] = (refl, refl)
left_settled reorder latest (x ∷ xs) =
    by (is_due reorder latest (x ∷ xs)) refl (left_settled reorder latest xs)
  where
    by : (b : Bool) → is_due reorder latest (x ∷ xs) ≡ b
        → (due_of reorder latest (left_of reorder latest xs) ≡ [])
        × (left_of reorder latest (left_of reorder latest xs) ≡ left_of reorder latest xs)
        → (due_of reorder latest (if b then left_of reorder latest xs else x ∷ xs) ≡ [])
        × (left_of reorder latest (if b then left_of reorder latest xs else x ∷ xs)
        ≡ (if b then left_of reorder latest xs else x ∷ xs))
    by true is rest = rest
    by false is rest = none_due reorder latest (x ∷ xs) is

settled_twice : (s : Sorting) → (given_now (settled s) ≡ []) × (settled (settled s) ≡ settled s)
settled_twice s =
    let left = left_settled s.reorder s.latest s.held in (
      left.0,
      ap₂ (λ d h. left_as s (last_given (last_given s.given (given_now s)) d) h) left.0 left.1,
    )

settled_given : (s : Sorting) (more : List Timed)
    → (given_all s more ≡ given_now s ++ given_all (settled s) more)
    × (sorted_all s more ≡ sorted_all (settled s) more)
settled_given s [] =
    let left = settled_twice s in
    (sym (append-nil (given_now s)) ∙ ap (λ l. given_now s ++ l) (sym left.0), sym left.1)
settled_given s (one ∷ more) =
    let left = settled_twice s in (
      ap₂ (λ l t. given_now s ++ (l ++ given_all (with_one one t) more)) (sym left.0) (sym left.1),
      ap (λ t. sorted_all (with_one one t) more) (sym left.1),
    )

-- the last timestamp that was given
pub last_of_all : (s : Sorting) (came : List Timed)
    → (sorted_all s came).given ≡ last_given s.given (given_all s came)
last_of_all s [] = refl
last_of_all s (one ∷ more) =
    let next = with_one one (settled s) in
    last_of_all next more ∙ ap (λ g. last_given g (given_all next more)) (given_with one (settled s))
    ∙ sym (last-append s.given (given_now s) (given_all next more))

-- the squitters that are given, and the state after them
pub sorted_so : (s : Sorting) (came : List Timed) → HasSorted s came (given_all s came) (sorted_all s came)
sorted_so s [] = record {
  gives = λ more. (settled_given s more).0;
  leaves = λ more. (settled_given s more).1;
  last = refl;
}
sorted_so s (one ∷ came) =
    let next = with_one one (settled s) in
    let rest = sorted_so next came in record {
      gives = λ more. ap (λ l. given_now s ++ l) (rest.gives more)
          ∙ sym (append_assoc (given_now s) (given_all next came)
          (given_all (sorted_all next came) more));
      leaves = rest.leaves;
      last = last_of_all s (one ∷ came);
    }

-- squitters came, and no squitter is due any more
pub sorted_end : (old new : Sorting) (came given : List Timed) → HasSorted old came given new
    → is_due new.reorder new.latest new.held ≡ false
    → (given ≡ given_all old came) × (new ≡ sorted_all old came)
sorted_end old new came given sorts is =
    let none = settled_none new is in (
      sym (append-nil given) ∙ ap (λ l. given ++ l) (sym none.0) ∙ sym (sorts.gives [])
          ∙ ap (given_all old) (append-nil came),
      sym none.1 ∙ sym (sorts.leaves []) ∙ ap (sorted_all old) (append-nil came),
    )

-- ---- cuts

pub sorts_the_whole : SortsTheWhole
sorts_the_whole before [] sorts = (sym (gives_the_first before.reorder before.latest before.held), refl)
sorts_the_whole before (one ∷ more) (sorts, others) =
    let came = came_in more in
    let rest = sorts_the_whole one.after more others in (
      append_assoc one.given (given_in more) (last_sorted one.after more).held
          ∙ ap (λ l. one.given ++ l) rest.0
          ∙ sym (append_assoc one.given (given_all one.after came) (sorted_all one.after came).held)
          ∙ ap₂ (λ l (s : Sorting). l ++ s.held) (sym (sorts.gives came)) (sym (sorts.leaves came)),
      rest.1 ∙ ap (λ (s : Sorting). s.late) (sym (sorts.leaves came)),
    )

-- ---- sorted squitters

place_after : (low moment : ℕ) (xs : List Timed) → RiseFrom low xs → 0 < place_of moment xs → low ≤ moment
place_after low moment [] rise some = absurd (omega (arith, some))
place_after low moment (x ∷ xs) rise some =
    let k = place_of moment xs in
    by (nat_lt moment x.moment) (eqb k 0) refl refl some (place_after x.moment moment xs rise.1)
  where
    by : (b c : Bool) → nat_lt moment x.moment ≡ b → eqb (place_of moment xs) 0 ≡ c
        → 0 < (if c then (if b then 0 else 1) else place_of moment xs + 1)
        → (0 < place_of moment xs → x.moment ≤ moment) → low ≤ moment
    by true true e f some rest = absurd (omega (arith, some))
    by false true e f some rest = omega (arith, rise.0, not_lt moment x.moment e)
    by b false e f some rest =
        let more : 0 < place_of moment xs = grind (arith, nat_tests, f) in omega (arith, rise.0, rest more)

pub rise_in : (low : ℕ) (held : List Timed) (one : Timed) → RiseFrom low held → low ≤ one.moment
    → RiseFrom low (put_in one held)
rise_in low [] one rise later = (later, tt)
rise_in low (x ∷ xs) one rise later =
    by (nat_lt one.moment x.moment) (eqb (place_of one.moment xs) 0) refl refl (rise_in x.moment xs one rise.1)
  where
    k : ℕ
    k = place_of one.moment xs

    behind : (at : ℕ) → at ≡ k + 1 → RiseFrom x.moment (put_in one xs) → RiseFrom low (insert (x ∷ xs) at one)
    behind at is rest = subst (λ (n : ℕ). RiseFrom low (insert (x ∷ xs) n one)) (sym is)
        (subst (RiseFrom low) (sym (insert_more x xs k one)) (rise.0, rest))

    by : (b c : Bool) → nat_lt one.moment x.moment ≡ b → eqb k 0 ≡ c
        → (x.moment ≤ one.moment → RiseFrom x.moment (put_in one xs))
        → RiseFrom low (insert (x ∷ xs) (if c then (if b then 0 else 1) else k + 1) one)
    by true true e f rest = (later, (lt_le one.moment x.moment e, rise.1))
    by false true e f rest =
        let z : k ≡ 0 = grind (arith, nat_tests, f) in
        behind 1 (omega (arith, z)) (rest (not_lt one.moment x.moment e))
    by b false e f rest =
        let some : 0 < k = grind (arith, nat_tests, f) in
        behind (k + 1) refl (rest (place_after x.moment one.moment xs rise.1 some))

rise_all : (held came : List Timed) → RiseFrom 0 held → RiseFrom 0 (put_all held came)
rise_all held [] rise = rise
rise_all held (x ∷ xs) rise = rise_all (put_in x held) xs (rise_in 0 held x rise (omega arith))

-- one squitter of another timestamp at the front
only_skips : (moment : ℕ) (x : Timed) (xs : List Timed) → moment < x.moment → only moment (x ∷ xs) ≡ only moment xs
only_skips moment x xs less =
    let e : eqb x.moment moment ≡ false = grind (arith, nat_tests, less) in
    ap (λ b. if b then x ∷ only moment xs else only moment xs) e

-- no squitter from the index on has this timestamp
later_behind : (moment : ℕ) (held : List Timed) → only moment (drop (place_of moment held) held) ≡ []
later_behind moment [] = refl
later_behind moment (x ∷ xs) =
    by (nat_lt moment x.moment) (eqb (place_of moment xs) 0) refl refl (later_behind moment xs)
  where
    k : ℕ
    k = place_of moment xs

    rest_at : (at n : ℕ) → at ≡ n + 1 → drop at (x ∷ xs) ≡ drop n xs
    rest_at at n is = subst (λ (m : ℕ). drop m (x ∷ xs) ≡ drop n xs) (sym (is ∙ add-one n)) refl

    by : (b c : Bool) → nat_lt moment x.moment ≡ b → eqb k 0 ≡ c → only moment (drop k xs) ≡ []
        → only moment (drop (if c then (if b then 0 else 1) else k + 1) (x ∷ xs)) ≡ []
    by true true e f rest =
        let z : k ≡ 0 = grind (arith, nat_tests, f) in
        let less : moment < x.moment = grind (arith, nat_tests, e) in
        only_skips moment x xs less ∙ subst (λ (n : ℕ). only moment (drop n xs) ≡ []) z rest
    by false true e f rest =
        let z : 1 ≡ k + 1 = grind (arith, nat_tests, f) in
        ap (only moment) (rest_at 1 k z) ∙ rest
    by b false e f rest = ap (only moment) (rest_at (k + 1) k refl) ∙ rest

only-append : (moment : ℕ) (xs ys : List Timed) → only moment (xs ++ ys) ≡ only moment xs ++ only moment ys
only-append moment xs ys = filter-append (λ one. eqb one.moment moment) xs ys

only_in : (moment : ℕ) (held : List Timed) (one : Timed)
    → only moment (put_in one held) ≡ only moment held ++ only moment (one ∷ [])
only_in moment held one = by (eqb one.moment moment) refl
  where
    at : ℕ
    at = place_of one.moment held

    front : List Timed
    front = only moment (take at held)

    split : only moment (put_in one held) ≡ front ++ (only moment (one ∷ []) ++ only moment (drop at held))
    split = only-append moment (take at held) (one ∷ drop at held)
        ∙ ap (λ l. front ++ l) (only-append moment (one ∷ []) (drop at held))

    whole : only moment held ≡ front ++ only moment (drop at held)
    whole = ap (only moment) (sym (take-append-drop at held)) ∙ only-append moment (take at held) (drop at held)

    by : (b : Bool) → eqb one.moment moment ≡ b
        → only moment (put_in one held) ≡ only moment held ++ only moment (one ∷ [])
    by true e =
        let same : one.moment ≡ moment = grind (arith, nat_tests, e) in
        let none : only moment (drop at held) ≡ [] =
        subst (λ (m : ℕ). only m (drop (place_of one.moment held) held) ≡ []) same (later_behind one.moment held) in
        split ∙ ap (λ l. front ++ (only moment (one ∷ []) ++ l)) none
        ∙ ap (λ l. front ++ l) (append-nil (only moment (one ∷ [])))
        ∙ ap (λ l. l ++ only moment (one ∷ [])) (sym (whole ∙ ap (λ l. front ++ l) none ∙ append-nil front))
    by false e =
        let none : only moment (one ∷ []) ≡ [] = ap (λ b. if b then one ∷ [] else []) e in
        split ∙ ap (λ l. front ++ (l ++ only moment (drop at held))) none ∙ sym whole
        ∙ sym (ap (λ l. only moment held ++ l) none ∙ append-nil (only moment held))

only_all : (moment : ℕ) (held came : List Timed)
    → only moment (put_all held came) ≡ only moment held ++ only moment came
only_all moment held [] = sym (append-nil (only moment held))
only_all moment held (x ∷ xs) =
    only_all moment (put_in x held) xs
    ∙ ap (λ l. l ++ only moment xs) (only_in moment held x)
    ∙ append_assoc (only moment held) (only moment (x ∷ [])) (only moment xs)
    ∙ ap (λ l. only moment held ++ l) (sym (only-append moment (x ∷ []) xs))

pub sorts_stably : SortsStably
sorts_stably came = (rise_all [] came tt, λ moment. only_all moment [] came)
