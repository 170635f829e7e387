-- Rounds through a table: with an entry moved to the end, with a new entry, and with an entry removed.
use Rattle.std.proofs.Common.{◌≡◌, ℕ, zero, suc, ◌+◌, ◌<◌, Bool, true, false, cond, ◌||◌, eqb, List, [], ◌∷◌, ◌++◌}
use Rattle.std.proofs.Common.{length, map, not, refl, sym, ap, ◌∙◌, arith, subst, get_or, take}
use Rattle.std.specs.List.{AllByRecursion, IsDistinct}
use Rattle.std.proofs.lemmas.Bool.{eqb-true, eqb-false}
use Rattle.std.proofs.lemmas.List.{length-map, length-append}
use Rattle.std.proofs.Common.{◌⊎◌, inl, inr}
use Rattle.sq_track.specs.Ordered.{others_than, has_address}
use Rattle.sq_track.specs.Ring.{round, after_at, before_at, renamed, IsPath, IsPaired, IsRing}
use Rattle.sq_track.specs.Ring.{IsRound, IsOnRound, IsEntered, IsLinking}
use Rattle.sq_track.specs.declared.links.Neighbours.{Neighbours}
use Rattle.sq_track.proofs.Lists.Rings.{IsPairedBut, unlinked, joined, turned, opened, closed, chain-length, chain-at}
use Rattle.sq_track.proofs.Lists.Rings.{paired_more, paired_one, path_same, not_last, renamed_below}
use Rattle.sq_track.proofs.Lists.Rings.{renames, renames_none, renamed_paired, path-renamed}
use Rattle.sq_track.proofs.Lists.Rings.{others_than_last, has_last, all_last, all_both, path-append}
use Rattle.sq_track.proofs.Lists.Rings.{ends_path, others_before_last}
use Rattle.sq_track.proofs.Lists.Found.{each_weaker}
use Rattle.sq_track.proofs.Table.LinkLemmas.{front_at, moved_at}
use Rattle.std.specs.List.{swap_remove}
use Rattle.std.proofs.lemmas.List.{length-take-le}
use Rattle.sq_track.proofs.Lists.Rings.{all_filter, all_apart, distinct_head, others_than_first, others_than_later, flip_test}
use Rattle.sq_track.proofs.Table.ContactLemmas.{length-others, one_if}

abbrev Links : Type 0
Links = List Neighbours

-- a round, opened as a list of indices
pub record IsOpen (ls : Links) (first : ℕ) (rest : List ℕ) : Type 0 where
  pub is : round ls first ≡ first ∷ rest
  pub path : IsPath (after_at ls) first rest first
  pub long : length (first ∷ rest) ≡ length ls
  pub below : AllByRecursion (λ k. k < length ls) (first ∷ rest)

pub open_round : (ls : Links) (oldest : ℕ) → 0 < length ls → IsRound ls oldest
    → (rest : List ℕ) × IsOpen ls oldest rest
open_round ls oldest some is_round =
    let (rest, is, path) =
    opened (after_at ls) ls oldest some is_round.ring in (
      rest,
      record {
        is = is;
        path = path;
        long = ap length (sym is) ∙ chain-length (after_at ls) ls oldest;
        below = subst (AllByRecursion (λ k. k < length ls)) is
            (chain-at (after_at ls) (λ k. k < length ls) is_round.forward.within ls oldest
            (is_round.within some));
      },
    )

pub close_round : (ls : Links) (first : ℕ) (rest : List ℕ) → first < length ls → length (first ∷ rest) ≡ length ls
    → IsPaired (length ls) (after_at ls) (before_at ls) → IsPaired (length ls) (before_at ls) (after_at ls)
    → IsPath (after_at ls) first rest first → IsRound ls first × (round ls first ≡ first ∷ rest)
close_round ls first rest lt long forward backward path = (
  record {
    within = λ some. lt;
    forward = forward;
    backward = backward;
    ring = subst (IsRing (after_at ls)) (sym is) path;
  },
  is,
)
  where
    is : round ls first ≡ first ∷ rest
    is = closed (after_at ls) ls first rest (sym long) path

-- the number of other indices of a round: one less than the whole
others-length : (at : ℕ) (is : List ℕ) → IsDistinct eqb is → has_address at is ≡ true
    → length (others_than at is) + 1 ≡ length is
others-length at is d known = omega (arith, length-others at is d, ap one_if known)

-- the oldest index goes to the end
oldest_last : (ls : Links) (oldest : ℕ) → 0 < length ls → IsRound ls oldest → IsDistinct eqb (round ls oldest)
    → IsRound ls (after_at ls oldest)
    × (round ls (after_at ls oldest) ≡ others_than oldest (round ls oldest) ++ oldest ∷ [])
oldest_last ls oldest some is_round d =
    let (rest, is_open) = open_round ls oldest some is_round in
    let (next, others, made, leads, path) = turned (after_at ls) oldest rest is_open.path in
    let long : length (next ∷ others) ≡ length ls =
    ap length (sym made) ∙ omega (arith, length-append rest (oldest ∷ []), is_open.long) in
    let done = close_round ls next others
    (subst (λ k. k < length ls) leads (is_round.forward.within oldest (is_round.within some))) long
    is_round.forward is_round.backward path in
    let order : round ls next ≡ others_than oldest (round ls oldest) ++ oldest ∷ [] = done.1 ∙ sym made
    ∙ ap (λ l. l ++ oldest ∷ []) (sym (others_than_first oldest rest (subst (IsDistinct eqb) is_open.is d))
    ∙ ap (others_than oldest) (sym is_open.is)) in (
      subst (IsRound ls) (sym leads) done.0,
      ap (round ls) leads ∙ order,
    )

pub last_of_oldest : (ls : Links) (oldest at next : ℕ) → IsOnRound ls oldest at → at ≡ oldest → next ≡ after_at ls at
    → IsRound ls next × (round ls next ≡ others_than at (round ls oldest) ++ at ∷ [])
last_of_oldest ls oldest at next on same leads =
    let done = oldest_last ls oldest (omega (arith, on.within)) on.is_round on.distinct in
    let is : next ≡ after_at ls oldest = leads ∙ ap (after_at ls) same in (
      subst (IsRound ls) (sym is) done.0,
      ap (round ls) is ∙ done.1 ∙ ap (λ i. others_than i (round ls oldest) ++ i ∷ []) (sym same),
    )

-- an entry that leads to the oldest is already last
pub already_last : (ls : Links) (oldest at next : ℕ) → IsOnRound ls oldest at → next ≡ oldest → next ≡ after_at ls at
    → round ls oldest ≡ others_than at (round ls oldest) ++ at ∷ []
already_last ls oldest at next on ends leads =
    let (rest, is_open) = open_round ls oldest (omega (arith, on.within)) on.is_round in
    let back : before_at ls oldest ≡ at =
    ap (before_at ls) (sym ends ∙ leads) ∙ on.is_round.forward.back at on.within in
    let (front, is) = ends_path (after_at ls) (length ls) oldest rest oldest at is_open.path is_open.below
    (λ k lt e. sym (on.is_round.forward.back k lt) ∙ ap (before_at ls) e ∙ back) in
    let whole : round ls oldest ≡ front ++ at ∷ [] = is_open.is ∙ is in
    whole ∙ ap (λ l. l ++ at ∷ []) (sym (ap (others_than at) whole
    ∙ others_than_last at front (others_before_last front at (subst (IsDistinct eqb) whole on.distinct))))

-- the facts about a round in which an entry other than the first is passed over
pub record IsPassed (n at first : ℕ) (rest : List ℕ) (ms : Links) : Type 0 where
  pub forward : IsPairedBut n at (after_at ms) (before_at ms)
  pub backward : IsPairedBut n at (before_at ms) (after_at ms)
  pub path : IsPath (after_at ms) first (others_than at rest) first

pub passed : (ls ms : Links) (at first : ℕ) (rest : List ℕ) → at < length ls → first < length ls
    → IsPaired (length ls) (after_at ls) (before_at ls) → IsPaired (length ls) (before_at ls) (after_at ls)
    → eqb first at ≡ false → has_address at rest ≡ true → IsPath (after_at ls) first rest first
    → IsLinking (before_at ls at) (after_at ls at) ls ms
    → IsPassed (length ls) at first rest ms
passed ls ms at first rest within lt forward backward apart known path link =
    let three =
    unlinked (length ls) (after_at ls) (before_at ls) forward backward at first rest (after_at ms) (before_at ms)
    within lt apart known path link.after link.before in
    record { forward = three.0; backward = three.1; path = three.2 }

either_within : (n i j : ℕ) (b : Bool) → i < n → j < n → cond b i j < n
either_within n i j true l r = l
either_within n i j false l r = r

-- after an entry is passed over, each link still leads to an index below the number of links
pub before_within : (ls ms : Links) (at k : ℕ) → at < length ls → k < length ls
    → IsPaired (length ls) (before_at ls) (after_at ls)
    → IsLinking (before_at ls at) (after_at ls at) ls ms → before_at ms k < length ms
before_within ls ms at k within lt backward over =
    omega (
      arith,
      over.long,
      subst (λ j. j < length ls) (sym (over.before k))
          (either_within (length ls) (before_at ls at) (before_at ls k) (eqb k (after_at ls at))
          (backward.within at within)
          (backward.within k lt)),
    )

pub after_within : (ls ms : Links) (at k : ℕ) → at < length ls → k < length ls
    → IsPaired (length ls) (after_at ls) (before_at ls)
    → IsLinking (before_at ls at) (after_at ls at) ls ms → after_at ms k < length ms
after_within ls ms at k within lt forward over =
    omega (
      arith,
      over.long,
      subst (λ j. j < length ls) (sym (over.after k))
          (either_within (length ls) (after_at ls at) (after_at ls k) (eqb k (before_at ls at))
          (forward.within at within)
          (forward.within k lt)),
    )

-- an entry that is in no round is inserted before the first
pub put_in : (ls ms ns : Links) (at first : ℕ) (rest : List ℕ) → at < length ls → first < length ls
    → length (first ∷ rest) + 1 ≡ length ls
    → IsPairedBut (length ls) at (after_at ls) (before_at ls) → IsPairedBut (length ls) at (before_at ls) (after_at ls)
    → eqb first at ≡ false → AllByRecursion (λ k. k < length ls) rest
    → AllByRecursion (λ k. eqb k at ≡ false) rest → AllByRecursion (λ k. eqb k first ≡ false) rest
    → IsPath (after_at ls) first rest first
    → IsLinking (before_at ls first) at ls ms → IsLinking at first ms ns
    → IsRound ns first × (round ns first ≡ first ∷ (rest ++ at ∷ []))
put_in ls ms ns at first rest within lt long forward backward apart below others elsewhere path one two =
    let same : length ns ≡ length ls = two.long ∙ one.long in
    let three =
    joined (length ls) at (after_at ls) (before_at ls) forward backward first rest (after_at ns) (before_at ns)
    within lt apart below others elsewhere path
    (λ k. two.after k ∙ ap (λ j. cond (eqb k at) first j) (one.after k))
    (λ k. two.before k ∙ ap (λ j. cond (eqb k first) at j) (one.before k)) in
    close_round ns first (rest ++ at ∷ []) (omega (arith, lt, same))
    (omega (arith, long, same, length-append rest (at ∷ [])))
    (subst (λ n. IsPaired n (after_at ns) (before_at ns)) (sym same) three.0)
    (subst (λ n. IsPaired n (before_at ns) (after_at ns)) (sym same) three.1) three.2

-- an entry that is not the oldest goes to the end
pub last_of_other : (ls ms ns os : Links) (oldest at : ℕ) → IsOnRound ls oldest at → eqb at oldest ≡ false
    → IsLinking (before_at ls at) (after_at ls at) ls ms
    → IsLinking (before_at ms oldest) at ms ns → IsLinking at oldest ns os
    → IsRound os oldest × (round os oldest ≡ others_than at (round ls oldest) ++ at ∷ [])
last_of_other ls ms ns os oldest at on apart over one two =
    let some : 0 < length ls = omega (arith, on.within) in
    let (rest, is_open) = open_round ls oldest some on.is_round in
    let lt : oldest < length ls = on.is_round.within some in
    let differ : eqb oldest at ≡ false = flip_test at oldest apart in
    let there : has_address at rest ≡ true =
    ap (λ b. b || has_address at rest) (sym apart) ∙ ap (has_address at) (sym is_open.is) ∙ on.known in
    let distinct : IsDistinct eqb (oldest ∷ rest) = subst (IsDistinct eqb) is_open.is on.distinct in
    let off =
    passed ls ms at oldest rest on.within lt on.is_round.forward on.is_round.backward differ there is_open.path over in
    let same : length ms ≡ length ls = over.long in
    let left : others_than at (round ls oldest) ≡ oldest ∷ others_than at rest =
    ap (others_than at) is_open.is ∙ others_than_later at oldest rest differ in
    let count : length (others_than at (round ls oldest)) + 1 ≡ length (round ls oldest) =
    others-length at (round ls oldest) on.distinct on.known in
    let done = put_in ms ns os at oldest (others_than at rest) (omega (arith, on.within, same))
    (omega (arith, lt, same))
    (omega (arith, ap length left, count, ap length is_open.is, is_open.long, same))
    (subst (λ n. IsPairedBut n at (after_at ms) (before_at ms)) (sym same) off.forward)
    (subst (λ n. IsPairedBut n at (before_at ms) (after_at ms)) (sym same) off.backward) differ
    (subst (λ n. AllByRecursion (λ k. k < n) (others_than at rest)) (sym same)
    (all_filter (λ k. k < length ls) (λ k. not (eqb k at)) rest is_open.below.1))
    (all_apart at rest)
    (all_filter (λ k. eqb k oldest ≡ false) (λ k. not (eqb k at)) rest (distinct_head oldest rest distinct))
    off.path one two in
    (done.0, done.1 ∙ ap (λ l. l ++ at ∷ []) (sym left))

-- ---- a new entry goes to the end

pub last_of_one : (ls : Links) (oldest at : ℕ) → IsEntered ls oldest at → at ≡ 0
    → IsRound ls at × (round ls at ≡ round (take at ls) oldest ++ at ∷ [])
last_of_one ls oldest at new first =
    let done = close_round ls at [] (omega (arith, new.last)) (omega (arith, new.last, first))
    (paired_one (length ls) at (after_at ls) (before_at ls) new.last first new.after new.before)
    (paired_one (length ls) at (before_at ls) (after_at ls) new.last first new.before new.after) new.after in
    (done.0, done.1 ∙ ap (λ n. round (take n ls) oldest ++ at ∷ []) (sym first))

pub newest_of_front : (ls : Links) (oldest at : ℕ) → IsEntered ls oldest at → (at ≡ 0 → ⊥)
    → before_at ls oldest < length ls
newest_of_front ls oldest at new more =
    let front : length (take at ls) ≡ at = length-take-le at ls (omega (arith, new.last)) in
    let lt : oldest < length (take at ls) = new.is_round.within (omega (arith, front, more)) in
    let bound : before_at (take at ls) oldest < length (take at ls) = new.is_round.backward.within oldest lt in
    subst (λ i. i < length ls) (sym (front_at (λ l. l.before) ls at oldest (omega (arith, front, lt))))
    (omega (arith, bound, front, new.last))

pub last_of_new : (ls ns os : Links) (oldest at : ℕ) → IsEntered ls oldest at → (at ≡ 0 → ⊥)
    → IsLinking (before_at ls oldest) at ls ns → IsLinking at oldest ns os
    → IsRound os oldest × (round os oldest ≡ round (take at ls) oldest ++ at ∷ [])
last_of_new ls ns os oldest at new more one two =
    let long = new.last in
    let front : length (take at ls) ≡ at = length-take-le at ls (omega (arith, long)) in
    let some : 0 < length (take at ls) = omega (arith, front, more) in
    let (rest, is_open) = open_round (take at ls) oldest some new.is_round in
    let lt : oldest < at = omega (arith, front, new.is_round.within some) in
    let below : AllByRecursion (λ k. k < at) rest =
    subst (λ n. AllByRecursion (λ k. k < n) rest) front is_open.below.1 in
    let forward : IsPairedBut (at + 1) at (after_at ls) (before_at ls) =
    paired_more at (after_at (take at ls)) (before_at (take at ls)) (after_at ls) (before_at ls)
    (subst (λ n. IsPaired n (after_at (take at ls)) (before_at (take at ls))) front new.is_round.forward)
    (λ k k_lt. front_at (λ l. l.after) ls at k k_lt) (λ k k_lt. front_at (λ l. l.before) ls at k k_lt) in
    let backward : IsPairedBut (at + 1) at (before_at ls) (after_at ls) =
    paired_more at (before_at (take at ls)) (after_at (take at ls)) (before_at ls) (after_at ls)
    (subst (λ n. IsPaired n (before_at (take at ls)) (after_at (take at ls))) front new.is_round.backward)
    (λ k k_lt. front_at (λ l. l.before) ls at k k_lt) (λ k k_lt. front_at (λ l. l.after) ls at k k_lt) in
    let done = put_in ls ns os at oldest rest (omega (arith, long)) (omega (arith, long, lt))
    (omega (arith, long, front, is_open.long))
    (subst (λ n. IsPairedBut n at (after_at ls) (before_at ls)) (sym long) forward)
    (subst (λ n. IsPairedBut n at (before_at ls) (after_at ls)) (sym long) backward)
    (not_last oldest at lt)
    (each_weaker (λ k. k < at) (λ k. k < length ls) rest (λ k k_lt. omega (arith, k_lt, long)) below)
    (each_weaker (λ k. k < at) (λ k. eqb k at ≡ false) rest (λ k k_lt. not_last k at k_lt) below)
    (distinct_head oldest rest (subst (IsDistinct eqb) is_open.is new.distinct))
    (path_same at (after_at (take at ls)) (after_at ls) (λ k k_lt. front_at (λ l. l.after) ls at k k_lt) oldest rest
    oldest lt
    below is_open.path) one two in
    (done.0, done.1 ∙ ap (λ l. l ++ at ∷ []) (sym is_open.is))

-- ---- an entry is removed

-- a round that begins at another index than the removed one
pub record IsStart (ls : Links) (oldest at first : ℕ) (rest : List ℕ) : Type 0 where
  pub path : IsPath (after_at ls) first rest first
  pub apart : eqb first at ≡ false
  pub known : has_address at rest ≡ true
  pub below : AllByRecursion (λ k. k < length ls) (first ∷ rest)
  pub left : others_than at (round ls oldest) ≡ first ∷ others_than at rest

start_at_next : (ls : Links) (oldest : ℕ) (rest : List ℕ) → 1 < length ls → IsDistinct eqb (oldest ∷ rest)
    → IsOpen ls oldest rest → (others : List ℕ) × IsStart ls oldest oldest (after_at ls oldest) others
start_at_next ls oldest [] more d is_open = absurd (omega (arith, more, is_open.long))
start_at_next ls oldest (i ∷ is) more d is_open =
    let apart = distinct_head oldest (i ∷ is) d in (
      is ++ oldest ∷ [],
      subst (λ k. IsStart ls oldest oldest k (is ++ oldest ∷ [])) (sym is_open.path.0) (record {
        path = path-append (after_at ls) i is oldest i is_open.path.1 is_open.path.0;
        apart = apart.0;
        known = has_last oldest is;
        below = (is_open.below.1.0, all_last (λ k. k < length ls) is oldest is_open.below.1.1 is_open.below.0);
        left = ap (others_than oldest) is_open.is ∙ others_than_first oldest (i ∷ is) d
            ∙ ap (λ l. i ∷ l) (sym (others_than_last oldest is apart.1));
      }),
    )

start : (ls : Links) (oldest at first : ℕ) → 1 < length ls → IsOnRound ls oldest at
    → first ≡ cond (eqb oldest at) (after_at ls at) oldest
    → (rest : List ℕ) × IsStart ls oldest at first rest
start ls oldest at first more on is = by (eqb oldest at) refl
  where
    by : (b : Bool) → eqb oldest at ≡ b → (rest : List ℕ) × IsStart ls oldest at first rest
    by true e =
        let (rest, is_open) = open_round ls oldest (omega (arith, more)) on.is_round in
        let same : oldest ≡ at = eqb-true oldest at e in
        let (others, begun) =
        start_at_next ls oldest rest more (subst (IsDistinct eqb) is_open.is on.distinct) is_open in (
          others,
          subst (λ k. IsStart ls oldest k first others) same
              (subst (λ k. IsStart ls oldest oldest k others)
              (sym (is ∙ ap (λ b. cond b (after_at ls at) oldest) e ∙ ap (after_at ls) (sym same))) begun),
        )
    by false e =
        let (rest, is_open) = open_round ls oldest (omega (arith, more)) on.is_round in (
          rest,
          subst (λ k. IsStart ls oldest at k rest) (sym (is ∙ ap (λ b. cond b (after_at ls at) oldest) e)) (record {
            path = is_open.path;
            apart = e;
            known = ap (λ b. b || has_address at rest) (sym (flip_test oldest at e))
                ∙ ap (has_address at) (sym is_open.is)
                ∙ on.known;
            below = is_open.below;
            left = ap (others_than at) is_open.is ∙ others_than_later at oldest rest e;
          }),
        )

-- the links after the last entry took another's place
pub record IsMoved (at last : ℕ) (ls ms : Links) : Type 0 where
  pub after : (k : ℕ) → k < last + 1 → eqb k at ≡ false
      → after_at ms (renamed at last k) ≡ renamed at last (after_at ls k)
  pub before : (k : ℕ) → k < last + 1 → eqb k at ≡ false
      → before_at ms (renamed at last k) ≡ renamed at last (before_at ls k)

pub moved_itself : (ls ms : Links) (at last : ℕ) (p : Neighbours) → length ls ≡ last + 1 → at < length ls
    → eqb last at ≡ true
    → IsPairedBut (last + 1) at (after_at ls) (before_at ls) → IsPairedBut (last + 1) at (before_at ls) (after_at ls)
    → ms ≡ swap_remove ls at p → IsMoved at last ls ms
moved_itself ls ms at last p long within same forward backward is = record {
  after = renames_none last (after_at ls) (before_at ls) (after_at ms) at same forward
      (λ j lt. ap (λ ys. get_or (map (λ (l : Neighbours). l.after) ys) j 0) is
      ∙ moved_at (λ l. l.after) ls at j last p within long lt
      ∙ ap (λ b. cond b (after_at ls last) (after_at ls j)) (elsewhere j lt));
  before = renames_none last (before_at ls) (after_at ls) (before_at ms) at same backward
      (λ j lt. ap (λ ys. get_or (map (λ (l : Neighbours). l.before) ys) j 0) is
      ∙ moved_at (λ l. l.before) ls at j last p within long lt
      ∙ ap (λ b. cond b (before_at ls last) (before_at ls j)) (elsewhere j lt));
}
  where
    elsewhere : (j : ℕ) → j < last → eqb j at ≡ false
    elsewhere j lt = subst (λ k. eqb j k ≡ false) (eqb-true last at same) (not_last j last lt)

pub moved_other : (ls mid ns ms : Links) (at last : ℕ) (p : Neighbours) → length ls ≡ last + 1 → at < length ls
    → eqb last at ≡ false
    → IsPairedBut (last + 1) at (after_at ls) (before_at ls) → IsPairedBut (last + 1) at (before_at ls) (after_at ls)
    → IsLinking (before_at ls last) at ls mid → IsLinking at (after_at ls last) mid ns
    → ms ≡ swap_remove ns at p → IsMoved at last ls ms
moved_other ls mid ns ms at last p long within differ forward backward one two is = record {
  after = renames last (after_at ls) (before_at ls) (after_at ns) (after_at ms) at (omega (arith, long, within))
      differ forward
      backward
      (λ j e. two.after j ∙ ap (λ b. cond b (after_at ls last) (after_at mid j)) e ∙ one.after j)
      (λ j lt. ap (λ ys. get_or (map (λ (l : Neighbours). l.after) ys) j 0) is
      ∙ moved_at (λ l. l.after) ns at j last p (omega (arith, within, same)) (same ∙ long) lt);
  before = renames last (before_at ls) (after_at ls) (before_at ns) (before_at ms) at (omega (arith, long, within))
      differ
      backward forward
      (λ j e. two.before j
      ∙ ap (λ y. cond (eqb j (after_at ls last)) at y)
      (one.before j ∙ ap (λ b. cond b (before_at ls last) (before_at ls j)) e))
      (λ j lt. ap (λ ys. get_or (map (λ (l : Neighbours). l.before) ys) j 0) is
      ∙ moved_at (λ l. l.before) ns at j last p (omega (arith, within, same)) (same ∙ long) lt);
}
  where
    same : length ns ≡ length ls
    same = two.long ∙ one.long

no_links : (ls : Links) → length ls ≡ 0 → ls ≡ []
no_links [] none = refl
no_links (l ∷ ls) none = absurd (omega (arith, none))

-- a round of one index is empty without it
left_empty : (ls os : Links) (oldest at last to : ℕ) → length ls ≡ 1 → IsOnRound ls oldest at → length os ≡ 0
    → IsRound os to × (round os to ≡ map (renamed at last) (others_than at (round ls oldest)))
left_empty ls os oldest at last to one on none = (
  subst (λ l. IsRound l to) (sym (no_links os none)) (record {
    within = λ lt. absurd (omega (arith, lt));
    forward = record { within = λ k lt. absurd (omega (arith, lt)); back = λ k lt. absurd (omega (arith, lt)) };
    backward = record { within = λ k lt. absurd (omega (arith, lt)); back = λ k lt. absurd (omega (arith, lt)) };
    ring = tt;
  }),
  ap (λ l. round l to) (no_links os none) ∙ sym (ap (map (renamed at last)) left),
)
  where
    left : others_than at (round ls oldest) ≡ []
    left =
        let some : 0 < length ls = omega (arith, one) in
        let (rest, is_open) = open_round ls oldest some on.is_round in
        let lt : oldest < length ls = on.is_round.within some in
        let same : at ≡ oldest = omega (arith, on.within, lt, one) in
        let all : others_than at (round ls oldest) ≡ rest = ap (λ i. others_than i (round ls oldest)) same
        ∙ ap (others_than oldest) is_open.is
        ∙ others_than_first oldest rest (subst (IsDistinct eqb) is_open.is on.distinct) in
        all ∙ empty rest (omega (arith, is_open.long, one))
      where
        empty : (is : List ℕ) → length is ≡ 0 → is ≡ []
        empty [] none = refl
        empty (i ∷ is) none = absurd (omega (arith, none))

-- the round without an entry, with the last one in its place
left_round : (ls ms os : Links) (oldest at last first : ℕ) (rest : List ℕ) → length ls ≡ last + 1
    → IsOnRound ls oldest at → length (round ls oldest) ≡ length ls
    → IsStart ls oldest at first rest
    → IsPassed (length ls) at first rest ms → IsMoved at last ms os → length os ≡ last
    → IsRound os (renamed at last first)
    × (round os (renamed at last first) ≡ map (renamed at last) (others_than at (round ls oldest)))
left_round ls ms os oldest at last first rest long on whole begun off moved short =
    let inside : at < last + 1 = omega (arith, on.within, long) in
    let forward : IsPairedBut (last + 1) at (after_at ms) (before_at ms) =
    subst (λ n. IsPairedBut n at (after_at ms) (before_at ms)) long off.forward in
    let backward : IsPairedBut (last + 1) at (before_at ms) (after_at ms) =
    subst (λ n. IsPairedBut n at (before_at ms) (after_at ms)) long off.backward in
    let below : AllByRecursion (λ k. k < last + 1) (first ∷ rest) =
    subst (λ n. AllByRecursion (λ k. k < n) (first ∷ rest)) long begun.below in
    let others = others_than at rest in
    let all : AllByRecursion (λ k. (k < last + 1) × (eqb k at ≡ false)) others =
    all_both (λ k. k < last + 1) (λ k. eqb k at ≡ false) others
    (all_filter (λ k. k < last + 1) (λ k. not (eqb k at)) rest below.1) (all_apart at rest) in
    let path : IsPath (after_at os) (renamed at last first) (map (renamed at last) others) (renamed at last first) =
    path-renamed (after_at ms) (after_at os) (renamed at last) (λ k. (k < last + 1) × (eqb k at ≡ false))
    (λ k h. moved.after k h.0 h.1) first others first (below.0, begun.apart) all off.path in
    let count : length (first ∷ others) + 1 ≡ length ls =
    ap (λ l. length l + 1) (sym begun.left) ∙ others-length at (round ls oldest) on.distinct on.known ∙ whole in
    let lt : renamed at last first < last = renamed_below at last first inside below.0 begun.apart in
    let done = close_round os (renamed at last first) (map (renamed at last) others) (omega (arith, lt, short))
    (omega (arith, length-map others (renamed at last), count, long, short))
    (subst (λ n. IsPaired n (after_at os) (before_at os)) (sym short)
    (renamed_paired last (after_at ms) (before_at ms) (after_at os) (before_at os) at inside forward moved.after
    moved.before))
    (subst (λ n. IsPaired n (before_at os) (after_at os)) (sym short)
    (renamed_paired last (before_at ms) (after_at ms) (before_at os) (after_at os) at inside backward moved.before
    moved.after)) path in
    (done.0, done.1 ∙ ap (map (renamed at last)) (sym begun.left))

-- the round after an index was passed over and the last index took its place
pub taken_out : (ls ms ns os : Links) (oldest at last first : ℕ) (p : Neighbours) → length ls ≡ last + 1
    → IsOnRound ls oldest at
    → first ≡ cond (eqb oldest at) (after_at ls at) oldest
    → IsLinking (before_at ls at) (after_at ls at) ls ms
    → (at ≡ last → ns ≡ ms)
    → ((at ≡ last → ⊥)
    → (mid : Links) × IsLinking (before_at ms last) at ms mid × IsLinking at (after_at ms last) mid ns)
    → os ≡ swap_remove ns at p → length os ≡ last
    → IsRound os (renamed at last first)
    × (round os (renamed at last first) ≡ map (renamed at last) (others_than at (round ls oldest)))
taken_out ls ms ns os oldest at last first p long on is over itself other out short = by (nat_cases last)
  where
    within : at < length ls
    within = on.within

    same : length ms ≡ length ls
    same = over.long

    nat_cases : (n : ℕ) → (n ≡ 0) ⊎ (0 < n)
    nat_cases zero = inl refl
    nat_cases (suc n) = inr (omega arith)

    moved : (b : Bool) → eqb last at ≡ b → IsPairedBut (last + 1) at (after_at ms) (before_at ms)
        → IsPairedBut (last + 1) at (before_at ms) (after_at ms) → IsMoved at last ms os
    moved true e forward backward =
        moved_itself ms os at last p (same ∙ long) (omega (arith, within, same)) e forward backward
        (out ∙ ap (λ l. swap_remove l at p) (itself (sym (eqb-true last at e))))
    moved false e forward backward =
        let (mid, one, two) = other (λ s. eqb-false last at e (sym s)) in
        moved_other ms mid ns os at last p (same ∙ long) (omega (arith, within, same)) e forward backward one two out

    by : (last ≡ 0) ⊎ (0 < last) → IsRound os (renamed at last first)
        × (round os (renamed at last first) ≡ map (renamed at last) (others_than at (round ls oldest)))
    by (inl none) =
        left_empty ls os oldest at last (renamed at last first) (omega (arith, long, none)) on (short ∙ none)
    by (inr some) =
        let (rest, begun) = start ls oldest at first (omega (arith, long, some)) on is in
        let off =
        passed ls ms at first rest within begun.below.0 on.is_round.forward on.is_round.backward begun.apart begun.known
        begun.path over in
        left_round ls ms os oldest at last first rest long on (chain-length (after_at ls) ls oldest) begun off
        (moved (eqb last at) refl (subst (λ n. IsPairedBut n at (after_at ms) (before_at ms)) long off.forward)
        (subst (λ n. IsPairedBut n at (before_at ms) (after_at ms)) long off.backward)) short
