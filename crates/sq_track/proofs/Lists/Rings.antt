-- Rings of links.
use Rattle.std.proofs.Common.{◌≡◌, ℕ, zero, suc, ◌+◌, ◌<◌, Bool, true, false, not, cond, ◌||◌, eqb, List, [], ◌∷◌, ◌++◌, length, map}
use Rattle.std.proofs.Common.{filter, slice_get, Some, refl, sym, ap, ◌∙◌, arith, subst}
use Rattle.std.proofs.lemmas.Bool.{true≢false, eqb-true, eqb-false, eq-eqb, ne_eqb}
use Rattle.std.proofs.lemmas.Bool.Decides.{nat_tests}
use Rattle.std.specs.List.{AllByRecursion, IsDistinct}
use Rattle.sq_track.specs.Ordered.{others_than, has_address}
use Rattle.sq_track.specs.Ring.{chain, renamed, IsPath, IsPaired, IsRing}
use Rattle.sq_track.proofs.Lists.Found.{same_some, each_weaker}
use Rattle.sq_track.proofs.Lists.Filters.{filter-cons_yes, filter-cons_no}

-- a path is the chain of its indices
pub chain-path : {X : Type 0} (after : ℕ → ℕ) (x : X) (xs : List X) (from : ℕ) (is : List ℕ) (to : ℕ)
    → length xs ≡ length is → IsPath after from is to → chain after (x ∷ xs) from ≡ from ∷ is
chain-path after x [] from [] to long path = refl
chain-path after x [] from (i ∷ is) to long path = absurd (omega (arith, long))
chain-path after x (y ∷ xs) from [] to long path = absurd (omega (arith, long))
chain-path after x (y ∷ xs) from (i ∷ is) to long path =
    ap (λ k. from ∷ chain after (y ∷ xs) k) path.0
    ∙ ap (λ l. from ∷ l) (chain-path after y xs i is to (omega (arith, long)) path.1)

-- a path, extended by the link from its end
pub path-append : (after : ℕ → ℕ) (from : ℕ) (is : List ℕ) (middle to : ℕ) → IsPath after from is middle
    → after middle ≡ to → IsPath after from (is ++ middle ∷ []) to
path-append after from [] middle to path last = (path, last)
path-append after from (i ∷ is) middle to path last = (path.0, path-append after i is middle to path.1 last)

-- a path without one index, by links that differ only in passing over that index
pub path-skip : (n : ℕ) (after passed : ℕ → ℕ) (out : ℕ)
    → ((k : ℕ) → k < n → after k < n)
    → ((k : ℕ) → k < n → passed k ≡ cond (eqb (after k) out) (after out) (after k))
    → eqb (after out) out ≡ false
    → (from start : ℕ) (is : List ℕ) (to : ℕ) → from < n
    → passed start ≡ cond (eqb (after from) out) (after out) (after from)
    → eqb to out ≡ false → IsPath after from is to → IsPath passed start (others_than out is) to
path-skip n after passed out within passes apart from start [] to lt step ends path =
    step ∙ ap (λ k. cond (eqb k out) (after out) k) path ∙ ap (λ b. cond b (after out) to) ends
path-skip n after passed out within passes apart from start (i ∷ is) to lt step ends path =
    by (eqb i out) refl (λ s e. path-skip n after passed out within passes apart i s is to inside e ends path.1)
  where
    inside : i < n
    inside = subst (λ k. k < n) path.0 (within from lt)

    here : passed start ≡ cond (eqb i out) (after out) i
    here = step ∙ ap (λ k. cond (eqb k out) (after out) k) path.0

    by : (b : Bool) → eqb i out ≡ b
        → ((s : ℕ) → passed s ≡ cond (eqb (after i) out) (after out) (after i)
        → IsPath passed s (others_than out is) to)
        → IsPath passed start (others_than out (i ∷ is)) to
    by true e rest = subst (λ l. IsPath passed start l to) (sym (filter-cons_no (λ k. not (eqb k out)) i is (ap not e)))
        (rest start
        (here ∙ ap (λ b. cond b (after out) i) e ∙ sym (ap (λ b. cond b (after out) (after out)) apart)
        ∙ sym (ap (λ k. cond (eqb (after k) out) (after out) (after k)) (eqb-true i out e))))
    by false e rest = subst (λ l. IsPath passed start l to)
        (sym (filter-cons_yes (λ k. not (eqb k out)) i is (ap not e)))
        (here ∙ ap (λ b. cond b (after out) i) e, rest i (passes i inside))

-- a path with one more index at its end, by links that differ only in that index before `to`
pub path-insert : (n : ℕ) (after longer : ℕ → ℕ) (one to : ℕ)
    → ((k : ℕ) → k < n → eqb k one ≡ false → longer k ≡ cond (eqb (after k) to) one (after k))
    → longer one ≡ to
    → (from : ℕ) (is : List ℕ) → from < n → eqb from one ≡ false
    → AllByRecursion (λ k. k < n) is
    → AllByRecursion (λ k. eqb k one ≡ false) is → AllByRecursion (λ k. eqb k to ≡ false) is
    → IsPath after from is to → IsPath longer from (is ++ one ∷ []) to
path-insert n after longer one to steps last from [] lt apart inside others elsewhere path =
    (steps from lt apart ∙ ap (λ k. cond (eqb k to) one k) path ∙ ap (λ b. cond b one to) (eq-eqb to to refl), last)
path-insert n after longer one to steps last from (i ∷ is) lt apart inside others elsewhere path = (
  steps from lt apart ∙ ap (λ k. cond (eqb k to) one k) path.0 ∙ ap (λ b. cond b one i) elsewhere.0,
  path-insert n after longer one to steps last i is inside.0 others.0 inside.1 others.1 elsewhere.1 path.1,
)

-- a path after its indices are renamed
pub path-renamed : (after renamed name : ℕ → ℕ) (P : ℕ → Type 0) → ((k : ℕ) → P k → renamed (name k) ≡ name (after k))
    → (from : ℕ) (is : List ℕ) (to : ℕ) → P from → AllByRecursion P is → IsPath after from is to
    → IsPath renamed (name from) (map name is) (name to)
path-renamed after renamed name P steps from [] to here all path = steps from here ∙ ap name path
path-renamed after renamed name P steps from (i ∷ is) to here all path =
    (steps from here ∙ ap name path.0, path-renamed after renamed name P steps i is to all.0 all.1 path.1)

-- if the first index has a property and each link keeps it, each index of the chain has it
pub chain-at : {X : Type 0} (after : ℕ → ℕ) (P : ℕ → Type 0) → ((k : ℕ) → P k → P (after k))
    → (xs : List X) (from : ℕ) → P from → AllByRecursion P (chain after xs from)
chain-at after P step [] from here = tt
chain-at after P step (x ∷ xs) from here = (here, chain-at after P step xs (after from) (step from here))

-- two tests that hold in the same cases
same_test : (a b c d : ℕ) → (a ≡ b → c ≡ d) → (c ≡ d → a ≡ b) → eqb a b ≡ eqb c d
same_test a b c d to from = by (eqb a b) refl
  where
    by : (t : Bool) → eqb a b ≡ t → eqb a b ≡ eqb c d
    by true e = e ∙ sym (eq-eqb c d (to (eqb-true a b e)))
    by false e = e ∙ sym (ne_eqb c d (λ same. eqb-false a b e (from same)))

-- the indices below n, except `out`, are paired, and none of them leads to `out`
pub record IsPairedBut (n out : ℕ) (one other : ℕ → ℕ) : Type 0 where
  pub within : (k : ℕ) → k < n → eqb k out ≡ false → one k < n
  pub apart : (k : ℕ) → k < n → eqb k out ≡ false → eqb (one k) out ≡ false
  pub back : (k : ℕ) → k < n → eqb k out ≡ false → other (one k) ≡ k

-- if all are paired, an index that does not lead to itself does not lead back to itself
pub alone_back : (n : ℕ) (one other : ℕ → ℕ) (k : ℕ) → k < n → IsPaired n one other → IsPaired n other one
    → eqb (one k) k ≡ false → eqb (other k) k ≡ false
alone_back n one other k lt to from apart =
    ne_eqb (other k) k (λ e. eqb-false (one k) k apart (ap one (sym e) ∙ from.back k lt))

-- the links that pass over an index
pub passes_over : (n : ℕ) (one other new : ℕ → ℕ) (out k : ℕ) → k < n → out < n → IsPaired n one other
    → IsPaired n other one → new k ≡ cond (eqb k (other out)) (one out) (one k)
    → new k ≡ cond (eqb (one k) out) (one out) (one k)
passes_over n one other new out k lt inside to from e =
    e ∙ ap (λ b. cond b (one out) (one k)) (same_test k (other out) (one k) out
    (λ same. ap one same ∙ from.back out inside) (λ same. sym (to.back k lt) ∙ ap other same))

passed_by : (n : ℕ) (one other : ℕ → ℕ) (out k : ℕ) (b : Bool) → eqb (one k) out ≡ b → k < n → out < n
    → IsPaired n one other
    → eqb (one out) out ≡ false
    → (cond b (one out) (one k) < n) × (eqb (cond b (one out) (one k)) out ≡ false)
passed_by n one other out k true e lt inside to apart = (to.within out inside, apart)
passed_by n one other out k false e lt inside to apart = (to.within k lt, e)

passed_back : (n : ℕ) (one other back : ℕ → ℕ) (out k : ℕ) (b : Bool) → eqb (one k) out ≡ b → k < n → out < n
    → IsPaired n one other → eqb k out ≡ false
    → ((j : ℕ) → j < n → back j ≡ cond (eqb (other j) out) (other out) (other j))
    → back (cond b (one out) (one k)) ≡ k
passed_back n one other back out k true e lt inside to apart is =
    is (one out) (to.within out inside)
    ∙ ap (λ t. cond t (other out) (other (one out))) (eq-eqb (other (one out)) out (to.back out inside))
    ∙ ap other (sym (eqb-true (one k) out e)) ∙ to.back k lt
passed_back n one other back out k false e lt inside to apart is =
    is (one k) (to.within k lt) ∙ ap (λ j. cond (eqb j out) (other out) j) (to.back k lt)
    ∙ ap (λ t. cond t (other out) k) apart

-- links that pass over an index pair the others
pub passed_paired : (n : ℕ) (one other new back : ℕ → ℕ) (out : ℕ) → out < n → IsPaired n one other
    → eqb (one out) out ≡ false
    → ((j : ℕ) → j < n → new j ≡ cond (eqb (one j) out) (one out) (one j))
    → ((j : ℕ) → j < n → back j ≡ cond (eqb (other j) out) (other out) (other j))
    → IsPairedBut n out new back
passed_paired n one other new back out inside to alone new_is back_is = record {
  within = λ k lt apart. subst (λ j. j < n) (sym (new_is k lt))
      (passed_by n one other out k (eqb (one k) out) refl lt inside to alone).0;
  apart = λ k lt apart. ap (λ j. eqb j out) (new_is k lt)
      ∙ (passed_by n one other out k (eqb (one k) out) refl lt inside to alone).1;
  back = λ k lt apart. ap back (new_is k lt)
      ∙ passed_back n one other back out k (eqb (one k) out) refl lt inside to apart back_is;
}

-- ---- an index is inserted before another

-- after `it` is inserted before `to`, other indices that led to `to` lead to `it`, and the rest lead where they did
pub leads_to : (n : ℕ) (one other new : ℕ → ℕ) (it to k : ℕ) → k < n → to < n → eqb k it ≡ false → eqb to it ≡ false
    → IsPairedBut n it one other → IsPairedBut n it other one
    → new k ≡ cond (eqb k it) to (cond (eqb k (other to)) it (one k))
    → new k ≡ cond (eqb (one k) to) it (one k)
leads_to n one other new it to k lt inside apart elsewhere there from e =
    e ∙ ap (λ b. cond b to (cond (eqb k (other to)) it (one k))) apart
    ∙ ap (λ b. cond b it (one k)) (same_test k (other to) (one k) to
    (λ same. ap one same ∙ from.back to inside elsewhere) (λ same. sym (there.back k lt apart) ∙ ap other same))

joined_one : (n : ℕ) (one other back : ℕ → ℕ) (it to k : ℕ) (b : Bool) → eqb (one k) to ≡ b → k < n → it < n → to < n
    → eqb k it ≡ false → eqb to it ≡ false → IsPairedBut n it one other
    → ((j : ℕ) → back j ≡ cond (eqb j to) it (cond (eqb j it) (other to) (other j)))
    → (cond b it (one k) < n) × (back (cond b it (one k)) ≡ k)
joined_one n one other back it to k true e lt within inside apart elsewhere there is = (
  within,
  is it
      ∙ ap (λ t. cond t it (cond (eqb it it) (other to) (other it)))
      (ne_eqb it to (λ s. eqb-false to it elsewhere (sym s)))
      ∙ ap (λ t. cond t (other to) (other it)) (eq-eqb it it refl)
      ∙ ap other (sym (eqb-true (one k) to e)) ∙ there.back k lt apart,
)
joined_one n one other back it to k false e lt within inside apart elsewhere there is = (
  there.within k lt apart,
  is (one k) ∙ ap (λ t. cond t it (cond (eqb (one k) it) (other to) (other (one k)))) e
      ∙ ap (λ t. cond t (other to) (other (one k))) (there.apart k lt apart) ∙ there.back k lt apart,
)

-- all indices are paired forward after an index is joined before another
pub joined_forward : (n : ℕ) (one other new back : ℕ → ℕ) (it to : ℕ) → it < n → to < n → eqb to it ≡ false
    → IsPairedBut n it one other → IsPairedBut n it other one
    → ((j : ℕ) → new j ≡ cond (eqb j it) to (cond (eqb j (other to)) it (one j)))
    → ((j : ℕ) → back j ≡ cond (eqb j to) it (cond (eqb j it) (other to) (other j)))
    → IsPaired n new back
joined_forward n one other new back it to within inside elsewhere there from new_is back_is = record {
  within = λ k lt. (at k lt).0;
  back = λ k lt. (at k lt).1;
}
  where
    at_by : (k : ℕ) → k < n → (b : Bool) → eqb k it ≡ b → (new k < n) × (back (new k) ≡ k)
    at_by k lt true e =
        let is : new k ≡ to = new_is k ∙ ap (λ b. cond b to (cond (eqb k (other to)) it (one k))) e in (
          subst (λ j. j < n) (sym is) inside,
          ap back is ∙ back_is to ∙ ap (λ b. cond b it (cond (eqb to it) (other to) (other to))) (eq-eqb to to refl)
              ∙ sym (eqb-true k it e),
        )
    at_by k lt false e =
        let is : new k ≡ cond (eqb (one k) to) it (one k) =
        leads_to n one other new it to k lt inside e elsewhere there from (new_is k) in
        let two =
        joined_one n one other back it to k (eqb (one k) to) refl lt within inside e elsewhere there back_is in
        (subst (λ j. j < n) (sym is) two.0, ap back is ∙ two.1)

    at : (k : ℕ) → k < n → (new k < n) × (back (new k) ≡ k)
    at k lt = at_by k lt (eqb k it) refl

-- all indices are paired backward after an index is joined before another
pub joined_backward : (n : ℕ) (one other new back : ℕ → ℕ) (it to : ℕ) → it < n → to < n → eqb to it ≡ false
    → IsPairedBut n it one other → IsPairedBut n it other one
    → ((j : ℕ) → new j ≡ cond (eqb j it) to (cond (eqb j (other to)) it (one j)))
    → ((j : ℕ) → back j ≡ cond (eqb j to) it (cond (eqb j it) (other to) (other j)))
    → IsPaired n back new
joined_backward n one other new back it to within inside elsewhere there from new_is back_is = record {
  within = λ k lt. (at k lt).0;
  back = λ k lt. (at k lt).1;
}
  where
    newest : ℕ
    newest = other to

    old : (k : ℕ) → k < n → eqb k to ≡ false → eqb k it ≡ false → (back k < n) × (new (back k) ≡ k)
    old k lt e f =
        let is : back k ≡ other k = back_is k ∙ ap (λ b. cond b it (cond (eqb k it) (other to) (other k))) e
        ∙ ap (λ b. cond b (other to) (other k)) f in
        let differ : eqb (other k) (other to) ≡ false = ne_eqb (other k) (other to)
        (λ s. eqb-false k to e (sym (from.back k lt f) ∙ ap one s ∙ from.back to inside elsewhere)) in (
          subst (λ j. j < n) (sym is) (from.within k lt f),
          ap new is ∙ new_is (other k)
              ∙ ap (λ b. cond b to (cond (eqb (other k) (other to)) it (one (other k)))) (from.apart k lt f)
              ∙ ap (λ b. cond b it (one (other k))) differ ∙ from.back k lt f,
        )

    its : (k : ℕ) → k < n → eqb k to ≡ false → eqb k it ≡ true → (back k < n) × (new (back k) ≡ k)
    its k lt e f =
        let is : back k ≡ other to = back_is k ∙ ap (λ b. cond b it (cond (eqb k it) (other to) (other k))) e
        ∙ ap (λ b. cond b (other to) (other k)) f in (
          subst (λ j. j < n) (sym is) (from.within to inside elsewhere),
          ap new is ∙ new_is (other to)
              ∙ ap (λ b. cond b to (cond (eqb (other to) (other to)) it (one (other to))))
              (from.apart to inside elsewhere)
              ∙ ap (λ b. cond b it (one (other to))) (eq-eqb (other to) (other to) refl) ∙ sym (eqb-true k it f),
        )

    by_it : (k : ℕ) → k < n → eqb k to ≡ false → (b : Bool) → eqb k it ≡ b → (back k < n) × (new (back k) ≡ k)
    by_it k lt e true f = its k lt e f
    by_it k lt e false f = old k lt e f

    by_to : (k : ℕ) → k < n → (b : Bool) → eqb k to ≡ b → (back k < n) × (new (back k) ≡ k)
    by_to k lt true e =
        let is : back k ≡ it = back_is k ∙ ap (λ b. cond b it (cond (eqb k it) (other to) (other k))) e in (
          subst (λ j. j < n) (sym is) within,
          ap new is ∙ new_is it ∙ ap (λ b. cond b to (cond (eqb it (other to)) it (one it))) (eq-eqb it it refl)
              ∙ sym (eqb-true k to e),
        )
    by_to k lt false e = by_it k lt e (eqb k it) refl

    at : (k : ℕ) → k < n → (back k < n) × (new (back k) ≡ k)
    at k lt = by_to k lt (eqb k to) refl

-- ---- the last index takes the name of the removed one

pub below_last : (k last : ℕ) → k < last + 1 → eqb k last ≡ false → k < last
below_last k last lt e = grind (arith, nat_tests, lt, e)

pub not_last : (k last : ℕ) → k < last → eqb k last ≡ false
not_last k last lt = grind (arith, nat_tests, lt)

pub flip_test : (a b : ℕ) → eqb a b ≡ false → eqb b a ≡ false
flip_test a b e = ne_eqb b a (λ s. eqb-false a b e (sym s))

-- after the renaming, the link of each other index leads to the new name of the same index
pub renames : (last : ℕ) (one other two new : ℕ → ℕ) (out : ℕ) → out < last + 1 → eqb last out ≡ false
    → IsPairedBut (last + 1) out one other → IsPairedBut (last + 1) out other one
    → ((j : ℕ) → eqb j out ≡ false → two j ≡ cond (eqb j (other last)) out (one j))
    → ((j : ℕ) → j < last → new j ≡ cond (eqb j out) (two last) (two j))
    → (k : ℕ) → k < last + 1 → eqb k out ≡ false → new (renamed out last k) ≡ renamed out last (one k)
renames last one other two new out inside differ to from two_is new_is k lt apart = by (eqb k last) refl
  where
    leads : (j : ℕ) → j < last + 1 → eqb j out ≡ false → two j ≡ renamed out last (one j)
    leads j below elsewhere = two_is j elsewhere ∙ ap (λ b. cond b out (one j)) (same_test j (other last) (one j) last
        (λ s. ap one s ∙ from.back last (omega arith) differ) (λ s. sym (to.back j below elsewhere) ∙ ap other s))

    by : (b : Bool) → eqb k last ≡ b → new (cond b out k) ≡ renamed out last (one k)
    by true e = new_is out (below_last out last inside (flip_test last out differ))
        ∙ ap (λ b. cond b (two last) (two out)) (eq-eqb out out refl) ∙ leads last (omega arith) differ
        ∙ ap (λ j. renamed out last (one j)) (sym (eqb-true k last e))
    by false e = new_is k (below_last k last lt e) ∙ ap (λ b. cond b (two last) (two k)) apart ∙ leads k lt apart

pub renames_none : (last : ℕ) (one other new : ℕ → ℕ) (out : ℕ) → eqb last out ≡ true
    → IsPairedBut (last + 1) out one other
    → ((j : ℕ) → j < last → new j ≡ one j)
    → (k : ℕ) → k < last + 1 → eqb k out ≡ false → new (renamed out last k) ≡ renamed out last (one k)
renames_none last one other new out same to new_is k lt apart =
    let is : last ≡ out = eqb-true last out same in
    let k_apart : eqb k last ≡ false = ap (eqb k) is ∙ apart in
    let one_apart : eqb (one k) last ≡ false = ap (eqb (one k)) is ∙ to.apart k lt apart in
    ap (λ b. new (cond b out k)) k_apart ∙ new_is k (below_last k last lt k_apart)
    ∙ sym (ap (λ b. cond b out (one k)) one_apart)

-- the name of an index before the renaming
abbrev former : (out last : ℕ) → ℕ → ℕ
former out last k = cond (eqb k out) last k

former_known : (out last k : ℕ) → k < last
    → (former out last k < last + 1) × (eqb (former out last k) out ≡ false)
    × (renamed out last (former out last k) ≡ k)
former_known out last k lt = by (eqb k out) refl
  where
    by : (b : Bool) → eqb k out ≡ b → (cond b last k < last + 1) × (eqb (cond b last k) out ≡ false)
        × (renamed out last (cond b last k) ≡ k)
    by true e = (
      omega arith,
      subst (λ j. eqb last j ≡ false) (eqb-true k out e) (flip_test k last (not_last k last lt)),
      ap (λ b. cond b out last) (eq-eqb last last refl) ∙ sym (eqb-true k out e),
    )
    by false e = (omega (arith, lt), e, ap (λ b. cond b out k) (not_last k last lt))

pub renamed_below : (out last k : ℕ) → out < last + 1 → k < last + 1 → eqb k out ≡ false → renamed out last k < last
renamed_below out last k inside lt apart = by (eqb k last) refl
  where
    by : (b : Bool) → eqb k last ≡ b → cond b out k < last
    by true e =
        below_last out last inside (flip_test last out (subst (λ j. eqb j out ≡ false) (eqb-true k last e) apart))
    by false e = below_last k last lt e

pub renamed_paired : (last : ℕ) (one other new back : ℕ → ℕ) (out : ℕ) → out < last + 1
    → IsPairedBut (last + 1) out one other
    → ((k : ℕ) → k < last + 1 → eqb k out ≡ false → new (renamed out last k) ≡ renamed out last (one k))
    → ((k : ℕ) → k < last + 1 → eqb k out ≡ false → back (renamed out last k) ≡ renamed out last (other k))
    → IsPaired last new back
renamed_paired last one other new back out inside to new_is back_is = record {
  within = λ k lt.
      let f = former_known out last k lt in
      subst (λ j. j < last) (sym (is k lt))
      (renamed_below out last (one (former out last k)) inside (to.within (former out last k) f.0 f.1)
      (to.apart (former out last k) f.0 f.1));
  back = λ k lt.
      let f = former_known out last k lt in
      ap back (is k lt)
      ∙ back_is (one (former out last k)) (to.within (former out last k) f.0 f.1)
      (to.apart (former out last k) f.0 f.1)
      ∙ ap (renamed out last) (to.back (former out last k) f.0 f.1) ∙ f.2;
}
  where
    is : (k : ℕ) → k < last → new k ≡ renamed out last (one (former out last k))
    is k lt =
        let f = former_known out last k lt in
        ap new (sym f.2) ∙ new_is (former out last k) f.0 f.1

-- an index keeps its key under its new name
pub renamed_keeps : {X : Type 0} (last : ℕ) (key new : ℕ → X) (out : ℕ) → out < last + 1
    → ((j : ℕ) → j < last → new j ≡ cond (eqb j out) (key last) (key j))
    → (k : ℕ) → k < last + 1 → eqb k out ≡ false → new (renamed out last k) ≡ key k
renamed_keeps last key new out inside new_is k lt apart = by (eqb k last) refl
  where
    by : (b : Bool) → eqb k last ≡ b → new (cond b out k) ≡ key k
    by true e =
        let same : k ≡ last = eqb-true k last e in
        new_is out (below_last out last inside (flip_test last out (subst (λ j. eqb j out ≡ false) same apart)))
        ∙ ap (λ b. cond b (key last) (key out)) (eq-eqb out out refl) ∙ ap key (sym same)
    by false e = new_is k (below_last k last lt e) ∙ ap (λ b. cond b (key last) (key k)) apart

pub map_renamed : {X : Type 0} (key new : ℕ → X) (name : ℕ → ℕ) (P : ℕ → Type 0)
    → ((k : ℕ) → P k → new (name k) ≡ key k) → (is : List ℕ) → AllByRecursion P is → map new (map name is) ≡ map key is
map_renamed key new name P keeps [] all = refl
map_renamed key new name P keeps (i ∷ is) all =
    (λ j. keeps i all.0 j ∷ map_renamed key new name P keeps is all.1 j)

-- ---- indices and their keys

-- if the keys of indices are distinct, so are the indices
pub distinct_indices : (key : ℕ → ℕ) (is : List ℕ) → IsDistinct eqb (map key is) → IsDistinct eqb is
unfolding IsDistinct
distinct_indices key [] d = tt
distinct_indices key (i ∷ is) d = (apart is d.0, distinct_indices key is d.1)
  where
    apart : (js : List ℕ) → AllByRecursion (λ y. eqb (key i) y ≡ false) (map key js)
        → AllByRecursion (λ j. eqb i j ≡ false) js
    apart [] h = tt
    apart (j ∷ js) h = (ne_eqb i j (λ s. eqb-false (key i) (key j) h.0 (ap key s)), apart js h.1)

-- removing the key of one index removes that index
pub others_by_index : (n : ℕ) (key : ℕ → ℕ) (out : ℕ) → ((k : ℕ) → k < n → eqb (key k) (key out) ≡ eqb k out)
    → (is : List ℕ) → AllByRecursion (λ k. k < n) is → others_than (key out) (map key is) ≡ map key (others_than out is)
others_by_index n key out same [] all = refl
others_by_index n key out same (i ∷ is) all = by (eqb i out) refl (others_by_index n key out same is all.1)
  where
    by : (b : Bool) → eqb i out ≡ b → others_than (key out) (map key is) ≡ map key (others_than out is)
        → others_than (key out) (map key (i ∷ is)) ≡ map key (others_than out (i ∷ is))
    by true e rest =
        filter-cons_no (λ k. not (eqb k (key out))) (key i) (map key is) (ap not (same i all.0 ∙ e)) ∙ rest
        ∙ ap (map key) (sym (filter-cons_no (λ k. not (eqb k out)) i is (ap not e)))
    by false e rest =
        filter-cons_yes (λ k. not (eqb k (key out))) (key i) (map key is) (ap not (same i all.0 ∙ e))
        ∙ ap (λ l. key i ∷ l) rest
        ∙ ap (map key) (sym (filter-cons_yes (λ k. not (eqb k out)) i is (ap not e)))

-- a key is among the keys exactly if its index is among the indices
pub has_by_index : (n : ℕ) (key : ℕ → ℕ) (out : ℕ) → ((k : ℕ) → k < n → eqb (key k) (key out) ≡ eqb k out)
    → (is : List ℕ) → AllByRecursion (λ k. k < n) is → has_address (key out) (map key is) ≡ has_address out is
has_by_index n key out same [] all = refl
has_by_index n key out same (i ∷ is) all =
    (λ j. test j || has_by_index n key out same is all.1 j)
  where
    flip : (a b : ℕ) → eqb a b ≡ eqb b a
    flip a b = same_test a b b a sym sym

    test : eqb (key out) (key i) ≡ eqb out i
    test = flip (key out) (key i) ∙ same i all.0 ∙ flip i out

-- ---- the ring without an index, and with an index before the first

-- an index that leads to itself is not on a path from another
pub never_reached : (n : ℕ) (one other : ℕ → ℕ) (at : ℕ) → IsPaired n one other → other at ≡ at
    → (from : ℕ) (is : List ℕ) (to : ℕ) → from < n → eqb from at ≡ false → IsPath one from is to
    → has_address at is ≡ false
never_reached n one other at to itself from [] end lt apart path = refl
never_reached n one other at to itself from (i ∷ is) end lt apart path =
    let differ : eqb at i ≡ false = ne_eqb at i
    (λ s. eqb-false from at apart (sym (to.back from lt) ∙ ap other (path.0 ∙ sym s) ∙ itself)) in
    ap (λ b. b || has_address at is) differ
    ∙ never_reached n one other at to itself i is end (subst (λ k. k < n) path.0 (to.within from lt))
    (flip_test at i differ)
    path.1

module _ (n : ℕ) (after before : ℕ → ℕ) (forward : IsPaired n after before) (backward : IsPaired n before after) where
  pub unlinked : (at first : ℕ) (rest : List ℕ) (after' before' : ℕ → ℕ) → at < n → first < n → eqb first at ≡ false
      → has_address at rest ≡ true → IsPath after first rest first
      → ((k : ℕ) → after' k ≡ cond (eqb k (before at)) (after at) (after k))
      → ((k : ℕ) → before' k ≡ cond (eqb k (after at)) (before at) (before k))
      → IsPairedBut n at after' before' × IsPairedBut n at before' after'
      × IsPath after' first (others_than at rest) first
  unlinked at first rest after' before' inside lt apart known path after_is before_is = (
    passed_paired n after before after' before' at inside forward alone over under,
    passed_paired n before after before' after' at inside backward alone' under over,
    path-skip n after after' at forward.within over alone first first rest first lt (over first lt) apart path,
  )
    where
      alone' : eqb (before at) at ≡ false
      alone' = ne_eqb (before at) at
          (λ s. true≢false (sym known ∙ never_reached n after before at forward s first rest first lt apart path))

      alone : eqb (after at) at ≡ false
      alone = alone_back n before after at inside backward forward alone'

      over : (k : ℕ) → k < n → after' k ≡ cond (eqb (after k) at) (after at) (after k)
      over k below = passes_over n after before after' at k below inside forward backward (after_is k)

      under : (k : ℕ) → k < n → before' k ≡ cond (eqb (before k) at) (before at) (before k)
      under k below = passes_over n before after before' at k below inside backward forward (before_is k)

module _ (n it : ℕ) (after before : ℕ → ℕ) (forward : IsPairedBut n it after before)
    (backward : IsPairedBut n it before after) where
  pub joined : (first : ℕ) (rest : List ℕ) (after' before' : ℕ → ℕ) → it < n → first < n → eqb first it ≡ false
      → AllByRecursion (λ k. k < n) rest
      → AllByRecursion (λ k. eqb k it ≡ false) rest → AllByRecursion (λ k. eqb k first ≡ false) rest
      → IsPath after first rest first
      → ((k : ℕ) → after' k ≡ cond (eqb k it) first (cond (eqb k (before first)) it (after k)))
      → ((k : ℕ) → before' k ≡ cond (eqb k first) it (cond (eqb k it) (before first) (before k)))
      → IsPaired n after' before' × IsPaired n before' after' × IsPath after' first (rest ++ it ∷ []) first
  joined first rest after' before' inside lt apart below others elsewhere path after_is before_is = (
    joined_forward n after before after' before' it first inside lt apart forward backward after_is before_is,
    joined_backward n after before after' before' it first inside lt apart forward backward after_is before_is,
    path-insert n after after' it first
        (λ k k_lt k_apart. leads_to n after before after' it first k k_lt lt k_apart apart forward backward
        (after_is k))
        (after_is it ∙ ap (λ b. cond b first (cond (eqb it (before first)) it (after it))) (eq-eqb it it refl))
        first rest lt apart below others elsewhere path,
  )

-- the first index of a ring goes to its end
pub turned : (after : ℕ → ℕ) (first : ℕ) (rest : List ℕ) → IsPath after first rest first
    → (next : ℕ) × (others : List ℕ) × (rest ++ first ∷ [] ≡ next ∷ others) × (after first ≡ next)
    × IsPath after next others next
turned after first [] path = (first, [], refl, path, path)
turned after first (i ∷ is) path = (i, is ++ first ∷ [], refl, path.0, path-append after i is first i path.1 path.0)

-- ---- properties of each index

pub all_filter : (P : ℕ → Type 0) (p : ℕ → Bool) (is : List ℕ) → AllByRecursion P is → AllByRecursion P (filter p is)
all_filter P p [] all = tt
all_filter P p (i ∷ is) all = by (p i) refl (all_filter P p is all.1)
  where
    by : (b : Bool) → p i ≡ b → AllByRecursion P (filter p is) → AllByRecursion P (filter p (i ∷ is))
    by true e rest = subst (AllByRecursion P) (sym (filter-cons_yes p i is e)) (all.0, rest)
    by false e rest = subst (AllByRecursion P) (sym (filter-cons_no p i is e)) rest

pub all_apart : (out : ℕ) (is : List ℕ) → AllByRecursion (λ k. eqb k out ≡ false) (others_than out is)
all_apart out [] = tt
all_apart out (i ∷ is) = by (eqb i out) refl (all_apart out is)
  where
    by : (b : Bool) → eqb i out ≡ b → AllByRecursion (λ k. eqb k out ≡ false) (others_than out is)
        → AllByRecursion (λ k. eqb k out ≡ false) (others_than out (i ∷ is))
    by true e rest = subst (AllByRecursion (λ k. eqb k out ≡ false))
        (sym (filter-cons_no (λ k. not (eqb k out)) i is (ap not e))) rest
    by false e rest = subst (AllByRecursion (λ k. eqb k out ≡ false))
        (sym (filter-cons_yes (λ k. not (eqb k out)) i is (ap not e))) (e, rest)

pub all_both : (P Q : ℕ → Type 0) (is : List ℕ) → AllByRecursion P is → AllByRecursion Q is
    → AllByRecursion (λ k. P k × Q k) is
all_both P Q [] ps qs = tt
all_both P Q (i ∷ is) ps qs = ((ps.0, qs.0), all_both P Q is ps.1 qs.1)

-- ---- a chain as a list

pub chain-length : {X : Type 0} (after : ℕ → ℕ) (xs : List X) (from : ℕ) → length (chain after xs from) ≡ length xs
chain-length after [] from = refl
chain-length after (x ∷ xs) from = omega (arith, chain-length after xs (after from))

pub opened : {X : Type 0} (after : ℕ → ℕ) (xs : List X) (from : ℕ) → 0 < length xs → IsRing after (chain after xs from)
    → (rest : List ℕ) × (chain after xs from ≡ from ∷ rest) × IsPath after from rest from
opened after [] from lt ring = absurd (omega (arith, lt))
opened after (x ∷ xs) from lt ring = (chain after xs (after from), refl, ring)

pub closed : {X : Type 0} (after : ℕ → ℕ) (xs : List X) (from : ℕ) (is : List ℕ) → length xs ≡ length (from ∷ is)
    → IsPath after from is from → chain after xs from ≡ from ∷ is
closed after [] from is long path = absurd (omega (arith, long))
closed after (x ∷ xs) from is long path = chain-path after x xs from is from (omega (arith, long)) path

-- each index of a chain, and the one after it
pub chain-next : {X : Type 0} (after : ℕ → ℕ) (xs : List X) (from k i : ℕ) → slice_get (chain after xs from) k ≡ Some i
    → suc k < length xs → slice_get (chain after xs from) (suc k) ≡ Some (after i)
chain-next after [] from k i at lt = absurd (omega (arith, lt))
chain-next after (x ∷ []) from k i at lt = absurd (omega (arith, lt))
chain-next after (x ∷ y ∷ xs) from zero i at lt = ap (λ o. Some (after o)) (same_some from i at)
chain-next after (x ∷ y ∷ xs) from (suc k) i at lt =
    chain-next after (y ∷ xs) (after from) k i at (omega (arith, lt))

pub distinct_head : (i : ℕ) (is : List ℕ) → IsDistinct eqb (i ∷ is) → AllByRecursion (λ k. eqb k i ≡ false) is
unfolding IsDistinct
distinct_head i is d = each_weaker (λ k. eqb i k ≡ false) (λ k. eqb k i ≡ false) is (λ k e. flip_test i k e) d.0

pub others_than_first : (i : ℕ) (is : List ℕ) → IsDistinct eqb (i ∷ is) → others_than i (i ∷ is) ≡ is
unfolding IsDistinct
others_than_first i is d =
    filter-cons_no (λ k. not (eqb k i)) i is (ap not (eq-eqb i i refl)) ∙ apart is (distinct_head i is d)
  where
    apart : (js : List ℕ) → AllByRecursion (λ k. eqb k i ≡ false) js → others_than i js ≡ js
    apart [] all = refl
    apart (j ∷ js) all = filter-cons_yes (λ k. not (eqb k i)) j js (ap not all.0) ∙ ap (λ l. j ∷ l) (apart js all.1)

pub others_than_later : (out i : ℕ) (is : List ℕ) → eqb i out ≡ false
    → others_than out (i ∷ is) ≡ i ∷ others_than out is
others_than_later out i is e = filter-cons_yes (λ k. not (eqb k out)) i is (ap not e)

-- ---- one more index

pub paired_more : (n : ℕ) (one other one' other' : ℕ → ℕ) → IsPaired n one other
    → ((k : ℕ) → k < n → one' k ≡ one k) → ((k : ℕ) → k < n → other' k ≡ other k) → IsPairedBut (n + 1) n one' other'
paired_more n one other one' other' to same same' = record {
  within = λ k lt apart. omega (arith, inside k (below_last k n lt apart));
  apart = λ k lt apart. not_last (one' k) n (inside k (below_last k n lt apart));
  back = λ k lt apart. ap other' (same k (below_last k n lt apart))
      ∙ same' (one k) (to.within k (below_last k n lt apart)) ∙ to.back k (below_last k n lt apart);
}
  where
    inside : (k : ℕ) → k < n → one' k < n
    inside k lt = subst (λ j. j < n) (sym (same k lt)) (to.within k lt)

pub path_same : (n : ℕ) (one one' : ℕ → ℕ) → ((k : ℕ) → k < n → one' k ≡ one k) → (from : ℕ) (is : List ℕ) (to : ℕ)
    → from < n → AllByRecursion (λ k. k < n) is → IsPath one from is to → IsPath one' from is to
path_same n one one' same from [] to lt all path = same from lt ∙ path
path_same n one one' same from (i ∷ is) to lt all path =
    (same from lt ∙ path.0, path_same n one one' same i is to all.0 all.1 path.1)

pub paired_one : (n at : ℕ) (one other : ℕ → ℕ) → n ≡ at + 1 → at ≡ 0 → one at ≡ at → other at ≡ at
    → IsPaired n one other
paired_one n at one other long first leads back = record {
  within = λ k lt. subst (λ j. one j < n) (same k lt) (subst (λ j. j < n) (sym leads) (omega (arith, long)));
  back = λ k lt. subst (λ j. other (one j) ≡ j) (same k lt) (ap other leads ∙ back);
}
  where
    same : (k : ℕ) → k < n → at ≡ k
    same k lt = omega (arith, lt, long, first)

-- ---- the ring, begun at another index

pub others_than_last : (out : ℕ) (is : List ℕ) → AllByRecursion (λ k. eqb k out ≡ false) is
    → others_than out (is ++ out ∷ []) ≡ is
others_than_last out [] all = filter-cons_no (λ k. not (eqb k out)) out [] (ap not (eq-eqb out out refl))
others_than_last out (i ∷ is) all =
    filter-cons_yes (λ k. not (eqb k out)) i (is ++ out ∷ []) (ap not all.0)
    ∙ ap (λ l. i ∷ l) (others_than_last out is all.1)

-- if only one index leads to the end of a path, that index is the last of the path
pub ends_path : (after : ℕ → ℕ) (n from : ℕ) (is : List ℕ) (to last : ℕ) → IsPath after from is to
    → AllByRecursion (λ k. k < n) (from ∷ is) → ((k : ℕ) → k < n → after k ≡ to → k ≡ last)
    → (front : List ℕ) × (from ∷ is ≡ front ++ last ∷ [])
ends_path after n from [] to last path below only = ([], ap (λ i. i ∷ []) (only from below.0 path))
ends_path after n from (i ∷ is) to last path below only =
    let (front, e) = ends_path after n i is to last path.1 below.1 only in
    (from ∷ front, ap (λ l. from ∷ l) e)

-- the indices before the last of a distinct list differ from the last
pub others_before_last : (front : List ℕ) (last : ℕ) → IsDistinct eqb (front ++ last ∷ [])
    → AllByRecursion (λ k. eqb k last ≡ false) front
unfolding IsDistinct
others_before_last [] last d = tt
others_before_last (i ∷ is) last d = (differs is d.0, others_before_last is last d.1)
  where
    differs : (js : List ℕ) → AllByRecursion (λ k. eqb i k ≡ false) (js ++ last ∷ []) → eqb i last ≡ false
    differs [] all = all.0
    differs (j ∷ js) all = differs js all.1

pub has_last : (out : ℕ) (is : List ℕ) → has_address out (is ++ out ∷ []) ≡ true
has_last out [] = ap (λ b. b || false) (eq-eqb out out refl)
has_last out (i ∷ is) = ap (λ b. eqb out i || b) (has_last out is) ∙ or_true (eqb out i)
  where
    or_true : (b : Bool) → (b || true) ≡ true
    or_true true = refl
    or_true false = refl

pub all_last : (P : ℕ → Type 0) (is : List ℕ) (i : ℕ) → AllByRecursion P is → P i → AllByRecursion P (is ++ i ∷ [])
all_last P [] i all here = (here, tt)
all_last P (j ∷ is) i all here = (all.0, all_last P is i all.1 here)
