-- The entry of an address in a table, by its index.
use Rattle.std.proofs.Common.{◌≡◌, ℕ, zero, suc, ◌+◌, ◌^◌, ◌<◌, ◌≤◌, Bool, true, false, cond, ◌||◌, eqb, List, [], ◌∷◌, ◌++◌, length}
use Rattle.std.proofs.Common.{map, slice_get, position, Option, Some, None, IfSome, is_some, unwrap_or, refl, sym, ap, ◌∙◌, arith}
use Rattle.std.proofs.Common.{subst, get_or, not, take}
use Rattle.std.specs.List.{AllByRecursion, IsDistinct, swap_remove}
use Rattle.std.specs.Map.{keys_of, values_of, lookup}
use Rattle.std.specs.Option.{option_map}
use Rattle.std.specs.Cmp.{nat_eq_equiv}
use Rattle.std.proofs.lemmas.Bool.{false≢true, true≢false, eqb-true, eqb-false, eq-eqb, ne_eqb}
use Rattle.std.proofs.lemmas.List.{length-map, length-append, map-append}
use Rattle.std.proofs.lemmas.List.Quantifiers.{position-Some}
use Rattle.std.proofs.lemmas.Option.{slice_get-map, slice_get_past, get_or_from_slice_get}
use Rattle.std.proofs.Math.Seq.{get_or-append_seam, take-append_seam}
use Rattle.indexmap.specs.IndexMap.{IndexMap, Updates, with_value_at}
use Rattle.indexmap.proofs.CallerLemmas.{index_map_len-with_value_at, keys-with_value_at, updates-with_value_at}
use Rattle.sq_track.specs.Ordered.{IsTied, entries_in, entry_of, has_address, moments_in, others_in, others_than, blank_contact}
use Rattle.sq_track.specs.Ring.{IsEntered, IsLinkedTable, IsOnRound, IsReached, IsRound}
use Rattle.sq_track.specs.Ring.{address_at, addresses_in, after_at, renamed, round}
use Rattle.sq_track.specs.declared.contact.Contact.{Contact}
use Rattle.sq_track.specs.declared.links.Neighbours.{Neighbours}
use Rattle.sq_track.proofs.Lists.Found.{each_weaker, none_is_some, same_some}
use Rattle.sq_track.proofs.Table.ContactLemmas.{distinct-push, one_if, one_unless, put_tied, put_view, removed_tied, removed_view}
use Rattle.sq_track.proofs.Lists.Rings.{all_apart, all_both, all_filter, chain-at, chain-length, chain-next, flip_test}
use Rattle.sq_track.proofs.Lists.Rings.{distinct_indices, has_by_index, has_last, map_renamed, others_by_index, others_than_later}
use Rattle.sq_track.proofs.Lists.Rings.{not_last, others_than_last, renamed_keeps}
use Rattle.sq_track.proofs.Table.LinkLemmas.{front_at, lost, moved_at}
use Rattle.sq_track.proofs.Table.RoundLemmas.{open_round}

abbrev Entries : Type 0
Entries = List (ℕ × Contact)

abbrev Links : Type 0
Links = List Neighbours

-- ---- an index and its address

all_get : (P : ℕ → Type 0) (xs : List ℕ) (i : ℕ) → AllByRecursion P xs → i < length xs → P (get_or xs i 0)
all_get P [] i all lt = absurd (omega (arith, lt))
all_get P (x ∷ xs) zero all lt = all.0
all_get P (x ∷ xs) (suc i) all lt = all_get P xs i all.1 (omega (arith, lt))

distinct_at : (xs : List ℕ) (i j : ℕ) → IsDistinct eqb xs → i < length xs → j < length xs
    → get_or xs i 0 ≡ get_or xs j 0
    → i ≡ j
unfolding IsDistinct
distinct_at [] i j d i_lt j_lt e = absurd (omega (arith, i_lt))
distinct_at (x ∷ xs) zero zero d i_lt j_lt e = refl
distinct_at (x ∷ xs) zero (suc j) d i_lt j_lt e =
    absurd (eqb-false x (get_or xs j 0) (all_get (λ y. eqb x y ≡ false) xs j d.0 (omega (arith, j_lt))) e)
distinct_at (x ∷ xs) (suc i) zero d i_lt j_lt e =
    absurd (eqb-false x (get_or xs i 0) (all_get (λ y. eqb x y ≡ false) xs i d.0 (omega (arith, i_lt))) (sym e))
distinct_at (x ∷ xs) (suc i) (suc j) d i_lt j_lt e =
    ap suc (distinct_at xs i j d.1 (omega (arith, i_lt)) (omega (arith, j_lt)) e)

pub by_address : (es : Entries) (at k : ℕ) → IsDistinct eqb (keys_of es) → at < length es → k < length es
    → eqb (address_at es k) (address_at es at) ≡ eqb k at
by_address es at k d within lt = by (eqb k at) refl
  where
    long : length (keys_of es) ≡ length es
    long = length-map es (λ e. e.0)

    by : (b : Bool) → eqb k at ≡ b → eqb (address_at es k) (address_at es at) ≡ b
    by true e = eq-eqb (address_at es k) (address_at es at) (ap (address_at es) (eqb-true k at e))
    by false e = ne_eqb (address_at es k) (address_at es at)
        (λ same. eqb-false k at e
        (distinct_at (keys_of es) k at d (omega (arith, lt, long)) (omega (arith, within, long)) same))

-- a table has as many links as entries
pub links-length : (es : Entries) (ls : Links) (oldest : ℕ) → IsLinkedTable es ls oldest → length ls ≡ length es
links-length es ls oldest table = omega (
  arith,
  table.tied.long,
  length-map (round ls oldest) (address_at es),
  chain-length (after_at ls) ls oldest,
)

pub view-length : (es : Entries) (ls : Links) (oldest : ℕ) → IsTied es (addresses_in es ls oldest)
    → length (entries_in es (addresses_in es ls oldest)) ≡ length es
view-length es ls oldest tied = length-map (addresses_in es ls oldest) (entry_of es) ∙ sym tied.long

-- each index of a round is within the links
pub below_round : (ls : Links) (oldest : ℕ) → IsRound ls oldest → AllByRecursion (λ k. k < length ls) (round ls oldest)
below_round ls oldest is_round = by ls refl
  where
    by : (xs : Links) → xs ≡ ls → AllByRecursion (λ k. k < length ls) (round ls oldest)
    by [] none = subst (λ l. AllByRecursion (λ k. k < length ls) (round l oldest)) none tt
    by (x ∷ xs) some = chain-at (after_at ls) (λ k. k < length ls) is_round.forward.within ls oldest
        (is_round.within (omega (arith, ap length some)))

-- an index at which an address was found
pub record IsPlace (es : Entries) (ls : Links) (oldest address at : ℕ) : Type 0 where
  pub on_round : IsOnRound ls oldest at
  pub is : address_at es at ≡ address
  pub there : is_some (lookup (eqb address) es) ≡ true
  pub others : others_than address (addresses_in es ls oldest) ≡ map (address_at es) (others_than at (round ls oldest))

pub place : (es : Entries) (ls : Links) (oldest address at : ℕ) → IsLinkedTable es ls oldest
    → IsDistinct eqb (keys_of es) → Some at ≡ position (eqb address) (keys_of es)
    → is_some (lookup (eqb address) es) ≡ true → IsPlace es ls oldest address at
place es ls oldest address at table d is_at found = record {
  on_round = record {
    within = omega (arith, within, long);
    is_round = table.is_round;
    distinct = distinct_indices (address_at es) (round ls oldest) table.tied.distinct;
    known = sym (has_by_index (length ls) (address_at es) at same (round ls oldest) below)
        ∙ ap (λ a. has_address a (addresses_in es ls oldest)) is ∙ sym (table.tied.same address) ∙ found;
  };
  is = is;
  there = found;
  others = ap (λ a. others_than a (addresses_in es ls oldest)) (sym is)
      ∙ others_by_index (length ls) (address_at es) at same (round ls oldest) below;
}
  where
    long : length ls ≡ length es
    long = links-length es ls oldest table

    facts : (at < length (keys_of es)) × (eqb address (get_or (keys_of es) at 0) ≡ true)
        × ((k : ℕ) → k < at → eqb address (get_or (keys_of es) k 0) ≡ false)
    facts = position-Some (eqb address) (keys_of es) at 0 (sym is_at)

    within : at < length es
    within = omega (arith, facts.0, length-map es (λ e. e.0))

    is : address_at es at ≡ address
    is = sym (eqb-true address (address_at es at) facts.1)

    same : (k : ℕ) → k < length ls → eqb (address_at es k) (address_at es at) ≡ eqb k at
    same k lt = by_address es at k d within (omega (arith, lt, long))

    below : AllByRecursion (λ k. k < length ls) (round ls oldest)
    below = below_round ls oldest table.is_round

-- the oldest index is that of its address
pub oldest_place : (es : Entries) (ls : Links) (oldest : ℕ) → IsLinkedTable es ls oldest → IsDistinct eqb (keys_of es)
    → oldest < length es → IsPlace es ls oldest (address_at es oldest) oldest
oldest_place es ls oldest table d lt = record {
  on_round = record {
    within = inside;
    is_round = table.is_round;
    distinct = distinct_indices (address_at es) (round ls oldest) table.tied.distinct;
    known = known;
  };
  is = refl;
  there = table.tied.same (address_at es oldest)
      ∙ has_by_index (length ls) (address_at es) oldest same (round ls oldest) below ∙ known;
  others = others_by_index (length ls) (address_at es) oldest same (round ls oldest) below;
}
  where
    long : length ls ≡ length es
    long = links-length es ls oldest table

    inside : oldest < length ls
    inside = omega (arith, lt, long)

    known : has_address oldest (round ls oldest) ≡ true
    known = let (rest, is_open) = open_round ls oldest (omega (arith, inside)) table.is_round in
        ap (has_address oldest) is_open.is ∙ ap (λ b. b || has_address oldest rest) (eq-eqb oldest oldest refl)

    same : (k : ℕ) → k < length ls → eqb (address_at es k) (address_at es oldest) ≡ eqb k oldest
    same k k_lt = by_address es oldest k d lt (omega (arith, k_lt, long))

    below : AllByRecursion (λ k. k < length ls) (round ls oldest)
    below = below_round ls oldest table.is_round

pub some_entries : (es : Entries) (address newest : ℕ) → slice_get (moments_in es) 0 ≡ Some (address, newest)
    → 0 < length es
some_entries [] address newest at = absurd (false≢true (ap is_some at))
some_entries (e ∷ es) address newest at = omega arith

-- the first address in order is that of the oldest index
pub oldest_first : (es : Entries) (ls : Links) (oldest address newest : ℕ) → IsLinkedTable es ls oldest
    → slice_get (moments_in (entries_in es (addresses_in es ls oldest))) 0 ≡ Some (address, newest)
    → oldest < length es → address_at es oldest ≡ address
oldest_first es ls oldest address newest table at lt =
    let (rest, is_open) = open_round ls oldest (omega (arith, lt, links-length es ls oldest table)) table.is_round in
    let first = ap (λ is. slice_get (moments_in (entries_in es (map (address_at es) is))) 0) (sym is_open.is) ∙ at in
    ap (λ (o : Option (ℕ × ℕ)). (unwrap_or o (0, 0)).0) first

-- ---- the entry of the table at an index

-- the contact at an index of the order
pub seen : (es : Entries) (ls : Links) (oldest index at : ℕ) (r : Option (ℕ × Contact))
    → slice_get (round ls oldest) index ≡ Some at
    → at < length es → r ≡ slice_get es at
    → IfSome r (λ e. lookup (eqb e.0) es ≡ Some e.1)
    → r ≡ slice_get (entries_in es (addresses_in es ls oldest)) index
seen es ls oldest index at None at_is lt r_is found = absurd (lost es at lt r_is)
seen es ls oldest index at (Some e) at_is lt r_is found =
    ap (λ o. Some (e.0, unwrap_or o blank_contact)) (sym found)
    ∙ ap (λ a. Some (entry_of es a)) (sym address)
    ∙ ap (λ o. option_map (entry_of es) (option_map (address_at es) o)) (sym at_is)
    ∙ ap (option_map (entry_of es)) (sym (slice_get-map (address_at es) (round ls oldest) index))
    ∙ sym (slice_get-map (entry_of es) (addresses_in es ls oldest) index)
  where
    address : address_at es at ≡ e.0
    address = get_or_from_slice_get (keys_of es) at e.0 0
        (slice_get-map (λ (e : ℕ × Contact). e.0) es at ∙ ap (option_map (λ (e : ℕ × Contact). e.0)) (sym r_is))

-- the address of an entry, with the timestamp of its newest position
abbrev shown : ℕ × Contact → ℕ × ℕ
shown e = (e.0, e.1.moment)

pub moment_there : (es : Entries) (at : ℕ) (r : Option (ℕ × Contact)) → r ≡ slice_get es at
    → option_map (λ e. (e.0, e.1.moment)) r ≡ slice_get (moments_in es) at
moment_there es at r is = ap (option_map shown) is ∙ sym (slice_get-map shown es at)

pub found_at : (es : Entries) (at : ℕ) (r : Option (ℕ × Contact)) → r ≡ slice_get es at
    → IfSome r (λ e. lookup (eqb e.0) es ≡ Some e.1)
    → IfSome (slice_get es at) (λ e. lookup (eqb e.0) es ≡ Some e.1)
found_at es at r is found = subst (λ o. IfSome o (λ e. lookup (eqb e.0) es ≡ Some e.1)) is found

pub seen_moment : (es : Entries) (ls : Links) (oldest index at : ℕ) → slice_get (round ls oldest) index ≡ Some at
    → at < length es → IfSome (slice_get es at) (λ e. lookup (eqb e.0) es ≡ Some e.1)
    → slice_get (moments_in es) at ≡ slice_get (moments_in (entries_in es (addresses_in es ls oldest))) index
seen_moment es ls oldest index at at_is lt found =
    slice_get-map shown es at
    ∙ ap (option_map shown) (seen es ls oldest index at (slice_get es at) at_is lt refl found)
    ∙ sym (slice_get-map shown (entries_in es (addresses_in es ls oldest)) index)

pub unseen : (es : Entries) (ls : Links) (oldest index : ℕ) → None ≡ slice_get (round ls oldest) index
    → None ≡ slice_get (entries_in es (addresses_in es ls oldest)) index
unseen es ls oldest index none =
    ap (λ o. option_map (entry_of es) (option_map (address_at es) o)) none
    ∙ ap (option_map (entry_of es)) (sym (slice_get-map (address_at es) (round ls oldest) index))
    ∙ sym (slice_get-map (entry_of es) (addresses_in es ls oldest) index)

pub seen_none : (es : Entries) (ls : Links) (oldest index : ℕ) → None ≡ slice_get (round ls oldest) index
    → None ≡ slice_get (moments_in (entries_in es (addresses_in es ls oldest))) index
seen_none es ls oldest index none =
    ap (option_map shown) (unseen es ls oldest index none)
    ∙ sym (slice_get-map shown (entries_in es (addresses_in es ls oldest)) index)

pub seen_first : (es : Entries) (ls : Links) (oldest : ℕ) → IsLinkedTable es ls oldest
    → IfSome (slice_get es oldest) (λ e. lookup (eqb e.0) es ≡ Some e.1)
    → slice_get (moments_in es) oldest ≡ slice_get (moments_in (entries_in es (addresses_in es ls oldest))) 0
seen_first es ls oldest table found = by ls refl
  where
    long : length ls ≡ length es
    long = links-length es ls oldest table

    by : (xs : Links) → xs ≡ ls
        → slice_get (moments_in es) oldest ≡ slice_get (moments_in (entries_in es (addresses_in es ls oldest))) 0
    by [] none =
        slice_get_past (moments_in es) oldest (omega (arith, ap length none, long, length-map es shown))
        ∙ seen_none es ls oldest 0 (ap (λ l. slice_get (round l oldest) 0) none)
    by (x ∷ xs) some = seen_moment es ls oldest 0 oldest (ap (λ l. slice_get (round l oldest) 0) (sym some))
        (omega (arith, table.is_round.within (omega (arith, ap length some)), long)) found

-- the indices of a round in order: the first, the one after an index, and none past the end
pub first_at : (ls : Links) (oldest : ℕ) → 0 < length ls → IsRound ls oldest
    → (slice_get (round ls oldest) 0 ≡ Some oldest) × (oldest < length ls)
first_at ls oldest some is_round =
    let (rest, is_open) = open_round ls oldest some is_round in
    (ap (λ l. slice_get l 0) is_open.is, is_round.within some)

pub next_at : (ls : Links) (oldest k at next : ℕ) → IsRound ls oldest → slice_get (round ls oldest) k ≡ Some at
    → k + 1 < length ls → at < length ls → next ≡ after_at ls at
    → (slice_get (round ls oldest) (k + 1) ≡ Some next) × (next < length ls)
next_at ls oldest k at next is_round here lt within is = (
  ap (slice_get (round ls oldest)) one
      ∙ chain-next (after_at ls) ls oldest k at here (omega (arith, lt))
      ∙ ap Some (sym is),
  subst (λ i. i < length ls) (sym is) (is_round.forward.within at within),
)
  where
    one : k + 1 ≡ suc k
    one = omega arith

pub past_all : (ls : Links) (oldest k : ℕ) → length ls ≤ k → None ≡ slice_get (round ls oldest) k
past_all ls oldest k past =
    sym (slice_get_past (round ls oldest) k (omega (arith, past, chain-length (after_at ls) ls oldest)))

-- ---- after a call

both_at : (es : Entries) (i : ℕ) (v : Contact) → slice_get (values_of es) i ≡ Some v
    → slice_get es i ≡ Some (address_at es i, v)
both_at [] i v at = none_is_some v at
both_at (e ∷ es) zero v at = ap (λ u. Some (e.0, u)) (same_some e.1 v at)
both_at (e ∷ es) (suc i) v at = both_at es i v at

-- the table after a squitter was heard at the index of its address
pub record IsHeardAt (es gs : Entries) (ls ms : Links) (oldest last address : ℕ) (before after : Contact)
    : Type 0 where
  pub was : before ≡ unwrap_or (lookup (eqb address) es) blank_contact
  pub updates : (k : ℕ) → lookup (eqb k) gs ≡ cond (eqb address k) (Some after) (lookup (eqb k) es)
  pub long : length gs ≡ length es + one_unless (is_some (lookup (eqb address) es))
  pub order : addresses_in gs ms last ≡ others_than address (addresses_in es ls oldest) ++ address ∷ []

module _ {S : Type 0} (m n : IndexMap ℕ Contact S) (es : Entries) (ls ks ms : Links) (oldest to last address at : ℕ)
    (before after : Contact) where
  pub heard_at : IsReached address at es m.entries ls ks oldest to
      → slice_get (values_of m.entries) at ≡ Some before
      → n ≡ with_value_at m at after
      → round ms last ≡ others_than at (round ks to) ++ at ∷ []
      → IsHeardAt es n.entries ls ms oldest last address before after
  heard_at reached there is order = record {
    was = ap (λ e. e.1) both;
    updates = λ k.
        ups.0 k ∙ ap (cond (eqb address k) (Some after)) (reached.contacts k)
        ∙ twice (eqb address k) _ (lookup (eqb k) es);
    long = omega (arith, size, reached.long, unless (is_some (lookup (eqb address) es)));
    order = ap (λ keys. map (λ i. get_or keys i 0) (round ms last))
        (ap (λ t. keys_of t.entries) is ∙ keys-with_value_at m at after)
        ∙ ap (map (address_at m.entries)) order
        ∙ map-append (address_at m.entries) (others_than at (round ks to)) (at ∷ [])
        ∙ (λ j. reached.others j ++ ap (λ e. e.0) both j ∷ []);
  }
    where
      size : length n.entries ≡ length m.entries
      size = ap (λ t. length t.entries) is ∙ index_map_len-with_value_at m at after

      both : ◌≡◌ {A = ℕ × Contact} (address_at m.entries at, before)
          (address, unwrap_or (lookup (eqb address) es) blank_contact)
      both = same_some _ _ (sym (both_at m.entries at before there) ∙ reached.entry)

      ups : Updates eqb m n address (Some after)
      ups = subst (λ t. Updates eqb m t address (Some after)) (sym is)
          (updates-with_value_at m at after nat_eq_equiv reached.distinct address before
          (both_at m.entries at before there ∙ ap (λ a. Some (a, before)) (ap (λ e. e.0) both)))

      twice : (b : Bool) (x o : Option Contact) → cond b (Some after) (cond b x o)
          ≡ cond b (Some after) o
      twice true x o = refl
      twice false x o = refl

      unless : (b : Bool) → cond b 0 1 ≡ one_unless b
      unless true = refl
      unless false = refl

pub still_few : (es gs : Entries) (b : Bool) → length gs ≡ length es + one_unless b → length es < 2 ^ 32
    → length gs ≤ 2 ^ 32
still_few es gs true long lt = omega (arith, long, lt)
still_few es gs false long lt = omega (arith, long, lt)

-- ---- an absent address

pub absent_contact : (es : Entries) (address : ℕ) → false ≡ is_some (lookup (eqb address) es)
    → lookup (eqb address) es ≡ None
absent_contact es address none = none_of (lookup (eqb address) es) (sym none)
  where
    none_of : (o : Option Contact) → is_some o ≡ false → o ≡ None
    none_of None e = refl
    none_of (Some x) e = absurd (true≢false e)

others_than_absent : (address : ℕ) (ks : List ℕ) → has_address address ks ≡ false → others_than address ks ≡ ks
others_than_absent address [] none = refl
others_than_absent address (k ∷ ks) none = by (eqb address k) refl (others_than_absent address ks)
  where
    by : (b : Bool) → eqb address k ≡ b → (has_address address ks ≡ false → others_than address ks ≡ ks)
        → others_than address (k ∷ ks) ≡ k ∷ ks
    by true t rest = absurd (true≢false (sym (ap (λ b. b || has_address address ks) t) ∙ none))
    by false t rest = others_than_later address k ks (flip_test address k t)
        ∙ ap (λ l. k ∷ l) (rest (sym (ap (λ b. b || has_address address ks) t) ∙ none))

-- ---- without an address

-- the addresses after an index left the round and its entry left the table
pub left_addresses : (es hs : Entries) (ls ms : Links) (oldest at last to : ℕ) (p : ℕ × Contact)
    → IsOnRound ls oldest at → length ls ≡ last + 1 → length es ≡ last + 1 → hs ≡ swap_remove es at p
    → round ms to ≡ map (renamed at last) (others_than at (round ls oldest))
    → addresses_in hs ms to ≡ map (address_at es) (others_than at (round ls oldest))
left_addresses es hs ls ms oldest at last to p on long size out order =
    ap (map (address_at hs)) order
    ∙ map_renamed (address_at es) (address_at hs) (renamed at last) (λ k. (k < last + 1) × (eqb k at ≡ false))
    (λ k h. renamed_keeps last (address_at es) (address_at hs) at inside keys k h.0 h.1)
    (others_than at (round ls oldest))
    (all_both (λ k. k < last + 1) (λ k. eqb k at ≡ false) (others_than at (round ls oldest))
    (all_filter (λ k. k < last + 1) (λ k. not (eqb k at)) (round ls oldest)
    (subst (λ n. AllByRecursion (λ k. k < n) (round ls oldest)) long (below_round ls oldest on.is_round)))
    (all_apart at (round ls oldest)))
  where
    inside : at < last + 1
    inside = omega (arith, on.within, long)

    keys : (j : ℕ) → j < last → address_at hs j ≡ cond (eqb j at) (address_at es last) (address_at es j)
    keys j lt = ap (λ l. address_at l j) out ∙ moved_at (λ e. e.0) es at j last p (omega (arith, inside, size)) size lt

module _ (es hs : Entries) (ls ms : Links) (oldest to address at : ℕ) (tied : IsTied es (addresses_in es ls oldest))
    (here : IsPlace es ls oldest address at)
    (order : addresses_in hs ms to ≡ map (address_at es) (others_than at (round ls oldest)))
    (long : length hs + 1 ≡ length es)
    (contacts : (k : ℕ) → lookup (eqb k) hs ≡ cond (eqb (address_at es at) k) None (lookup (eqb k) es)) where
  gone : (k : ℕ) → lookup (eqb k) hs ≡ cond (eqb address k) None (lookup (eqb k) es)
  gone k = contacts k ∙ ap (λ a. cond (eqb a k) None (lookup (eqb k) es)) here.is

  pub left_tied : IsTied hs (addresses_in hs ms to)
  left_tied = subst (IsTied hs) (here.others ∙ sym order)
      (removed_tied es (addresses_in es ls oldest) tied address hs gone (omega (arith, long, ap one_if here.there)))

  pub left_view : entries_in hs (addresses_in hs ms to) ≡ others_in address (entries_in es (addresses_in es ls oldest))
  left_view = ap (entries_in hs) (order ∙ sym here.others)
      ∙ removed_view es (addresses_in es ls oldest) tied address hs gone

-- ---- with a new address

map_agree : (f g : ℕ → ℕ) (is : List ℕ) → AllByRecursion (λ k. f k ≡ g k) is → map f is ≡ map g is
map_agree f g [] all = refl
map_agree f g (i ∷ is) all = λ j. all.0 j ∷ map_agree f g is all.1 j

module _ {X : Type 0} (es fs : List X) (e : X) (at : ℕ) (is : at ≡ length es) (grown : fs ≡ es ++ e ∷ []) where
  pub one_longer : length fs ≡ at + 1
  one_longer = omega (arith, is, ap length grown, length-append es (e ∷ []))

  pub front_is : take at fs ≡ es
  front_is = ap (λ n. take n fs) is ∙ ap (take (length es)) grown ∙ take-append_seam es (e ∷ [])

  pub last_is : (f : X → ℕ) → get_or (map f fs) at 0 ≡ f e
  last_is f = ap (λ l. get_or (map f l) at 0) grown
      ∙ ap (λ l. get_or l at 0) (map-append f es (e ∷ []))
      ∙ ap (λ n. get_or (map f es ++ f e ∷ []) n 0) (is ∙ sym (length-map es f))
      ∙ get_or-append_seam (map f es) (f e) [] 0

-- pushing an index that is linked to itself enters it
pub entered : (es : Entries) (ls ms : Links) (l : Neighbours) (oldest at : ℕ) → at ≡ length ls → ms ≡ ls ++ l ∷ []
    → IsLinkedTable es ls oldest → l.after ≡ at → l.before ≡ at → IsEntered ms oldest at
entered es ls ms l oldest at is grown table after before = record {
  last = one_longer ls ms l at is grown;
  is_round = subst (λ x. IsRound x oldest) (sym (front_is ls ms l at is grown)) table.is_round;
  distinct = subst (λ x. IsDistinct eqb (round x oldest)) (sym (front_is ls ms l at is grown))
      (distinct_indices (address_at es) (round ls oldest) table.tied.distinct);
  after = last_is ls ms l at is grown (λ x. x.after) ∙ after;
  before = last_is ls ms l at is grown (λ x. x.before) ∙ before;
}

-- a new entry is the last one
module _ (es fs : Entries) (ls ms : Links) (e : ℕ × Contact) (oldest to at : ℕ) (is : at ≡ length es)
    (grown : fs ≡ es ++ e ∷ []) (table : IsLinkedTable es ls oldest) (absent : lookup (eqb e.0) es ≡ None)
    (order : round ms to ≡ round ls oldest ++ at ∷ []) where
  same : AllByRecursion (λ k. address_at fs k ≡ address_at es k) (round ls oldest)
  same = each_weaker (λ k. k < length ls) (λ k. address_at fs k ≡ address_at es k) (round ls oldest)
      (λ k lt. front_at (λ x. x.0) fs at k (omega (arith, lt, is, links-length es ls oldest table))
      ∙ ap (λ l. address_at l k) (front_is es fs e at is grown)) (below_round ls oldest table.is_round)

  -- the addresses of the old entries
  old_addresses : map (address_at fs) (round ls oldest) ≡ others_than e.0 (addresses_in es ls oldest)
  old_addresses = map_agree (address_at fs) (address_at es) (round ls oldest) same
      ∙ sym (others_than_absent e.0 (addresses_in es ls oldest) (sym (table.tied.same e.0) ∙ ap is_some absent))

  new_addresses : addresses_in fs ms to ≡ others_than e.0 (addresses_in es ls oldest) ++ e.0 ∷ []
  new_addresses =
      ap (map (address_at fs)) order
      ∙ map-append (address_at fs) (round ls oldest) (at ∷ [])
      ∙ (λ j. old_addresses j ++ last_is es fs e at is grown (λ x. x.0) j ∷ [])

  pub new_others : map (address_at fs) (others_than at (round ms to)) ≡ others_than e.0 (addresses_in es ls oldest)
  new_others = ap (λ l. map (address_at fs) (others_than at l)) order
      ∙ ap (map (address_at fs)) (others_than_last at (round ls oldest)
      (each_weaker (λ k. k < length ls) (λ k. eqb k at ≡ false) (round ls oldest)
      (λ k lt. not_last k at (omega (arith, lt, is, links-length es ls oldest table)))
      (below_round ls oldest table.is_round)))
      ∙ old_addresses

  pub new_on_round : length ms ≡ at + 1 → IsRound ms to → IsOnRound ms to at
  new_on_round long is_round = record {
    within = omega (arith, long);
    is_round = is_round;
    distinct = distinct_indices (address_at fs) (round ms to)
        (subst (IsDistinct eqb) (sym new_addresses)
        (distinct-push e.0 es (addresses_in es ls oldest) table.tied.distinct));
    known = ap (has_address at) order ∙ has_last at (round ls oldest);
  }

-- the contacts after an address moved to the end
module _ (es hs : Entries) (ls ms : Links) (oldest to address : ℕ) (contact : Contact)
    (tied : IsTied es (addresses_in es ls oldest))
    (updates : (k : ℕ) → lookup (eqb k) hs ≡ cond (eqb address k) (Some contact) (lookup (eqb k) es))
    (order : addresses_in hs ms to ≡ others_than address (addresses_in es ls oldest) ++ address ∷ []) where
  pub put_at_end : entries_in hs (addresses_in hs ms to)
      ≡ others_in address (entries_in es (addresses_in es ls oldest)) ++ (address, contact) ∷ []
  put_at_end = ap (entries_in hs) order ∙ put_view es (addresses_in es ls oldest) tied address contact hs updates

  pub tied_at_end : (o : Option Contact) → lookup (eqb address) es ≡ o
      → length hs ≡ length es + one_unless (is_some o)
      → IsTied hs (addresses_in hs ms to)
  tied_at_end o is long = subst (IsTied hs) (sym order)
      (put_tied es (addresses_in es ls oldest) tied address contact hs updates
      (subst (λ x. length hs ≡ length es + one_unless (is_some x)) (sym is) long))

-- ---- an address that was found or created

known_contact : (cs : List (ℕ × Contact)) (address k : ℕ) (o : Option Contact) → lookup (eqb address) cs ≡ o
    → is_some o ≡ true → (b : Bool) → eqb address k ≡ b
    → lookup (eqb k) cs ≡ cond b (Some (unwrap_or o blank_contact)) (lookup (eqb k) cs)
known_contact cs address k None is there b e = absurd (false≢true there)
known_contact cs address k (Some c) is there true e = subst (λ j. lookup (eqb j) cs ≡ Some c) (eqb-true address k e) is
known_contact cs address k (Some c) is there false e = refl

pub reached_known : (es : Entries) (ls : Links) (oldest address at : ℕ) → IsLinkedTable es ls oldest
    → IsPlace es ls oldest address at
    → IsDistinct eqb (keys_of es) → slice_get (values_of es) at ≡ lookup (eqb address) es
    → IsReached address at es es ls ls oldest oldest
reached_known es ls oldest address at table here d value = record {
  within = omega (arith, here.on_round.within, links-length es ls oldest table);
  entry = own (lookup (eqb address) es) refl;
  distinct = d;
  on_round = here.on_round;
  others = sym here.others;
  contacts = λ k. known_contact es address k (lookup (eqb address) es) refl here.there (eqb address k) refl;
  long = omega (arith, ap {B = ℕ} (λ b. cond b 0 1) here.there);
}
  where
    own : (o : Option Contact) → lookup (eqb address) es ≡ o
        → slice_get es at ≡ Some (address, unwrap_or (lookup (eqb address) es) blank_contact)
    own None e = absurd (false≢true (sym (ap is_some e) ∙ here.there))
    own (Some c) e = both_at es at c (value ∙ e)
        ∙ ap (λ a. Some (a, c)) here.is
        ∙ ap (λ o. Some (address, unwrap_or o blank_contact)) (sym e)

pub reached_new : (es fs : Entries) (ls ms : Links) (oldest to address at : ℕ) (contact : Contact) → at ≡ length es
    → fs ≡ es ++ (address, contact) ∷ [] → IsLinkedTable es ls oldest
    → lookup (eqb address) es ≡ None
    → ((k : ℕ) → lookup (eqb k) fs ≡ cond (eqb address k) (Some contact) (lookup (eqb k) es))
    → IsDistinct eqb (keys_of fs) → contact ≡ blank_contact
    → length ms ≡ at + 1 → IsRound ms to → round ms to ≡ round ls oldest ++ at ∷ []
    → IsReached address at es fs ls ms oldest to
reached_new es fs ls ms oldest to address at contact is grown table absent updates d blank len is_round order = record {
  within = omega (arith, one_longer es fs (address, contact) at is grown);
  entry = ap (λ l. slice_get l at) grown ∙ ends es at is ∙ ap (λ c. Some (address, c)) (blank ∙ none);
  distinct = d;
  on_round = new_on_round es fs ls ms (address, contact) oldest to at is grown table absent order len is_round;
  others = new_others es fs ls ms (address, contact) oldest to at is grown table absent order;
  contacts = λ k. updates k ∙ ap (λ c. cond (eqb address k) (Some c) (lookup (eqb k) es)) (blank ∙ none);
  long = omega (
    arith,
    one_longer es fs (address, contact) at is grown,
    is,
    ap {B = ℕ} (λ (o : Option Contact). cond (is_some o) 0 1) absent,
  );
}
  where
    none : blank_contact ≡ unwrap_or (lookup (eqb address) es) blank_contact
    none = sym (ap (λ o. unwrap_or o blank_contact) absent)

    ends : (xs : Entries) (i : ℕ) → i ≡ length xs
        → slice_get (xs ++ (address, contact) ∷ []) i ≡ Some (address, contact)
    ends [] zero e = refl
    ends [] (suc i) e = absurd (omega (arith, e))
    ends (x ∷ xs) zero e = absurd (omega (arith, e))
    ends (x ∷ xs) (suc i) e = ends xs i (omega (arith, e))
