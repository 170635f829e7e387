-- A tracker holds for an address only what it may: positions of that address, each in its field, and fixes at points
-- of the grid.
use Rattle.std.proofs.Common.{◌≡◌, ℕ, ◌+◌, ◌≤◌, Bool, true, false, ◌&&◌, ◌||◌, eqb, leb, [], ◌∷◌, filter, Option, Some, None}
use Rattle.std.proofs.Common.{IfSome, cond, unwrap_or, refl, sym, ap, ◌∙◌, arith, subst}
use Rattle.std.specs.List.{AllByRecursion}
use Rattle.std.specs.Map.{lookup}
use Rattle.std.proofs.lemmas.Bool.{leb-true, le-leb, eq-eqb, eqb-true, false≢true}
use Rattle.sq_cpr.specs.Span.{Span, air, ground}
use Rattle.sq_zones.specs.declared.parity.Parity.{Parity}
use Rattle.sq_zones.specs.declared.parity.Parity.TheVariants.{Even, Odd}
use Rattle.sq_message.specs.declared.received.Received.{Received}
use Rattle.sq_message.specs.declared.squitter.Me.{Me}
use Rattle.sq_message.specs.declared.squitter.Me.TheVariants as kinds
use Rattle.sq_message.specs.Parts.{squitter_parts}
use Rattle.sq_track.specs.declared.contact.Contact.{Contact}
use Rattle.sq_track.specs.declared.contact.LastFix.{LastFix}
use Rattle.sq_track.specs.declared.contact.Side.{Side}
use Rattle.sq_track.specs.Kept.{contact_with, fix_in, of_other_parity, pair_in, side_with}
use Rattle.sq_track.specs.Replies.{is_position}
use Rattle.sq_track.specs.Ordered.{blank_contact}
use Rattle.sq_track.specs.Entries.{IsOwned, IsWithin, fresh_entry}
use Rattle.sq_track.specs.Owned.{AreFixesPlaced, IfPlaced, IsPlacedFix, are_one_parity, has_frames_of, has_since}
use Rattle.sq_track.specs.Owned.{is_contact_of, is_frame_of, is_position_of, is_present_at, is_side_of, is_since}
use Rattle.sq_track.proofs.Lists.Filters.{filter-cons_yes, filter-cons_no}
use Rattle.sq_track.proofs.Table.EntryLemmas.{Entries}

-- ---- Booleans

pub both : (x y : Bool) → x ≡ true → y ≡ true → (x && y) ≡ true
both true y e f = f
both false y e f = absurd (false≢true e)

pub first : (x y : Bool) → (x && y) ≡ true → x ≡ true
first true y e = refl
first false y e = e

pub second : (x y : Bool) → (x && y) ≡ true → y ≡ true
second true y e = e
second false y e = absurd (false≢true e)

right : (x y : Bool) → y ≡ true → (x || y) ≡ true
right true y e = refl
right false y e = e

left : (x y : Bool) → x ≡ true → (x || y) ≡ true
left true y e = refl
left false y e = absurd (false≢true e)

one_parity : (p : Parity) → are_one_parity p p ≡ true
one_parity Even = refl
one_parity Odd = refl

-- ---- a side, at a later timestamp and with a frame

frame_later : (a n m : ℕ) (in_air : Bool) (p : Parity) (o : Option Received) → n ≤ m → is_frame_of a n in_air p o ≡ true
    → is_frame_of a m in_air p o ≡ true
frame_later a n m in_air p None le e = refl
frame_later a n m in_air p (Some f) le e =
    let old = leb-true f.moment n (first (leb f.moment n) _ e) in
    both (leb f.moment m) _ (le-leb f.moment m (omega (arith, old, le))) (second (leb f.moment n) _ e)

side_later : (a n m : ℕ) (in_air : Bool) (s : Side) → n ≤ m → is_side_of a n in_air s ≡ true
    → is_side_of a m in_air s ≡ true
side_later a n m in_air s le e =
    both (is_frame_of a m in_air Even s.even) _
    (frame_later a n m in_air Even s.even le (first (is_frame_of a n in_air Even s.even) _ e))
    (frame_later a n m in_air Odd s.odd le (second (is_frame_of a n in_air Even s.even) _ e))

-- a frame that was received at or after `k`, and at or before `n`, gives `k` at or before `n`
since_newest : (a n k : ℕ) (in_air : Bool) (p : Parity) (o : Option Received) → is_frame_of a n in_air p o ≡ true
    → is_since k o ≡ true → k ≤ n
since_newest a n k in_air p None e since = absurd (false≢true since)
since_newest a n k in_air p (Some f) e since =
    omega (arith, leb-true k f.moment since, leb-true f.moment n (first (leb f.moment n) _ e))

-- each fix of a side is at or before the newest position
pub fix_no_later : (span : Span) (a n : ℕ) (in_air : Bool) (s : Side) (fix : LastFix) → s.fix ≡ Some fix
    → is_side_of a n in_air s ≡ true → IfPlaced span s s.fix → fix.moment ≤ n
fix_no_later span a n in_air s fix is e placed = by here.0 here.1.frames
  where
    here : (parity : Parity) × IsPlacedFix span parity s fix
    here = subst (IfPlaced span s) is placed

    by : (parity : Parity) → has_frames_of parity fix.moment s ≡ true → fix.moment ≤ n
    by Even f = since_newest a n fix.moment in_air Even s.even (first (is_frame_of a n in_air Even s.even) _ e)
        (first (is_since fix.moment s.even) _ f)
    by Odd f = since_newest a n fix.moment in_air Odd s.odd (second (is_frame_of a n in_air Even s.even) _ e)
        (first (is_since fix.moment s.odd) _ f)

-- a side with a frame of its own address
module _ (a : ℕ) (in_air : Bool) (frame : Received) (fix : Option LastFix)
    (own : (squitter_parts frame.squitter).address ≡ a) where
  frame_here : (p : Parity) → is_position_of in_air p (squitter_parts frame.squitter).me ≡ true
      → is_frame_of a frame.moment in_air p (Some frame) ≡ true
  frame_here p is = both (leb frame.moment frame.moment) _ (le-leb frame.moment frame.moment (omega arith))
      (both (eqb (squitter_parts frame.squitter).address a) _
      (eq-eqb (squitter_parts frame.squitter).address a own) is)

  side_here : (p : Parity) (n : ℕ) (s : Side) → n ≤ frame.moment
      → is_position_of in_air p (squitter_parts frame.squitter).me ≡ true
      → is_side_of a n in_air s ≡ true
      → is_side_of a frame.moment in_air (side_with p frame fix s) ≡ true
  side_here Even n s le is old =
      both (is_frame_of a frame.moment in_air Even (Some frame)) _ (frame_here Even is)
      (frame_later a n frame.moment in_air Odd s.odd le (second (is_frame_of a n in_air Even s.even) _ old))
  side_here Odd n s le is old =
      both (is_frame_of a frame.moment in_air Even s.even) _
      (frame_later a n frame.moment in_air Even s.even le (first (is_frame_of a n in_air Even s.even) _ old))
      (frame_here Odd is)

  newest_here : (p : Parity) (s : Side) → has_since frame.moment (side_with p frame fix s) ≡ true
  newest_here Even s = left (leb frame.moment frame.moment) _ (le-leb frame.moment frame.moment (omega arith))
  newest_here Odd s = right (is_since frame.moment s.even) _ (le-leb frame.moment frame.moment (omega arith))

-- ---- a contact

-- both sides are those of the address, with their fixes placed
abbrev pub AreOwn : (address : ℕ) → Contact → Type 0
AreOwn address c = (is_side_of address c.moment true c.airborne ≡ true)
    × (is_side_of address c.moment false c.surface ≡ true) × AreFixesPlaced c

pub own_blank : (a : ℕ) → AreOwn a blank_contact
own_blank a = (refl, refl, (tt, tt))

pub own_sides : (a : ℕ) (c : Contact) → is_contact_of a c ≡ true → AreFixesPlaced c → AreOwn a c
own_sides a c e placed = (
  first (is_side_of a c.moment true c.airborne) _ e,
  first (is_side_of a c.moment false c.surface) _ (second (is_side_of a c.moment true c.airborne) _ e),
  placed,
)

pub own_with : (a : ℕ) (me : Me) (frame : Received) (fix : Option LastFix) (c : Contact)
    → is_position me ≡ true → (squitter_parts frame.squitter).me ≡ me → (squitter_parts frame.squitter).address ≡ a
    → AreOwn a c → c.moment ≤ frame.moment → is_contact_of a (contact_with me frame fix c) ≡ true
own_with a (kinds.Airborne x) frame fix c pos me own sides le =
    let is : is_position_of true x.parity (squitter_parts frame.squitter).me ≡ true =
    ap (is_position_of true x.parity) me ∙ one_parity x.parity in
    both (is_side_of a frame.moment true (side_with x.parity frame fix c.airborne)) _
    (side_here a true frame fix own x.parity c.moment c.airborne le is sides.0)
    (both (is_side_of a frame.moment false c.surface) _ (side_later a c.moment frame.moment false c.surface le sides.1)
    (left (has_since frame.moment (side_with x.parity frame fix c.airborne)) _
    (newest_here a true frame fix own x.parity c.airborne)))
own_with a (kinds.Surface x) frame fix c pos me own sides le =
    let is : is_position_of false x.parity (squitter_parts frame.squitter).me ≡ true =
    ap (is_position_of false x.parity) me ∙ one_parity x.parity in
    both (is_side_of a frame.moment true c.airborne) _
    (side_later a c.moment frame.moment true c.airborne le sides.0)
    (both (is_side_of a frame.moment false (side_with x.parity frame fix c.surface)) _
    (side_here a false frame fix own x.parity c.moment c.surface le is sides.1)
    (right (has_since frame.moment c.airborne) _ (newest_here a false frame fix own x.parity c.surface)))
own_with a (kinds.Other x) frame fix c pos me own sides le = absurd (false≢true pos)

-- ---- the entries

-- an entry that is fresh at a timestamp is present then
pub owned_fresh : (w m : ℕ) (last : Option ℕ) (es : Entries) → AllByRecursion (IsOwned w last) es
    → AllByRecursion (λ (e : ℕ × Contact). e.1.moment ≤ m) es
    → AllByRecursion (IsOwned w (Some m)) (filter (fresh_entry w m) es)
owned_fresh w m last [] owned before = tt
owned_fresh w m last (x ∷ es) owned before =
    by (fresh_entry w m x) refl (owned_fresh w m last es owned.1 before.1)
  where
    by : (b : Bool) → fresh_entry w m x ≡ b → AllByRecursion (IsOwned w (Some m)) (filter (fresh_entry w m) es)
        → AllByRecursion (IsOwned w (Some m)) (filter (fresh_entry w m) (x ∷ es))
    by true f rest = subst (AllByRecursion (IsOwned w (Some m))) (sym (filter-cons_yes (fresh_entry w m) x es f))
        ((owned.0.0, both (leb x.1.moment m) _ (le-leb x.1.moment m before.0) f, owned.0.2), rest)
    by false f rest = subst (AllByRecursion (IsOwned w (Some m))) (sym (filter-cons_no (fresh_entry w m) x es f)) rest

-- a contact that was heard at the timestamp is present then
pub present_now : (w m k : ℕ) → k ≡ m → is_present_at w (Some m) k ≡ true
present_now w m k is = both (leb k m) _ (le-leb k m (omega (arith, is))) (le-leb m (k + w) (omega (arith, is)))

-- the contact that is found for an address is that of the address
pub found_own : (w : ℕ) (last : Option ℕ) (a : ℕ) (es : Entries) → AllByRecursion (IsOwned w last) es
    → AreOwn a (unwrap_or (lookup (eqb a) es) blank_contact)
found_own w last a [] owned = own_blank a
found_own w last a (x ∷ es) owned = by (eqb a x.0) refl (found_own w last a es owned.1)
  where
    by : (b : Bool) → eqb a x.0 ≡ b → AreOwn a (unwrap_or (lookup (eqb a) es) blank_contact)
        → AreOwn a (unwrap_or (lookup (eqb a) (x ∷ es)) blank_contact)
    by true e rest = subst (λ o. AreOwn a (unwrap_or o blank_contact))
        (sym (ap (λ b. cond b (Some x.1) (lookup (eqb a) es)) e))
        (subst (λ k. AreOwn k x.1) (sym (eqb-true a x.0 e)) (own_sides x.0 x.1 owned.0.0 owned.0.2))
    by false e rest = subst (λ o. AreOwn a (unwrap_or o blank_contact))
        (sym (ap (λ b. cond b (Some x.1) (lookup (eqb a) es)) e)) rest

-- ---- all that is stored is at or before the newest position

frame_before : (a n : ℕ) (in_air : Bool) (p : Parity) (o : Option Received) → is_frame_of a n in_air p o ≡ true
    → IfSome o (λ (f : Received). f.moment ≤ n)
frame_before a n in_air p None e = tt
frame_before a n in_air p (Some f) e = leb-true f.moment n (first (leb f.moment n) _ e)

pair_before : (a n : ℕ) (in_air : Bool) (p : Parity) (s : Side) → is_side_of a n in_air s ≡ true
    → IfSome (of_other_parity p s) (λ (f : Received). f.moment ≤ n)
pair_before a n in_air Even s e =
    frame_before a n in_air Odd s.odd (second (is_frame_of a n in_air Even s.even) _ e)
pair_before a n in_air Odd s e = frame_before a n in_air Even s.even (first (is_frame_of a n in_air Even s.even) _ e)

fix_before : (span : Span) (a n : ℕ) (in_air : Bool) (s : Side) (o : Option LastFix) → s.fix ≡ o
    → is_side_of a n in_air s ≡ true → IfPlaced span s s.fix → IfSome o (λ (f : LastFix). f.moment ≤ n)
fix_before span a n in_air s None is e placed = tt
fix_before span a n in_air s (Some f) is e placed = fix_no_later span a n in_air s f is e placed

pub own_within : (a : ℕ) (c : Contact) → is_contact_of a c ≡ true → AreFixesPlaced c → IsWithin c
own_within a c e placed = record { pair = pair; fix = fix }
  where
    own : AreOwn a c
    own = own_sides a c e placed

    pair : (me : Me) → IfSome (pair_in c me) (λ (f : Received). f.moment ≤ c.moment)
    pair (kinds.Airborne x) = pair_before a c.moment true x.parity c.airborne own.0
    pair (kinds.Surface x) = pair_before a c.moment false x.parity c.surface own.1
    pair (kinds.Other x) = tt

    fix : (me : Me) → IfSome (fix_in c me) (λ (f : LastFix). f.moment ≤ c.moment)
    fix (kinds.Airborne x) = fix_before air a c.moment true c.airborne c.airborne.fix refl own.0 placed.0
    fix (kinds.Surface x) = fix_before ground a c.moment false c.surface c.surface.fix refl own.1 placed.1
    fix (kinds.Other x) = tt
