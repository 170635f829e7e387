-- The entry of an address after an accepted position.
use Rattle.std.proofs.Common.{◌≡◌, ◌∙◌, ℕ, Bool, true, false, cond, eqb, not, ◌++◌, ◌∷◌, [], Option, Some, None, refl, sym}
use Rattle.std.proofs.Common.{ap, arith, subst, unwrap_or}
use Rattle.std.specs.Map.{lookup}
use Rattle.std.proofs.lemmas.Bool.Decides.{nat_tests}
use Rattle.sq_angle.specs.declared.position.Position.{Position}
use Rattle.sq_cpr.specs.declared.code.Code.{Code}
use Rattle.sq_zones.specs.declared.parity.Parity.{Parity}
use Rattle.sq_message.specs.declared.squitter.Squitter.{Squitter}
use Rattle.sq_message.specs.Kinds.{HeadParts, InAir, Kind, OnGround, me_of}
use Rattle.sq_message.specs.Parts.{squitter_parts}
use Rattle.sq_message.specs.Places.{IsPosition}
use Rattle.sq_track.specs.declared.contact.Contact.{Contact}
use Rattle.sq_track.specs.declared.heard.Heard.{Heard}
use Rattle.sq_track.specs.ByEntries.{IsEntered, fresh_at}
use Rattle.sq_track.specs.Held.{Held, contact_of}
use Rattle.sq_track.specs.Kept.{IsHearingByKept}
use Rattle.sq_track.specs.Ordered.{blank_contact, others_in}
use Rattle.sq_track.specs.Pinned.{AsTheTracker, EntryKeeps}
use Rattle.sq_track.proofs.Histories.ByEntries.{one_hearing_by_kept}
use Rattle.sq_track.proofs.Histories.Contacts.{keeps_position}
use Rattle.sq_track.proofs.Table.EntryLemmas.{Entries}

-- the last entry is found if its address is not among the others
lookup_last : (a : ℕ) (c : Contact) (es : Entries) → lookup (eqb a) (others_in a es ++ (a, c) ∷ []) ≡ Some c
lookup_last a c [] = by (eqb a a) refl
  where
    by : (b : Bool) → eqb a a ≡ b → lookup (eqb a) ((a, c) ∷ []) ≡ Some c
    by true e = ap (λ b. cond b (Some c) None) e
    by false e = absurd (grind (arith, nat_tests, e))
lookup_last a c (x ∷ es) = by (eqb x.0 a) refl (lookup_last a c es)
  where
    by : (b : Bool) → eqb x.0 a ≡ b → lookup (eqb a) (others_in a es ++ (a, c) ∷ []) ≡ Some c
        → lookup (eqb a) (others_in a (x ∷ es) ++ (a, c) ∷ []) ≡ Some c
    by true e rest = subst (λ (b : Bool). lookup (eqb a) (cond (not b) (x ∷ others_in a es) (others_in a es)
        ++ (a, c) ∷ []) ≡ Some c) (sym e) rest
    by false e rest =
        let other : eqb a x.0 ≡ false = grind (arith, nat_tests, e) in
        subst (λ (b : Bool). lookup (eqb a) (cond (not b) (x ∷ others_in a es) (others_in a es)
        ++ (a, c) ∷ []) ≡ Some c) (sym e)
        (ap (λ (b : Bool). cond b (Some x.1) (lookup (eqb a) (others_in a es ++ (a, c) ∷ []))) other ∙ rest)

-- the entry of the address after an accepted position
entered : (m : ℕ) (q : Squitter) (t new : Held) (heard : Heard) (entries : Entries) (e : IsEntered m q t heard entries)
    → new ≡ record t { last = Some m; contacts = entries }
    → lookup (eqb (squitter_parts q).address) new.contacts ≡ Some e.after
entered m q t new heard entries e is =
    let a = (squitter_parts q).address in
    ap (λ (h : Held). lookup (eqb a) h.contacts) is ∙ ap (lookup (eqb a)) e.entries_are
    ∙ lookup_last a e.after (fresh_at m t)

position_of_kind : (kind : Kind) (head : HeadParts kind) (parity : Parity) (code : Code)
    → IsPosition (me_of kind head parity code)
position_of_kind InAir head parity code = tt
position_of_kind OnGround head parity code = tt

pub entry_keeps : EntryKeeps
entry_keeps m q old new heard kind head parity code (welcome, (entries, passed, is)) me =
    let e = passed.position (subst IsPosition (sym me) (position_of_kind kind head parity code)) in (
      e.after,
      entered m q old new heard entries e is,
      keeps_position m q heard (contact_of old.contacts (squitter_parts q).address) e.after kind head parity code
          e.hearing.kept me,
    )

pub as_the_tracker : AsTheTracker
as_the_tracker m q t u new other heard reply here windows sites same (welcome, (entries, passed, is))
    (also, (others, passed_also, be)) =
    let a = (squitter_parts q).address in
    let e = passed.position here in
    let f = passed_also.position here in
    let contacts : contact_of t.contacts a ≡ contact_of u.contacts a =
    ap (λ (o : Option Contact). unwrap_or o blank_contact) same in
    let hearing = subst (λ (c : Contact). IsHearingByKept u.window u.site m q c heard e.after) contacts
    (subst (λ (w : ℕ). IsHearingByKept w u.site m q (contact_of t.contacts a) heard e.after) windows
    (subst (λ (s : Option Position). IsHearingByKept t.window s m q (contact_of t.contacts a) heard e.after) sites
    e.hearing)) in
    let one = one_hearing_by_kept u.window u.site m q (contact_of u.contacts a) e.after f.after heard reply hearing
    f.hearing in (
      one.0,
      entered m q t new heard entries e is ∙ ap (λ (c : Contact). Some c) one.1
          ∙ sym (entered m q u other reply others f be),
    )
