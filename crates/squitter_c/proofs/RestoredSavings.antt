-- A saved tracker is restored.
use Rattle.std.proofs.Common.{◌≡◌, ◌<◌, ◌++◌, ◌∷◌, ◌∙◌, [], ℕ, zero, suc, List, Option, Some, None, length}
use Rattle.std.proofs.Common.{get_or, slice_get, take, refl, sym, ap, subst, arith, inl, inr}
use Rattle.sq_track.specs.declared.contact.Contact.{Contact}
use Rattle.sq_track.specs.Held.{Held}
use Rattle.sq_track.specs.Replies.{Settings}
use Rattle.sq_track.specs.Restoring.{CanBeRestored}
use Rattle.squitter_c.proofs.Steps.{no_place}
use Rattle.squitter_c.specs.declared.entry.PlainEntry.{PlainEntry}
use Rattle.squitter_c.specs.declared.entry.PlainReceived.{PlainReceived}
use Rattle.squitter_c.specs.declared.entry.PlainSide.{PlainSide}
use Rattle.squitter_c.specs.declared.tracker_save.PlainLast.{PlainLast}
use Rattle.squitter_c.specs.Entries.{AreEntriesOf, IsEntryOf}
use Rattle.squitter_c.specs.Restoring.{HasRestored, IsLast, IsRefusedAt, IsToldAt, RestoredAsSaved}
use Rattle.squitter_c.specs.Restoring.{holding}
use Rattle.squitter_c.proofs.Entries.{one_contact}

abbrev Entries : Type 0
Entries = List (ℕ × Contact)

one_last : (plain : PlainLast) (a b : Option ℕ) → IsLast plain a → IsLast plain b → a ≡ b
one_last plain None None x y = refl
one_last plain None (Some b) x y = absurd (y.0 x)
one_last plain (Some a) None x y = absurd (x.0 y)
one_last plain (Some a) (Some b) x y = ap Some (sym x.1 ∙ y.1)

-- an entry represents one address and contact
one_entry : (p : PlainEntry) (a b : ℕ × Contact) → IsEntryOf p a → IsEntryOf p b → a ≡ b
one_entry p a b x y = λ i. ((sym x.0 ∙ y.0) i, one_contact p a.1 b.1 x.1 y.1 i)

one_list : (ps : List PlainEntry) (xs ys : Entries) → AreEntriesOf ps xs → AreEntriesOf ps ys → xs ≡ ys
one_list [] [] [] a b = refl
one_list [] [] (y ∷ ys) a b = absurd b
one_list [] (x ∷ xs) ys a b = absurd a
one_list (p ∷ ps) [] ys a b = absurd a
one_list (p ∷ ps) (x ∷ xs) [] a b = absurd b
one_list (p ∷ ps) (x ∷ xs) (y ∷ ys) a b = λ i. one_entry p x y a.0 b.0 i ∷ one_list ps xs ys a.1 b.1 i

-- an entry, if there is one, is written
abbrev IsToldEach : Option (ℕ × Contact) → PlainEntry → Type 0
IsToldEach (Some e) p = IsEntryOf p e
IsToldEach None p = Unit {0}

-- if as many entries are written as a tracker has, they represent its entries
told_stand : (es : Entries) (ps : List PlainEntry) → length ps ≡ length es
    → ((k : ℕ) → k < length ps → (p : PlainEntry) → IsToldEach (slice_get es k) (get_or ps k p))
    → AreEntriesOf ps es
told_stand [] [] long told = tt
told_stand [] (p ∷ ps) long told = absurd (omega (arith, long))
told_stand (e ∷ es) [] long told = absurd (omega (arith, long))
told_stand (e ∷ es) (p ∷ ps) long told = (
  told 0 (omega arith) p,
  told_stand es ps (omega (arith, long)) (λ k below d. told (suc k) (omega (arith, below)) d),
)

told_each : (o : Option (ℕ × Contact)) (was is : PlainEntry) → IsToldAt o was is → IsToldEach o is
told_each None was is told = tt
told_each (Some e) was is told = told

stand_front : (n : ℕ) (ps : List PlainEntry) (es : Entries) → AreEntriesOf ps es
    → AreEntriesOf (take n ps) (take n es)
stand_front zero ps es stand = tt
stand_front (suc n) [] [] stand = tt
stand_front (suc n) [] (e ∷ es) stand = absurd stand
stand_front (suc n) (p ∷ ps) [] stand = absurd stand
stand_front (suc n) (p ∷ ps) (e ∷ es) stand = (stand.0, stand_front n ps es stand.1)

-- the entry at an index, with the entries before and after it
split_at : (n : ℕ) (ps : List PlainEntry) (es : Entries) → AreEntriesOf ps es → n < length ps → (p : PlainEntry)
    → (e : ℕ × Contact) × (back : Entries) × (es ≡ take n es ++ e ∷ back) × IsEntryOf (get_or ps n p) e
split_at n [] es stand lt p = absurd (omega (arith, lt))
split_at n (q ∷ ps) [] stand lt p = absurd stand
split_at zero (q ∷ ps) (e ∷ es) stand lt p = (e, es, refl, stand.0)
split_at (suc n) (q ∷ ps) (e ∷ es) stand lt p =
    let (x, back, is, entry) = split_at n ps es stand.1 (omega (arith, lt)) p in
    (x, back, ap (λ l. e ∷ l) is, entry)

abbrev no_frame : PlainReceived
no_frame = record { moment = 0; frame = [] }

abbrev no_side : PlainSide
no_side = record { even = no_frame; odd = no_frame; fix = record { moment = 0; position = no_place } }

-- the value of a read past the end of an array
abbrev a_blank : PlainEntry
a_blank = record { moment = 0; address = 0; airborne = no_side; surface = no_side }

no_entry : (entries : List PlainEntry) (t : Held) (last : Option ℕ) (index : ℕ) (es : Entries)
    → AreEntriesOf entries es → CanBeRestored (holding t last es) → IsRefusedAt index t last entries → ⊥
no_entry entries t last index es stand can refused =
    let (e, back, is, entry) = split_at index entries es stand refused.inside a_blank in
    let same : e ≡ (refused.address, refused.contact) =
    one_entry (get_or entries index a_blank) e (refused.address, refused.contact) entry (refused.there a_blank) in
    let front : take index es ≡ refused.front =
    one_list (take index entries) (take index es) refused.front (stand_front index entries es stand) refused.before in
    refused.refused (can refused.front back refused.address refused.contact
    (is ∙ (λ i. front i ++ same i ∷ back)))

pub restored_as_saved : RestoredAsSaved
restored_as_saved k t was is old entries new fault (told_last, told, can) long same
    (last, after, is_last, restoring, is_new) memory =
    elim restoring [
      | inl done ↦ (done.1, is_new ∙ ap (λ (v : Held). Some (record t { tracker = v })) (whole done.0))
      | inr rest ↦ elim rest [
        | inl refused ↦ absurd (no_entry entries t.tracker last refused.0 k.tracker.contacts stand
            (subst CanBeRestored (sym held) can) refused.1)
        | inr failed ↦ absurd (memory failed.1)
      ]
    ]
  where
    stand : AreEntriesOf entries k.tracker.contacts
    stand = told_stand k.tracker.contacts entries long
        (λ i below p. told_each (slice_get k.tracker.contacts i) (get_or old i p) (get_or entries i p)
        (told.each i (omega (arith, below, told.long)) p))

    held : holding t.tracker last k.tracker.contacts ≡ k.tracker
    held = λ i. record {
      limit = ap (λ (s : Settings). s.limit) same i;
      window = ap (λ (s : Settings). s.window) same i;
      site = ap (λ (s : Settings). s.site) same i;
      last = one_last is last k.tracker.last is_last told_last i;
      contacts = k.tracker.contacts;
    }

    whole : HasRestored t.tracker last entries after → after ≡ k.tracker
    whole has = has.is
        ∙ ap (holding t.tracker last) (one_list entries has.contacts k.tracker.contacts has.stand stand) ∙ held
