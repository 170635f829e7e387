-- The calls of a tracker, by what it holds.
use Rattle.std.proofs.Common.{◌≡◌, ℕ, true, false, eqb, leb, ◌++◌, ◌∷◌, [], length, List, Some, None, Result}
use Rattle.std.proofs.Common.{Ok, Err, refl, sym, arith, subst}
use Rattle.std.specs.Map.{lookup}
use Rattle.std.proofs.lemmas.Bool.{leb-true, leb-false}
use Rattle.sq_message.specs.Parts.{squitter_parts}
use Rattle.sq_message.specs.Places.{IsPosition}
use Rattle.sq_message.specs.declared.received.Received.{Received}
use Rattle.sq_message.specs.declared.squitter.Squitter.{Squitter}
use Rattle.sq_track.specs.declared.contact.Contact.{Contact}
use Rattle.sq_track.specs.declared.heard.Heard.{Heard}
use Rattle.sq_track.specs.declared.heard.Heard.TheVariants.{NotPosition}
use Rattle.sq_track.specs.declared.heard.TrackFault.{TrackFault}
use Rattle.sq_track.specs.declared.heard.TrackFault.TheVariants.{Full, Memory}
use Rattle.sq_track.specs.ByEntries.{AreHeardByEntries, IsHeardByEntries, IsWelcomeTo, fresh_at, others_at}
use Rattle.sq_track.specs.Entries.{IsBack, IsNotBack}
use Rattle.sq_track.specs.Held.{Held, contact_of}
use Rattle.sq_track.specs.Kept.{IsHearingByKept}
use Rattle.sq_track.proofs.Table.EntryLemmas.{Entries}

-- a tracker after an accepted call
abbrev pub held_after : Held → ℕ → Entries → Held
held_after t m entries =
    record { limit = t.limit; window = t.window; site = t.site; last = Some m; contacts = entries }

module _ (t : Held) (m : ℕ) (q : Squitter) (le : IsNotBack t.last m) where
  welcome_other : ¬ IsPosition (squitter_parts q).me → IsWelcomeTo m q t
  welcome_other silent = record { in_time = le; room = λ full. absurd (silent full.position) }

  pub welcome_room : leb t.limit (length (others_at m q t)) ≡ false → IsWelcomeTo m q t
  welcome_room room = record {
    in_time = le;
    room = λ full. let l = leb-false t.limit (length (others_at m q t)) room in absurd (omega (arith, l, full.others));
  }

  pub full_by_entries : IsPosition (squitter_parts q).me → leb t.limit (length (others_at m q t)) ≡ true
      → IsHeardByEntries m q t t (Err Full)
  full_by_entries here full = (
    le,
    record { position = here; others = leb-true t.limit (length (others_at m q t)) full },
    refl,
  )

  pub other_by_entries : (entries : Entries) → ¬ IsPosition (squitter_parts q).me → entries ≡ fresh_at m t
      → IsHeardByEntries m q t (held_after t m entries) (Ok NotPosition)
  other_by_entries entries silent is = (
    welcome_other silent,
    (entries, record { position = λ here. absurd (silent here); other = λ none. (refl, is) }, refl),
  )

  pub position_by_entries : (heard : Heard) (after : Contact) (entries : Entries) → IsPosition (squitter_parts q).me
      → leb t.limit (length (others_at m q t)) ≡ false
      → IsHearingByKept t.window t.site m q (contact_of t.contacts (squitter_parts q).address) heard after
      → entries ≡ others_at m q t ++ ((squitter_parts q).address, after) ∷ []
      → IsHeardByEntries m q t (held_after t m entries) (Ok heard)
  position_by_entries heard after entries here room hearing is = (
    welcome_room room,
    (
      entries,
      record {
        position = λ _. record { after = after; hearing = hearing; entries_are = is };
        other = λ none. absurd (none here);
      },
      refl,
    ),
  )

  pub memory_by_entries : (new : Held) → IsPosition (squitter_parts q).me
      → leb t.limit (length (others_at m q t)) ≡ false
      → lookup (eqb (squitter_parts q).address) t.contacts ≡ None → new ≡ t
      → IsHeardByEntries m q t new (Err Memory)
  memory_by_entries new here room absent same = (welcome_room room, here, absent, same)

-- one more squitter
pub entries_more : (old mid new : Held) (xs : List Received) (rs : List (Result Heard TrackFault)) (x : Received)
    (r : Result Heard TrackFault)
    → AreHeardByEntries xs old mid rs → IsHeardByEntries x.moment x.squitter mid new r
    → AreHeardByEntries (xs ++ x ∷ []) old new (rs ++ r ∷ [])
entries_more old mid new [] [] x r before reply =
    (new, subst (λ (t : Held). IsHeardByEntries x.moment x.squitter t new r) before reply, refl)
entries_more old mid new [] (q ∷ rs) x r before reply = absurd before
entries_more old mid new (y ∷ xs) [] x r before reply = absurd before
entries_more old mid new (y ∷ xs) (q ∷ rs) x r (next, first, rest) reply =
    (next, first, entries_more next mid new xs rs x r rest reply)

pub entries_next : (old mid new : Held) (xs xs' : List Received) (rs rs' : List (Result Heard TrackFault))
    (x : Received) (r : Result Heard TrackFault) → xs' ≡ xs ++ x ∷ [] → rs' ≡ rs ++ r ∷ []
    → AreHeardByEntries xs old mid rs → IsHeardByEntries x.moment x.squitter mid new r
    → AreHeardByEntries xs' old new rs'
entries_next old mid new xs xs' rs rs' x r xs_is rs_is before reply =
    subst (λ (ys : List Received). AreHeardByEntries ys old new rs') (sym xs_is)
    (subst (λ (qs : List (Result Heard TrackFault)). AreHeardByEntries (xs ++ x ∷ []) old new qs) (sym rs_is)
    (entries_more old mid new xs rs x r before reply))
