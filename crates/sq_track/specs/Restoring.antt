-- The states that a tracker can be restored to.
use Rattle.std.specs.Prelude.{◌≡◌, ℕ, ◌<◌, ◌++◌, ◌∷◌, List, true, nat_eq, length, None}
use Rattle.std.specs.Map.{lookup}
use Rattle.sq_track.specs.declared.contact.Contact.{Contact}
use Rattle.sq_track.specs.Entries.{IsOrdered}
use Rattle.sq_track.specs.Held.{Held}
use Rattle.sq_track.specs.Owned.{AreFixesPlaced, is_contact_of, is_present_at}

-- A tracker in this state may also hold the address with its contact, as the last heard.
pub record CanFollow (t : Held) (address : ℕ) (contact : Contact) : Type 0 where
  pub room : length t.contacts < t.limit
  pub absent : lookup (nat_eq address) t.contacts ≡ None
  pub own : is_contact_of address contact ≡ true
  pub placed : AreFixesPlaced contact
  pub present : is_present_at t.window t.last contact.moment ≡ true
  pub later : IsOrdered 0 contact.moment t.contacts

-- Each entry of a tracker may follow the entries before it, so a tracker's own state is never refused.
abbrev pub CanBeRestored : Held → Type 0
CanBeRestored t = (front back : List (ℕ × Contact)) (address : ℕ) (contact : Contact)
    → t.contacts ≡ front ++ (address, contact) ∷ back
    → CanFollow (record t { contacts = front }) address contact
