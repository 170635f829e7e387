-- State of one address of a tracker, in plain numbers.
use Rattle.std.specs.Prelude.{◌≡◌, ◌∷◌, [], ℕ, List, Option, Some, None}
use Rattle.sq_message.specs.declared.received.Received.{Received}
use Rattle.sq_message.specs.declared.squitter.Squitter.{Squitter}
use Rattle.sq_message.specs.Spelling.{Spells}
use Rattle.squitter_c.specs.Frames.{frame_of}
use Rattle.squitter_c.specs.Plain.{IsOfDegrees, PlainIsPosition}
use Rattle.sq_track.specs.declared.contact.Contact.{Contact}
use Rattle.sq_track.specs.declared.contact.LastFix.{LastFix}
use Rattle.sq_track.specs.declared.contact.Side.{Side}
use Rattle.squitter_c.specs.declared.entry.PlainEntry.{PlainEntry}
use Rattle.squitter_c.specs.declared.entry.PlainFix.{PlainFix}
use Rattle.squitter_c.specs.declared.entry.PlainReceived.{PlainReceived}
use Rattle.squitter_c.specs.declared.entry.PlainSide.{PlainSide}

-- the squitter of a saved frame with its timestamp, or none if the frame is invalid
abbrev pub IsReceivedOf : PlainReceived → Option Received → Type 0
IsReceivedOf plain (Some received) = Spells (frame_of plain.frame) received.squitter × (received.moment ≡ plain.moment)
IsReceivedOf plain None = (q : Squitter) → ¬ (Spells (frame_of plain.frame) q)

-- the position of a saved fix with its timestamp, or none if the position is invalid
abbrev pub IsFixOf : PlainFix → Option LastFix → Type 0
IsFixOf plain (Some fix) = IsOfDegrees plain.position fix.position × (fix.moment ≡ plain.moment)
IsFixOf plain None = ¬ (PlainIsPosition plain.position)

-- decoder state for one aircraft in the air, or on the ground
pub record IsSideOf (plain : PlainSide) (side : Side) : Type 0 where
  pub even : IsReceivedOf plain.even side.even
  pub odd : IsReceivedOf plain.odd side.odd
  pub fix : IsFixOf plain.fix side.fix

-- the contact that an entry represents
pub record IsContactOf (plain : PlainEntry) (contact : Contact) : Type 0 where
  pub moment : contact.moment ≡ plain.moment
  pub airborne : IsSideOf plain.airborne contact.airborne
  pub surface : IsSideOf plain.surface contact.surface

-- the address and the contact that an entry represents
abbrev pub IsEntryOf : PlainEntry → ℕ × Contact → Type 0
IsEntryOf plain e = (plain.address ≡ e.0) × IsContactOf plain e.1

-- each plain entry represents the entry at the same index, and the lists are equally long
abbrev pub AreEntriesOf : List PlainEntry → List (ℕ × Contact) → Type 0
AreEntriesOf [] [] = Unit {0}
AreEntriesOf (p ∷ ps) (e ∷ es) = IsEntryOf p e × AreEntriesOf ps es
AreEntriesOf ps es = ⊥

-- 14 bytes of 0
abbrev pub no_bytes : List ℕ
no_bytes = 0 ∷ 0 ∷ 0 ∷ 0 ∷ 0 ∷ 0 ∷ 0 ∷ 0 ∷ 0 ∷ 0 ∷ 0 ∷ 0 ∷ 0 ∷ 0 ∷ []
