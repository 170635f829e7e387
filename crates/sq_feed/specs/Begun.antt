-- The state of a deframer.
use Rattle.std.specs.Prelude.{◌≡◌, ◌++◌, ◌<◌, ⊤, ℕ, Bool, false, List, [], ◌∷◌, length, map, Option, Some, None}
use Rattle.std.specs.Prelude.{if◌then◌else◌}
use Rattle.std.specs.List.{flat_map}
use Rattle.sq_feed.specs.declared.message.Size.{Size}
use Rattle.sq_feed.specs.declared.message.Size.TheVariants.{TwoBytes, SevenBytes, FourteenBytes}
use Rattle.sq_feed.specs.declared.message.Kind.{Kind}
use Rattle.sq_feed.specs.declared.message.Kind.TheVariants.{Message, Status, ReceiverId, Unknown}
use Rattle.sq_feed.specs.declared.message.Found.{Found}
use Rattle.sq_feed.specs.declared.message.Found.TheVariants.{Damage, ReceiverId as Id}
use Rattle.sq_feed.specs.Kinds.{message_len}
use Rattle.sq_feed.specs.Stream.{Symbol, Byte, Start, escape, found_in, found_of, spelled}

-- the kind of what is begun, if anything is; the bytes of a message so far; whether an escape came last
pub record Begun : Type 0 where
  pub kind : Option Kind
  pub held : List ℕ
  pub is_escaped : Bool

abbrev pub nothing_begun : Begun
nothing_begun = record { kind = None; held = []; is_escaped = false }

-- an unfinished message has fewer bytes than its type needs
abbrev pub IsUnfinished : Option Kind → List ℕ → Type 0
IsUnfinished None held = ⊤
IsUnfinished (Some (Message size)) held = length held < message_len size
IsUnfinished (Some Status) held = ⊤
IsUnfinished (Some ReceiverId) held = ⊤
IsUnfinished (Some Unknown) held = ⊤

-- the type byte of a message
abbrev pub type_byte : Size → ℕ
type_byte TwoBytes = 49
type_byte SevenBytes = 50
type_byte FourteenBytes = 51

-- The symbols that represent what is begun. For a status, the id of a receiver or an unknown start, this is only the
-- start.
abbrev pub begun_symbols : Option Kind → List ℕ → List Symbol
begun_symbols None held = []
begun_symbols (Some (Message size)) held = Start (type_byte size) ∷ map Byte held
begun_symbols (Some Status) held = Start 52 ∷ []
begun_symbols (Some ReceiverId) held = Start 0xE3 ∷ []
begun_symbols (Some Unknown) held = Start 0 ∷ []

-- the items if a start cuts off what is begun
abbrev pub cut_off : Option Kind → List Found
cut_off None = []
cut_off (Some (Message size)) = Damage ∷ []
cut_off (Some Status) = []
cut_off (Some ReceiverId) = Id ∷ []
cut_off (Some Unknown) = Damage ∷ []

-- The bytes that represent what is begun: the rest of a stream after the items that were returned.
abbrev pub rest_of : Begun → List ℕ
rest_of begun = flat_map spelled (begun_symbols begun.kind begun.held)
    ++ (if begun.is_escaped then escape ∷ [] else [])

-- With any continuation, the bytes hold these items, and then the items of this rest.
unfoldable pub HoldWithRest : List ℕ → List Found → List ℕ → Type 0
HoldWithRest bytes found rest = (more : List ℕ) → found_in (bytes ++ more) ≡ found ++ found_in (rest ++ more)

-- After what was begun, this symbol completes these items, and then this is begun.
unfoldable pub Gives : Begun → Symbol → List Found → Begun → Type 0
Gives old symbol found new = (more : List Symbol)
    → found_of (begun_symbols old.kind old.held ++ symbol ∷ more)
    ≡ found ++ found_of (begun_symbols new.kind new.held ++ more)
