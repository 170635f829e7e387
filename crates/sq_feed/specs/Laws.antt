-- Laws of every stream, and of every way to cut it into pieces.
use Rattle.std.specs.Prelude.{◌≡◌, ◌++◌, ⊤, ℕ, List, [], ◌∷◌, length, map}
use Rattle.std.specs.List.{flat_map}
use Rattle.sq_feed.specs.declared.message.Size.{Size}
use Rattle.sq_feed.specs.declared.message.Found.{Found}
use Rattle.sq_feed.specs.declared.message.Found.TheVariants.{Whole}
use Rattle.sq_feed.specs.Begun.{Begun, HoldWithRest, IsUnfinished, cut_off, nothing_begun, rest_of, type_byte}
use Rattle.sq_feed.specs.Kinds.{message_len, message_of}
use Rattle.sq_feed.specs.Stream.{AreSymbols, Hold, Spell, Start, Symbol, doubled, escape, found_in, found_of, spelled}

-- ---- streams

-- the bytes encode exactly one list of symbols
pub record IsReadOnce (bytes : List ℕ) : Type 0 where
  pub symbols : List Symbol
  pub reads : Spell bytes symbols
  pub one : (others : List Symbol) → Spell bytes others → others ≡ symbols

-- exactly one list of items is found in the bytes
pub record IsFoundOnce (bytes : List ℕ) : Type 0 where
  pub holds : Hold bytes (found_in bytes)
  pub one : (found : List Found) → Hold bytes found → found ≡ found_in bytes

-- a message to send: the size of its frame, and its bytes
pub record Sent : Type 0 where
  pub size : Size
  pub bytes : List ℕ

-- an escape, the type byte, and the bytes, with each escape among them doubled
abbrev pub sent_bytes : Sent → List ℕ
sent_bytes sent = escape ∷ type_byte sent.size ∷ flat_map doubled sent.bytes

abbrev pub AreSent : List Sent → Type 0
AreSent [] = ⊤
AreSent (sent ∷ more) = (length sent.bytes ≡ message_len sent.size) × AreSent more

abbrev pub sent_messages : List Sent → List Found
sent_messages sent = map (λ s. Whole (message_of s.size s.bytes)) sent

-- A stream of messages, sent one after the other, holds exactly these messages, whatever their bytes are.
abbrev pub SentIsFound : Type 0
SentIsFound = (sent : List Sent) → AreSent sent → found_in (flat_map sent_bytes sent) ≡ sent_messages sent

-- The items before a start and those from it on do not depend on each other.
abbrev pub StartSplits : Type 0
StartSplits = (front : List Symbol) (kind : ℕ) (more : List Symbol)
    → found_of (front ++ Start kind ∷ more) ≡ found_of front ++ found_of (Start kind ∷ more)

-- A message that is sent is found, whatever symbols come before it and whatever bytes follow.
abbrev pub SentIsFoundAnywhere : Type 0
SentIsFoundAnywhere = (front : List Symbol) (sent : Sent) (more : List ℕ) → AreSymbols front
    → length sent.bytes ≡ message_len sent.size
    → found_in (flat_map spelled front ++ (sent_bytes sent ++ more))
    ≡ found_of front ++ (Whole (message_of sent.size sent.bytes) ∷ found_in more)

-- ---- takes

-- a call: the bytes that it took, the items that it returned, and what is begun after it
pub record Step : Type 0 where
  pub taken : List ℕ
  pub found : List Found
  pub after : Begun

-- calls in order
abbrev pub AreTakes : Begun → List Step → Type 0
AreTakes before [] = ⊤
AreTakes before (step ∷ steps) =
    HoldWithRest (rest_of before ++ step.taken) step.found (rest_of step.after)
    × IsUnfinished step.after.kind step.after.held
    × AreTakes step.after steps

abbrev pub taken_by : List Step → List ℕ
taken_by steps = flat_map (λ step. step.taken) steps

abbrev pub found_by : List Step → List Found
found_by steps = flat_map (λ step. step.found) steps

-- the unfinished item after the last call
abbrev pub begun_by : Begun → List Step → Begun
begun_by before [] = before
begun_by before (step ∷ steps) = begun_by step.after steps

-- The items of all calls, and then the damage at the end if there is one, are the items of the whole stream.
abbrev pub GivesTheStream : Type 0
GivesTheStream = (steps : List Step) → AreTakes nothing_begun steps
    → found_by steps ++ cut_off (begun_by nothing_begun steps).kind ≡ found_in (taken_by steps)
