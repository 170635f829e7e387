-- The items of a Beast stream.
--
-- A stream is a list of symbols, encoded as bytes. A start is an escape and a type byte. A byte between starts is
-- itself, and an escape between starts is doubled.
--
-- A message is its start and as many bytes as its type needs. The id of a receiver is its start and all bytes up to the
-- next start. Damage is any of these, each with all bytes up to the
-- next start: a message that is cut off, bytes after a message, bytes before the first start, and a start of unknown
-- type.
use Rattle.std.specs.Prelude.{◌≡◌, ◌≢◌, ◌==◌, ◌++◌, ◌&&◌, ◌⊎◌, ⊤, ℕ, Bool, true, false, not, List, [], ◌∷◌, length, drop}
use Rattle.std.specs.Prelude.{EachIndex, nat_le, slice_index, if◌then◌else◌}
use Rattle.std.specs.List.{flat_map}
use Rattle.sq_feed.specs.declared.message.Kind.{Kind}
use Rattle.sq_feed.specs.declared.message.Kind.TheVariants.{Message, Status, ReceiverId, Unknown}
use Rattle.sq_feed.specs.declared.message.Found.{Found}
use Rattle.sq_feed.specs.declared.message.Found.TheVariants.{Whole, Damage, ReceiverId as Id}
use Rattle.sq_feed.specs.Kinds.{kind_of, message_len, message_of}

-- the byte before a type byte
abbrev pub escape : ℕ
escape = 26

-- no byte is an escape
abbrev pub IsPlain : List ℕ → Type 0
IsPlain bytes = EachIndex bytes (λ k. slice_index bytes k ≢ escape)

-- a symbol of a stream: a start with its type byte, or a byte
pub data Symbol : Type 0 where
  Start : ℕ → Symbol
  Byte : ℕ → Symbol

abbrev pub doubled : ℕ → List ℕ
doubled byte = if byte == escape then escape ∷ escape ∷ [] else byte ∷ []

abbrev pub spelled : Symbol → List ℕ
spelled (Start kind) = escape ∷ kind ∷ []
spelled (Byte byte) = doubled byte

-- No start has an escape for its type byte: two escapes are a byte.
abbrev pub IsSymbol : Symbol → Type 0
IsSymbol (Start kind) = kind ≢ escape
IsSymbol (Byte byte) = ⊤

abbrev pub AreSymbols : List Symbol → Type 0
AreSymbols [] = ⊤
AreSymbols (symbol ∷ more) = IsSymbol symbol × AreSymbols more

-- The bytes encode these symbols. An escape may be left at the end: the next byte decides what it is.
pub record Spell (bytes : List ℕ) (symbols : List Symbol) : Type 0 where
  pub rest : List ℕ
  pub is_rest : (rest ≡ []) ⊎ (rest ≡ escape ∷ [])
  pub whole : bytes ≡ flat_map spelled symbols ++ rest
  pub each : AreSymbols symbols

-- the bytes up to the next start
abbrev pub run : List Symbol → List ℕ
run [] = []
run (Start kind ∷ more) = []
run (Byte byte ∷ more) = byte ∷ run more

-- bytes that belong to no message are one damage, however many
abbrev pub stray : List ℕ → List Found
stray [] = []
stray (byte ∷ more) = Damage ∷ []

-- the items at a start of this kind, with the bytes up to the next start
abbrev pub found_at : Kind → List ℕ → List Found
found_at (Message size) bytes =
    if nat_le (message_len size) (length bytes)
    then Whole (message_of size bytes) ∷ stray (drop (message_len size) bytes) else Damage ∷ []
found_at Status bytes = []
found_at ReceiverId bytes = Id ∷ []
found_at Unknown bytes = Damage ∷ []

-- the items at each start, in order
abbrev pub found_after : List Symbol → List Found
found_after [] = []
found_after (Start kind ∷ more) = found_at (kind_of kind) (run more) ++ found_after more
found_after (Byte byte ∷ more) = found_after more

abbrev pub found_of : List Symbol → List Found
found_of symbols = stray (run symbols) ++ found_after symbols

-- these are the items of a whole stream
pub record Hold (bytes : List ℕ) (found : List Found) : Type 0 where
  pub symbols : List Symbol
  pub spell : Spell bytes symbols
  pub is : found ≡ found_of symbols

-- ---- the same, computed

-- the symbol that a byte ends; the Boolean says whether the byte follows an escape
abbrev pub ended : Bool → ℕ → List Symbol
ended false byte = if byte == escape then [] else Byte byte ∷ []
ended true byte = (if byte == escape then Byte escape else Start byte) ∷ []

-- whether this byte is an escape that the next byte decides
abbrev pub escapes : Bool → ℕ → Bool
escapes after byte = not after && (byte == escape)

abbrev pub symbols_from : Bool → List ℕ → List Symbol
symbols_from after [] = []
symbols_from after (byte ∷ more) = ended after byte ++ symbols_from (escapes after byte) more

abbrev pub found_in : List ℕ → List Found
found_in bytes = found_of (symbols_from false bytes)
