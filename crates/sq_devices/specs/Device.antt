-- The bytes of a device before and after a call. `None` means that the device does not report its bytes.
use Rattle.std.specs.Prelude.{◌≡◌, ◌+◌, ◌++◌, ◌^◌, ℕ, List, ⊤, Option, None, Some, Result, Ok, Err}

-- the most gets of a source that return data
abbrev pub most_gets : ℕ
most_gets = 10 ^ 12

-- a get that returned bytes, or the end of the input, used up one of the gets left; one that failed used up none
abbrev pub UsesGet : {Value Error : Type 0} → Result Value Error → (old new : ℕ) → Type 0
UsesGet (Ok value) old new = new + 1 ≡ old
UsesGet (Err error) old new = new ≡ old

-- the device's bytes are as before, or it does not report them
abbrev pub KeepsOrHides : Option (List ℕ) → Option (List ℕ) → Type 0
KeepsOrHides None new = ⊤
KeepsOrHides (Some xs) None = ⊤
KeepsOrHides (Some xs) (Some ys) = ys ≡ xs

-- the sink's bytes grew by bs, or it does not report them
abbrev pub AppendsOrHides : Option (List ℕ) → Option (List ℕ) → List ℕ → Type 0
AppendsOrHides None new bs = ⊤
AppendsOrHides (Some xs) None bs = ⊤
AppendsOrHides (Some xs) (Some ys) bs = ys ≡ xs ++ bs

-- ys begins with xs
abbrev pub IsPrefixOf : {X : Type 0} → List X → List X → Type 0
IsPrefixOf {X} xs ys = (rest : List X) × (ys ≡ xs ++ rest)

-- the source's bytes began with bs, and it lost these alone, or it no longer reports what is left
abbrev pub ConsumesOrHides : Option (List ℕ) → Option (List ℕ) → List ℕ → Type 0
ConsumesOrHides None new bs = ⊤
ConsumesOrHides (Some xs) None bs = IsPrefixOf bs xs
ConsumesOrHides (Some xs) (Some ys) bs = xs ≡ bs ++ ys

-- a prefix of the text was appended, and no more, or the sink no longer reports its bytes
abbrev pub WroteFront : Option (List ℕ) → Option (List ℕ) → List ℕ → Type 0
WroteFront before after text = (part : List ℕ) × IsPrefixOf part text × AppendsOrHides before after part
