-- The decimal point in a text: definitions for the steps of reading an angle.
use Rattle.std.specs.Prelude.{◌≡◌, ◌≢◌, ℕ, List, [], ◌∷◌, ◌++◌}
use Rattle.std.specs.List.{AllByRecursion}
use Rattle.sq_angle.specs.Spelling.{fraction}
use Rattle.sq_digits.specs.Characters.{decimal_point}

-- no character is a point
abbrev pub HasNoPoint : List ℕ → Type 0
HasNoPoint cs = AllByRecursion (λ c. c ≢ decimal_point) cs

-- the first point is the last character
abbrev pub EndsInPoint : List ℕ → Type 0
EndsInPoint text = (whole : List ℕ) × HasNoPoint whole × (text ≡ whole ++ decimal_point ∷ [])

-- the text is `whole`, followed by a point and `decimals` if there are decimals
abbrev pub StandsAroundPoint : List ℕ → List ℕ → List ℕ → Type 0
StandsAroundPoint text whole decimals = HasNoPoint whole × (text ≡ whole ++ fraction decimals)
