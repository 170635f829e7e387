-- The readings of a clock.
use Rattle.std.specs.Prelude.{◌≡◌, ℕ, Bool, List, [], ◌∷◌, false}
use Rattle.std.specs.List.{All}
use Rattle.sq_devices.specs.declared.device.Clock.{Ghosts as ClockGhosts}

-- readings, one after the other, returned these times and led from the first clock to the second
abbrev pub Tells : {C : Type 0} → (C → ℕ → C → Type 0) → (old new : C) → List ℕ → Type 0
Tells Told old new [] = new ≡ old
Tells {C} Told old new (moment ∷ moments) = (next : C) × Told old moment next × Tells Told next new moments

-- the readings of a clock during a run
pub record Times : Type 1 where
  -- whether the input is received while it is read
  pub is_live : Bool
  -- whether the only calls were readings of these times, one after the other
  pub told : List ℕ → Type 0

abbrev pub times_of : {C : Type 0} → ClockGhosts C → (old new : C) → Times
times_of c old new = record { is_live = c.live old; told = Tells c.Told old new }

-- a recorded input: each reading is 0
abbrev pub recorded : Times
recorded = record { is_live = false; told = All (λ moment. moment ≡ 0) }
