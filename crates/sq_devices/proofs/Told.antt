-- Times that a recorded input's clock tells.
use Rattle.std.proofs.Common.{◌≡◌, ℕ, List, [], ◌∷◌, refl}
use Rattle.std.specs.List.{All}
use Rattle.std.proofs.lemmas.List.Elements.{All-cons, All-head, All-nil, All-tail}
use Rattle.sq_devices.specs.Clocks.{Tells}
use Rattle.sq_devices.specs.declared.clocks.NoClock.{NoClock}

one_clock : (old new : NoClock) → new ≡ old
one_clock old new = refl

-- readings that each tell 0 told nothing else
pub all_zero : (old new : NoClock) (moments : List ℕ) → Tells (λ (o : NoClock) m (n : NoClock). m ≡ 0) old new moments
    → All (λ m. m ≡ 0) moments
all_zero old new [] told = All-nil (λ m. m ≡ 0)
all_zero old new (moment ∷ moments) (next, is, told) =
    All-cons (λ m. m ≡ 0) moment moments is (all_zero next new moments told)

-- zeros can be told
pub told_zero : (old new : NoClock) (moments : List ℕ) → All (λ m. m ≡ 0) moments
    → Tells (λ (o : NoClock) m (n : NoClock). m ≡ 0) old new moments
told_zero old new [] zero = one_clock old new
told_zero old new (moment ∷ moments) zero = (
  old,
  All-head (λ m. m ≡ 0) moment moments zero,
  told_zero old new moments (All-tail (λ m. m ≡ 0) moment moments zero),
)
