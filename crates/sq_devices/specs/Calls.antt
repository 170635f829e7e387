-- Gets and puts, one after the other, also of a device that does not report its bytes.
use Rattle.std.specs.Prelude.{◌≡◌, ℕ, List, [], ◌∷◌}
use Rattle.std.specs.List.{concat}
use Rattle.std.specs.Io.KnownBytes.{Appends}
use Rattle.sq_devices.specs.declared.device.Sink.{Ghosts as SinkGhosts}

-- calls that moved these parts, one after the other, led from the one device to the other
abbrev pub Calls : {D : Type 0} → (D → List ℕ → D → Type 0) → (old new : D) → List (List ℕ) → Type 0
Calls One old new [] = new ≡ old
Calls {D} One old new (part ∷ parts) = (next : D) × One old part next × Calls One next new parts

-- the text was put, in some puts, and nothing else
abbrev pub HasPut : {K : Type 0} → SinkGhosts K → (old new : K) → List ℕ → Type 0
HasPut k old new text = Appends (k.written old) (k.written new) text
    × ((texts : List (List ℕ)) × Calls k.Took old new texts × (concat texts ≡ text))

-- the text was put, and then the sink was finished
abbrev pub HasSent : {K : Type 0} → SinkGhosts K → (old new : K) → List ℕ → Type 0
HasSent {K} k old new text = (last : K) × HasPut k old last text × k.Finished last new
