-- What calls did to a device: the values that a source or a sink reports before and after them.
use Rattle.std.specs.Prelude.{◌≡◌, ◌⊎◌, ◌+◌, ◌++◌, ◌<◌, ◌≤◌, ℕ, Bool, List, [], ◌∷◌, Option, Some, IfSome, length, true}
use Rattle.std.specs.List.{All, concat}
use Rattle.std.specs.Io.KnownBytes.{Appends, Consumes, IsAtEnd}
use Rattle.sq_devices.specs.Calls.{Calls, HasSent}
use Rattle.sq_devices.specs.Device.{ConsumesOrHides, WroteFront}
use Rattle.sq_devices.specs.declared.device.Sink.{Ghosts as SinkGhosts}
use Rattle.sq_devices.specs.declared.device.Source.{Ghosts as SourceGhosts}

-- what was written on a sink
pub record Written : Type 1 where
  pub before : Option (List ℕ)
  pub after : Option (List ℕ)
  -- whether the sink has failed
  pub failed : Bool
  -- how often it was finished, before and now
  pub finishes_before : ℕ
  pub finishes : ℕ
  -- whether the only calls were puts of this text, and then a finish
  pub sent : List ℕ → Type 0

abbrev pub written_on : {K : Type 0} → SinkGhosts K → (old new : K) → Written
written_on k old new = record {
  before = k.written old;
  after = k.written new;
  failed = k.has_failed new;
  finishes_before = k.finishes old;
  finishes = k.finishes new;
  sent = HasSent k old new;
}

-- the sink was finished once
abbrev pub FinishedOnce : Written → Type 0
FinishedOnce w = w.finishes ≡ w.finishes_before + 1

-- the sink was not finished
abbrev pub Unfinished : Written → Type 0
Unfinished w = w.finishes ≡ w.finishes_before

-- the text was written, and nothing else
abbrev pub Wrote : Written → List ℕ → Type 0
Wrote w text = Appends w.before w.after text

-- the text was written, and nothing else, by puts of its parts and a finish
abbrev pub Sent : Written → List ℕ → Type 0
Sent w text = Wrote w text × w.sent text

-- the text was written, and nothing else, and then the sink was finished once
abbrev pub WroteLast : Written → List ℕ → Type 0
WroteLast w text = Sent w text × FinishedOnce w

-- nothing was written, nor the sink finished
abbrev pub WroteNothing : Written → Type 0
WroteNothing w = Wrote w [] × Unfinished w

-- the sink has failed, after a prefix of the text was written, and was not finished
abbrev pub FailedWithin : Written → List ℕ → Type 0
FailedWithin w text = (w.failed ≡ true) × WroteFront w.before w.after text × Unfinished w

-- the text was written whole and the sink finished, or the sink has failed within that
abbrev pub WroteOrFailed : Written → List ℕ → Type 0
WroteOrFailed w text = WroteLast w text ⊎ FailedWithin w text

-- what was read from a source
pub record Taken : Type 1 where
  pub before : Option (List ℕ)
  pub after : Option (List ℕ)
  -- whether the source has failed, before and now
  pub failed_before : Bool
  pub failed : Bool
  -- the number of gets that can still succeed, before and now
  pub gets_before : ℕ
  pub gets : ℕ
  -- whether the only calls were gets of these pieces, one after the other
  pub gave : List (List ℕ) → Type 0

abbrev pub taken_from : {S : Type 0} → SourceGhosts S → (old new : S) → Taken
taken_from s old new = record {
  before = s.to_come old;
  after = s.to_come new;
  failed_before = s.has_failed old;
  failed = s.has_failed new;
  gets_before = s.gets_left old;
  gets = s.gets_left new;
  gave = Calls s.Gave old new;
}

-- no get was made
abbrev pub TookNothing : Taken → Type 0
TookNothing t = (t.after ≡ t.before) × (t.failed ≡ t.failed_before) × (t.gets ≡ t.gets_before)

-- at most `n` reads returned data
abbrev pub GotAtMost : Taken → ℕ → Type 0
GotAtMost t n = t.gets_before ≤ t.gets + n

-- gets returned these pieces, none of them empty, and then one returned no bytes
abbrev pub GotUpToEnd : Taken → List (List ℕ) → Type 0
GotUpToEnd t pieces = t.gave (pieces ++ [] ∷ []) × All (λ piece. 0 < length piece) pieces
    × (t.gets_before ≡ t.gets + (length pieces + 1))

-- gets returned all bytes up to the end of the input, and they have this property, also if the source does not report
-- its bytes
abbrev pub TookAll : Taken → (List ℕ → Type 0) → Type 0
TookAll t Of = (pieces : List (List ℕ)) × GotUpToEnd t pieces × Consumes t.before t.after (concat pieces)
    × IsAtEnd t.after × Of (concat pieces)

-- bytes with this property were taken, by at most one get for each byte and one more
abbrev pub TookSome : Taken → (List ℕ → Type 0) → Type 0
TookSome t Of = (bytes : List ℕ) × Consumes t.before t.after bytes × GotAtMost t (length bytes + 1) × Of bytes

-- bytes with this property were taken, by at most one get for each byte, and then a get failed
abbrev pub TookPart : Taken → (List ℕ → Type 0) → Type 0
TookPart t Of = (t.failed ≡ true)
    × ((bytes : List ℕ) × ConsumesOrHides t.before t.after bytes × GotAtMost t (length bytes) × Of bytes)

-- if the source reports its bytes, all of them were taken, and they have this property
abbrev pub TookReported : Taken → (List ℕ → Type 0) → Type 0
TookReported t Of = IfSome t.before (λ bytes. (t.after ≡ Some []) × Of bytes)
