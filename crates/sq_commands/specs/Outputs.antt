-- The effects of a command on its devices.
use Rattle.std.specs.Prelude.{◌++◌, ℕ, List, codes}
use Rattle.sq_devices.specs.declared.device.Sink.{Ghosts as SinkGhosts}
use Rattle.sq_devices.specs.declared.device.Source.{Ghosts as SourceGhosts}
use Rattle.sq_devices.specs.Changes.{Taken, WroteOrFailed, Written, taken_from, written_on}

-- the bytes written to the output, and to the sink for faults
pub record Outputs : Type 1 where
  pub output : Written
  pub reports : Written

abbrev pub outputs : {K F : Type 0} → SinkGhosts K → SinkGhosts F → (output output' : K) → (faults faults' : F)
    → Outputs
outputs k f output output' faults faults' =
    record { output = written_on k output output'; reports = written_on f faults faults' }

-- the bytes read from the input, and written to both outputs
pub record Effects : Type 1 where
  pub input : Taken
  pub outputs : Outputs

abbrev pub effects : {S : Type 0} → SourceGhosts S → (input input' : S) → Outputs → Effects
effects s input input' o = record { input = taken_from s input input'; outputs = o }

-- the line was reported, or the sink for faults failed within it
abbrev pub Reported : Outputs → List ℕ → Type 0
Reported o line = WroteOrFailed o.reports (line ++ codes "\n")
