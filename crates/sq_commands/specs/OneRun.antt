-- Two runs of one request.
use Rattle.std.specs.Prelude.{◌≡◌, ◌≢◌, ◌⊎◌, ℕ, List, Some, false}
use Rattle.sq_devices.specs.Changes.{WroteLast, WroteNothing, Written, written_on}
use Rattle.sq_devices.specs.declared.device.Sink.{Ghosts as SinkGhosts}
use Rattle.sq_devices.specs.declared.device.Source.{Ghosts as SourceGhosts}
use Rattle.sq_commands.specs.Requests.{Asked, AskedReply, Reply}
use Rattle.sq_commands.specs.declared.status.Status.{Status}
use Rattle.sq_commands.specs.declared.status.Status.TheVariants.{Broken}
use Rattle.sq_commands.specs.Outputs.{Effects, effects, outputs}
use Rattle.sq_commands.specs.Runs.{IsRun}

-- an input, an output and a sink for faults
pub record Devices (S K F : Type 0) : Type 0 where
  pub input : S
  pub output : K
  pub faults : F

-- any three devices can be taken together, and are then these three
abbrev pub AnyDevices : (S K F : Type 0) → Type 0
AnyDevices S K F = (input : S) (output : K) (faults : F)
    → (d : Devices S K F) × (d.input ≡ input) × (d.output ≡ output) × (d.faults ≡ faults)

-- the effects on devices that were these before, and are those after
abbrev pub between : {S K F : Type 0} → SourceGhosts S → SinkGhosts K → SinkGhosts F → (old new : Devices S K F)
    → Effects
between s k f old new =
    effects s old.input new.input (outputs k f old.output new.output old.faults new.faults)

-- both outputs were left alone, or the same text was written to both, and each was then finished once
abbrev pub WroteAlike : Written → Written → Type 0
WroteAlike v w = (WroteNothing v × WroteNothing w) ⊎ ((text : List ℕ) × WroteLast v text × WroteLast w text)

-- the same writing to two outputs with the same bytes leaves them with the same bytes
abbrev pub AlikeOutputsEndAlike : {K L : Type 0} → SinkGhosts K → SinkGhosts L → Type 0
AlikeOutputsEndAlike {K} {L} k l = (old new : K) (other last : L) (bytes : List ℕ)
    → WroteAlike (written_on k old new) (written_on l other last)
    → k.written old ≡ Some bytes → l.written other ≡ Some bytes → k.written new ≡ l.written last

-- Two runs of one request on the same input have one status and the same effects, if no device failed and memory was
-- granted. The devices may be of different kinds.
abbrev pub OneRun : {S K F T L G : Type 0} → SourceGhosts S → SinkGhosts K → SinkGhosts F → SourceGhosts T
    → SinkGhosts L → SinkGhosts G → Type 0
OneRun {S} {K} {F} {T} {L} {G} s k f t l g =
    (words : Asked) (a b : Status) (old new : Devices S K F) (other last : Devices T L G) (bytes : List ℕ)
    → s.to_come old.input ≡ Some bytes → t.to_come other.input ≡ Some bytes
    → IsRun words a (between s k f old new) → IsRun words b (between t l g other last)
    → a ≢ Broken → b ≢ Broken → f.has_failed new.faults ≡ false → g.has_failed last.faults ≡ false
    → (a ≡ b) × WroteAlike (written_on k old.output new.output) (written_on l other.output last.output)
    × WroteAlike (written_on f old.faults new.faults) (written_on g other.faults last.faults)
    × (s.to_come new.input ≡ t.to_come last.input)

-- two runs of a command that reads no input have one status, and write the same, whatever the inputs are
abbrev pub OneRunAside : {S K F T L G : Type 0} → SourceGhosts S → SinkGhosts K → SinkGhosts F → SourceGhosts T
    → SinkGhosts L → SinkGhosts G → Type 0
OneRunAside {S} {K} {F} {T} {L} {G} s k f t l g =
    (words : AskedReply) (a b : Status) (old new : Devices S K F) (other last : Devices T L G)
    → IsRun (Reply words) a (between s k f old new) → IsRun (Reply words) b (between t l g other last)
    → a ≢ Broken → b ≢ Broken → f.has_failed new.faults ≡ false → g.has_failed last.faults ≡ false
    → (a ≡ b) × WroteAlike (written_on k old.output new.output) (written_on l other.output last.output)
    × WroteAlike (written_on f old.faults new.faults) (written_on g other.faults last.faults)
