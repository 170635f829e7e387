-- What two runs of the program with one command line have in common, and what a run did that broke off.
use Rattle.std.specs.Prelude.{◌≡◌, ◌≢◌, ◌⊎◌, ℕ, List, Some, codes, false}
use Rattle.sq_devices.specs.Changes.{TookNothing, WroteNothing, WroteOrFailed, taken_from, written_on}
use Rattle.sq_devices.specs.declared.device.Sink.{Ghosts as SinkGhosts}
use Rattle.sq_devices.specs.declared.device.Source.{Ghosts as SourceGhosts}
use Rattle.sq_commands.specs.Requests.{Asked, Text}
use Rattle.sq_words.specs.Requests.{Asks, IsFaulty}
use Rattle.sq_commands.specs.declared.status.Status.{Status}
use Rattle.sq_commands.specs.declared.status.Status.TheVariants.{Broken}
use Rattle.sq_commands.specs.OneRun.{Devices, WroteAlike, between}
use Rattle.sq_commands.specs.Outputs.{effects, outputs}
use Rattle.sq_commands.specs.Runs.{IsRun}
use Rattle.sq_tool.specs.Program.{IsProgramRun}

-- Two runs with one command line have one status and do the same, if the same bytes are to come, no device failed,
-- and memory was granted. If clap finds an error in the words, this says nothing about the report.
abbrev pub OneProgramRun : {S K F T L G : Type 0} → SourceGhosts S → SinkGhosts K → SinkGhosts F → SourceGhosts T
    → SinkGhosts L → SinkGhosts G → Type 0
OneProgramRun {S} {K} {F} {T} {L} {G} s k f t l g =
    (words : List Text) (a b : Status) (old new : Devices S K F) (other last : Devices T L G) (bytes : List ℕ)
    → s.to_come old.input ≡ Some bytes → t.to_come other.input ≡ Some bytes
    → IsProgramRun words a (between s k f old new) → IsProgramRun words b (between t l g other last)
    → a ≢ Broken → b ≢ Broken → f.has_failed new.faults ≡ false → g.has_failed last.faults ≡ false
    → (a ≡ b) × WroteAlike (written_on k old.output new.output) (written_on l other.output last.output)
    × (IsFaulty words
    ⊎ WroteAlike (written_on f old.faults new.faults) (written_on g other.faults last.faults))
    × (s.to_come new.input ≡ t.to_come last.input)

-- A run of the program that broke off: either its request broke off, or there was no memory to read the words.
abbrev pub BrokenProgram : {S K F : Type 0} → SourceGhosts S → SinkGhosts K → SinkGhosts F → Type 0
BrokenProgram {S} {K} {F} s k f = (words : List Text) (from to : S) (old new : K) (before after : F)
    → IsProgramRun words Broken (effects s from to (outputs k f old new before after))
    → ((asked : Asked) × Asks words asked × IsRun asked Broken (effects s from to (outputs k f old new before after)))
    ⊎ (TookNothing (taken_from s from to) × WroteNothing (written_on k old new)
    × WroteOrFailed (written_on f before after) (codes "out of memory\n"))
