use Rattle.std.proofs.Common.{◌≤◌, length, option_map}
use Rattle.squitter_c.specs.Calls.{IsBelow, Leads}
use Rattle.squitter_c.specs.Trackers.{IsHeardThere}
use Rattle.squitter_c.proofs.tracker_many.squitter_tracker_hear_many.Given as goal

abbrev pub invariant-loop-at : goal.invariant-loop-at
invariant-loop-at l =
    (l.count ≤ length l.moments) × (l.count ≤ length l.frames) × (l.count ≤ length l.out) × (l.count ≤ length l.faults)
    × IsBelow l.initial.out l.out l.initial.faults l.faults l.at
    × Leads (IsHeardThere l.moments l.frames) (option_map (λ b. b.value) l.initial.held) l.initial.out l.out l.faults
    l.at (option_map (λ b. b.value) l.held)
