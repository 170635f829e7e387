use Rattle.std.proofs.Common.{◌≡◌, ◌≤◌, ◌<◌, ◌*◌, ◌^◌, ◌⊎◌, ◌-◌, ℕ}
use Rattle.squitter_c.proofs.listener.groups_for.Given as goal

abbrev pub invariant-loop-groups : goal.invariant-loop-groups
invariant-loop-groups l = (exponent : ℕ) × (l.groups ≡ 2 ^ exponent) × (1 ≤ l.groups)
    × ((exponent ≡ 0) ⊎ (9 * l.groups < 4 * l.addresses))

abbrev pub decreases-loop-groups : goal.decreases-loop-groups
decreases-loop-groups l = 2 * l.addresses - l.groups
