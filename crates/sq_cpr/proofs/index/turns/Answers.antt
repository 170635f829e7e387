use Rattle.std.proofs.Common.{◌*◌, pos, neg_ℤ, arith, ◌-ℤ◌, ◌*ℤ◌, ◌≤ℤ◌, ◌<ℤ◌}
use Rattle.std.proofs.lemmas.Int.{ints}
use Rattle.sq_angle.proofs.Sizes.{back}
use Rattle.sq_angle.proofs.Windows.{turns_parts}
use Rattle.sq_cpr.proofs.index.turns.Goals as goal

parts : (c : goal.After-far_quotient)
    → (neg_ℤ (pos c.args.width) <ℤ (pos 2 *ℤ c.args.away -ℤ pos (2 * c.args.width) *ℤ c.far_quotient.result))
    × ((pos 2 *ℤ c.args.away -ℤ pos (2 * c.args.width) *ℤ c.far_quotient.result) ≤ℤ pos c.args.width)
parts c = turns_parts c.args.away c.far_quotient.result c.args.width c.requires.width_some
    (omega (arith, ints, c.far_quotient.ensures.reached)) (omega (arith, ints, c.far_quotient.ensures.next))

pub returns-clause-above : goal.returns-clause-above
returns-clause-above c = rw (back c.far_quotient.result c.far_quotient.type_inv) (parts c).0

pub returns-clause-below : goal.returns-clause-below
returns-clause-below c = rw (back c.far_quotient.result c.far_quotient.type_inv) (parts c).1
