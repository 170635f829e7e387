use Rattle.std.proofs.Common.{rules, ◌+ℤ◌, ◌*ℤ◌, ◌≤ℤ◌, ◌<ℤ◌, ◌≤◌, unsigned_abs, FitsSigned}
use Rattle.std.proofs.lemmas.Int.{to_z-of_z}
use Rattle.std.specs.Int.{w64}
use Rattle.sq_cpr.proofs.Grids.Indices.{quotient_parts}
use Rattle.sq_cpr.proofs.index.short_quotient.Goals as goal

parts : (c : goal.After-div_euclid)
    → ((c.args.divisor *ℤ c.div_euclid.result) ≤ℤ c.args.value)
    × (c.args.value <ℤ (c.args.divisor *ℤ c.div_euclid.result +ℤ c.args.divisor))
    × (unsigned_abs c.div_euclid.result ≤ unsigned_abs c.args.value)
parts c =
    quotient_parts c.args.value c.div_euclid.result c.args.divisor c.requires
    (rw (
      to_z-of_z w64 c.args.value c.ranges.value,
      to_z-of_z w64 c.args.divisor c.ranges.divisor,
    ) at c.div_euclid.ensures)

fits : (c : goal.After-div_euclid) → FitsSigned w64 c.div_euclid.result
fits c = search rules

pub returns-clause-reached : goal.returns-clause-reached
returns-clause-reached c = rw (to_z-of_z w64 c.div_euclid.result (fits c)) (parts c).0

pub returns-clause-next : goal.returns-clause-next
returns-clause-next c = rw (to_z-of_z w64 c.div_euclid.result (fits c)) (parts c).1
