use Rattle.std.proofs.Common.{ℕ, ◌*◌, ◌<◌, ◌≤◌, arith}
use Rattle.std.proofs.lemmas.Int.{ints}
use Rattle.std.proofs.lemmas.Nat.{mul-le}
use Rattle.sq_cpr.specs.Grid.{codes_of_zone}
use Rattle.sq_cpr.proofs.index.pair_zone.Goals as goal

size : (zones code : ℕ) → zones ≤ 60 → code < codes_of_zone → zones * code ≤ 60 * 131071
size zones code h k = mul-le zones code 60 131071 h (omega arith)

pub returns-clause-zone : goal.returns-clause-zone
returns-clause-zone c =
    let above = size c.args.odd_zones c.args.even c.requires.odd_zones_small c.requires.even_small in
    let below = size c.args.even_zones c.args.odd c.requires.even_zones_small c.requires.odd_small in
    record { from = omega (arith, ints); below = omega (arith, ints) }

pub returns-clause-small : goal.returns-clause-small
returns-clause-small c =
    let above = size c.args.odd_zones c.args.even c.requires.odd_zones_small c.requires.even_small in
    let below = size c.args.even_zones c.args.odd c.requires.even_zones_small c.requires.odd_small in
    omega (arith, ints)
