use Rattle.std.proofs.Common.{◌*◌, ◌/◌, ◌≤◌, ◌^◌, ℕ, get_or, ap₂, ◌∙◌, arith}
use Rattle.std.proofs.lemmas.Nat.{mul-le}
use Rattle.sq_angle.specs.declared.quotients.TheConstants.{RECIPROCALS}
use Rattle.sq_angle.proofs.Reciprocals.{entry, by_reciprocal}
use Rattle.sq_angle.proofs.quotients.by_zones.Goals as goal

pub returns : goal.returns
returns c =
    let x = c.args.value in
    let z = c.args.zones in
    let r : ℕ = get_or RECIPROCALS z 0 in
    let near = entry z c.requires.some c.requires.few in
    let size : x * z ≤ 2 ^ 39 * 127 =
    mul-le x z (2 ^ 39) 127 (omega (arith, c.requires.value)) (omega (arith, c.requires.few)) in
    ap₂ (λ (v : ℕ) (f : ℕ). v * f / 2 ^ 48) c.from.ensures c.from-2.ensures
    ∙ by_reciprocal x z r c.requires.some near.0 near.1 (omega (arith, size))
