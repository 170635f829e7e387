use Rattle.std.proofs.Common.{ℕ, ◌*◌, ap₂, ◌∙◌, arith}
use Rattle.sq_cpr.proofs.Grids.Spans.{east_small}
use Rattle.sq_cpr.proofs.grid.lon_angle.Goals as goal

pub west_from_180-num-requires-clause-of_circle : goal.west_from_180-num-requires-clause-of_circle
west_from_180-num-requires-clause-of_circle g c =
    let s = g.S.Span in
    let small = east_small s.span.degrees s.span.repeats c.args.zones c.args.lon_index s.full_circle
    c.requires.of_circle in
    let east_is = ap₂ (λ (m n : ℕ). m * n) (c.from.ensures ∙ c.degrees_of.ensures.value) c.from-2.ensures in
    omega arith
