use Rattle.std.proofs.Common.{sym, ◌∙◌, subst₂}
use Rattle.sq_angle.specs.Fraction.{Fraction}
use Rattle.sq_angle.specs.Angle.{degrees}
use Rattle.sq_angle.specs.Position.{lat_of, lon_of}
use Rattle.sq_cpr.specs.Rounds.{RoundsTo}
use Rattle.sq_cpr.proofs.Grids.Points.{rounds_once, rounds_to_itself}
use Rattle.sq_cpr.proofs.encoding.nearest.Goals as goal

pub returns-clause-only : goal.returns-clause-only
returns-clause-only g c = λ point parity rounds.
    let s = g.S.Span in
    let found = c.rounded.ensures in
    let at = c.args.position.now in
    rounds_once s.span (degrees (lat_of at)) (degrees (lon_of at)) point c.rounded.result
    (parity ∙ sym found.parity) rounds found.rounds

pub returns-clause-itself : goal.returns-clause-itself
returns-clause-itself g c = λ point of_grid parity lat lon.
    let s = g.S.Span in
    let found = c.rounded.ensures in
    let at = c.args.position.now in
    let rounds = subst₂ (λ (x y : Fraction). RoundsTo s.span x y point) (sym lat) (sym lon)
    (rounds_to_itself s.span s.full_circle point of_grid) in
    rounds_once s.span (degrees (lat_of at)) (degrees (lon_of at)) point c.rounded.result
    (parity ∙ sym found.parity) rounds found.rounds
