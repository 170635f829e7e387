use Rattle.std.proofs.Common.{◌≡◌, ℕ, ℤ, pos, to_z, of_z, w64, arith, subst, subst₂}
use Rattle.std.proofs.lemmas.Int.{ints}
use Rattle.sq_angle.specs.Angle.{degrees}
use Rattle.sq_angle.specs.Nearest.{IsNearest}
use Rattle.sq_angle.specs.Whole.{IsCongruent}
use Rattle.sq_angle.proofs.Congruence.{congruent_sym}
use Rattle.sq_cpr.specs.Grid.{step, circle}
use Rattle.sq_cpr.proofs.encoding.nearest_longitude.Goals as goal

pub returns-clause-nearest : goal.returns-clause-nearest
returns-clause-nearest g c =
    let index = c.nearest_index-index.result in
    let near = subst (λ degrees'. IsNearest (degrees c.args.lon.now)
    (step degrees' c.args.zones) index) c.degrees_of.ensures.value c.nearest_index-index.ensures.nearest in
    let back : to_z w64 (of_z w64 index) ≡ index = omega (arith, ints, c.nearest_index-index.ensures.small) in
    let same = subst₂ (λ (repeats : ℕ) (i : ℤ). IsCongruent (circle c.args.zones repeats)
    (pos c.on_circle.result) i) c.repeats_of.ensures.value back c.on_circle.ensures.congruent in
    (index, near, congruent_sym same)
