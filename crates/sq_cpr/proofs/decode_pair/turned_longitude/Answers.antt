use Rattle.std.proofs.Common.{◌≡◌, ◌∙◌, ◌*◌, ◌≤◌, pos, arith, sym, subst, to_z, of_z}
use Rattle.std.proofs.lemmas.Int.{ints}
use Rattle.std.specs.Int.{w64}
use Rattle.sq_angle.specs.Angle.{degrees}
use Rattle.sq_angle.specs.Whole.{IsCongruent}
use Rattle.sq_angle.proofs.Congruence.{congruent_sym, congruent_trans}
use Rattle.sq_angle.proofs.Sizes.{back64}
use Rattle.sq_cpr.specs.Grid.{circle, codes_of_zone}
use Rattle.sq_cpr.proofs.Distances.Agree.{representative_from_within}
use Rattle.sq_cpr.proofs.Decoding.Pairs.{one_representative}
use Rattle.sq_cpr.proofs.decode_pair.turned_longitude.Goals as goal

pub returns-then-repeats_of-eq1-clause-index : goal.returns-then-repeats_of-eq1-clause-index
returns-then-repeats_of-eq1-clause-index g c =
    let w = c.degrees_of-span.ensures.value in
    let some : 1 ≤ g.S.Span.span.degrees = subst (λ n. 1 ≤ n) w c.degrees_of-span.ensures.some in
    let one = one_representative g.S.Span.span.degrees c.args.zones c.args.base (degrees c.args.reference.now) some
    c.requires.zones_some c.args.reference.now.in_range.positive in
    let once : g.S.Span.span.repeats ≡ 1 = sym c.repeats_of.ensures.value ∙ c.if-repeats_of-eq1.true in
    let whole : circle c.args.zones 1 ≡ c.args.zones * codes_of_zone = omega arith in
    let around : IsCongruent (c.args.zones * codes_of_zone) (pos c.on_circle.result) c.args.base =
    rw (whole, back64 c.args.base c.ranges.base) at c.on_circle.ensures.congruent in
    (one.0, one.1.0, one.1.1, rw (once, whole) (congruent_trans around (congruent_sym one.1.0)))

pub returns-clause-index : goal.returns-clause-index
returns-clause-index g c =
    let w = c.degrees_of-span.ensures.value in
    let widened : to_z w64 (of_z w64 c.from.result) ≡ c.index_within-turned.result =
    omega (arith, ints, c.from.ensures, c.index_within-turned.type_inv) in (
      c.index_within-turned.result,
      rw (back64 c.args.base c.ranges.base) at c.index_within-turned.ensures.congruent,
      representative_from_within g.S.Span.span.degrees c.args.zones c.index_within-turned.result
          (degrees c.args.reference.now) (rw w at c.index_within-turned.ensures.within),
      rw (widened, c.repeats_of-2.ensures.value) at c.on_circle-2.ensures.congruent,
    )
