use Rattle.std.proofs.Common.{◌≡◌, ℕ, ◌*◌, ◌^◌, ◌<◌, ◌≤◌, pos, arith, FitsSigned, mul-le-mul}
use Rattle.std.proofs.lemmas.Int.{ints, to_z-of_z, to_z_pos}
use Rattle.std.specs.Int.{w64, int_rem_euclid}
use Rattle.sq_angle.proofs.Sizes.{mul_pos}
use Rattle.sq_angle.proofs.Congruence.{residue_of}
use Rattle.sq_cpr.specs.Grid.{codes_of_zone, circle}
use Rattle.sq_cpr.proofs.index.on_circle.Goals as goal
use Rattle.sq_cpr.proofs.index.on_circle.Goals.{then-index-lt0, else-index-lt0}

circle_size : (zones repeats : ℕ) → zones ≤ 59 → repeats ≤ 360 → circle zones repeats < 2 ^ 63
circle_size zones repeats p q = let h : zones * repeats ≤ 59 * 360 = mul-le-mul p q in omega arith

pub returns-clause-congruent : goal.returns-clause-congruent
returns-clause-congruent c =
    let e : c.rem_euclid.result ≡ int_rem_euclid c.args.index (pos (circle c.args.zones c.args.repeats)) =
    rw (
      to_z-of_z w64 c.args.index c.ranges.index,
      to_z_pos w64 (circle c.args.zones c.args.repeats)
          (circle_size c.args.zones c.args.repeats c.requires.small_zones c.requires.small_repeats),
    ) at c.rem_euclid.ensures.value in
    let positive : 0 < circle c.args.zones c.args.repeats =
    mul_pos (c.args.zones * codes_of_zone) c.args.repeats (omega arith) c.requires.some_repeats in
    let f : FitsSigned w64 c.rem_euclid.result = record { sfits = c.rem_euclid.type_inv } in
    rw (to_z-of_z w64 c.rem_euclid.result f)
    (residue_of (circle c.args.zones c.args.repeats) c.args.index c.rem_euclid.result positive e)

pub returns-then-turned-circle-clause-congruent : goal.returns-then-turned-circle-clause-congruent
returns-then-turned-circle-clause-congruent c =
    let size = circle_size c.args.zones c.args.repeats c.requires.small_zones c.requires.small_repeats in
    elim c.if-index-lt0.branch [
      | then-index-lt0 w ↦ record {
        times = pos 1;
        apart = omega (arith, ints, size, w.turned-is, w.if-index-lt0.true, c.if-turned-ge0.true, c.ranges.index);
      }
      | else-index-lt0 w ↦ record {
        times = pos 0;
        apart = omega (arith, ints, w.turned-is, c.if-turned-ge0.true, c.ranges.index);
      }
    ]
