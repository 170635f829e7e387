use Rattle.std.proofs.Common.{◌≡◌, ◌∙◌, pos, ◌+ℤ◌, ◌*ℤ◌, to_z, of_z, arith}
use Rattle.std.specs.Int.{w64}
use Rattle.sq_angle.specs.Angle.{degrees}
use Rattle.sq_angle.proofs.Sizes.{back64}
use Rattle.sq_cpr.specs.Grid.{codes_of_zone}
use Rattle.sq_cpr.proofs.Distances.Agree.{representative_from_within}
use Rattle.sq_cpr.proofs.Grids.Bits32.{back32}
use Rattle.sq_cpr.proofs.Decoding.Pairs.{close_pair, paired_latitudes}
use Rattle.sq_cpr.proofs.decode_pair.close_latitudes.Goals as goal

even_base : (c : goal.After-index_within-2)
    → to_z w64 (of_z w64 c.index_of-even.result) ≡ pos c.args.even.lat +ℤ pos codes_of_zone *ℤ c.pair_zone-zone.result
even_base c = back64 c.index_of-even.result (record { sfits = c.index_of-even.type_inv })
    ∙ (rw (
      back64 c.pair_zone-zone.result (record { sfits = c.pair_zone-zone.type_inv }),
      c.lat-3.ensures.value,
    ) at c.index_of-even.ensures.value)

odd_base : (c : goal.After-index_within-2)
    → to_z w64 (of_z w64 c.index_of-odd.result) ≡ pos c.args.odd.lat +ℤ pos codes_of_zone *ℤ c.pair_zone-zone.result
odd_base c = back64 c.index_of-odd.result (record { sfits = c.index_of-odd.type_inv })
    ∙ (rw (
      back64 c.pair_zone-zone.result (record { sfits = c.pair_zone-zone.type_inv }),
      c.lat-4.ensures.value,
    ) at c.index_of-odd.ensures.value)

pub returns-clause-latitudes : goal.returns-clause-latitudes
returns-clause-latitudes c =
    rw (back32 c.index_within.result c.index_within.type_inv, back32 c.index_within-2.result c.index_within-2.type_inv)
    (close_pair c.args.span 60 59 c.args.even.lat c.args.odd.lat c.pair_zone-zone.result c.index_within.result
    c.index_within-2.result c.requires.span_some (omega arith) (omega arith)
    paired_latitudes (rw (c.lat.ensures.value, c.lat-2.ensures.value) at c.pair_zone-zone.ensures.zone)
    (rw (even_base c) at c.index_within.ensures.congruent) (rw (odd_base c) at c.index_within-2.ensures.congruent))

pub returns-clause-at : goal.returns-clause-at
returns-clause-at c =
    rw (back32 c.index_within.result c.index_within.type_inv, back32 c.index_within-2.result c.index_within-2.type_inv)
    (record {
      even = representative_from_within c.args.span 60 c.index_within.result
          (degrees c.args.reference.now) c.index_within.ensures.within;
      odd = representative_from_within c.args.span 59 c.index_within-2.result
          (degrees c.args.reference.now) c.index_within-2.ensures.within;
    })
