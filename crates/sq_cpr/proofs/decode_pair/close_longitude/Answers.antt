use Rattle.std.proofs.Common.{◌≡◌, ◌∙◌, pos, ◌+ℤ◌, ◌*ℤ◌, subst, to_z, of_z}
use Rattle.std.specs.Int.{w64}
use Rattle.sq_angle.specs.Angle.{degrees}
use Rattle.sq_angle.specs.Whole.{IsCongruent}
use Rattle.sq_angle.proofs.Sizes.{back64}
use Rattle.sq_zones.specs.declared.parity.Parity.TheVariants.{Even, Odd}
use Rattle.sq_cpr.specs.Grid.{circle, codes_of_zone}
use Rattle.sq_cpr.specs.Near.{IsRepresentative, angle_at}
use Rattle.sq_cpr.specs.Close.{zones_of}
use Rattle.sq_cpr.specs.Multiplied.{IsZoneIndex}
use Rattle.sq_cpr.specs.Pair.{of_parity}
use Rattle.sq_cpr.proofs.Decoding.Pairs.{newest_of_pair}
use Rattle.sq_cpr.proofs.Grids.Spans.{span_limits}
use Rattle.sq_cpr.proofs.decode_pair.close_longitude.Goals as goal
use Rattle.sq_cpr.proofs.decode_pair.close_longitude.Given.{Over}

base : (g : Over) (c : goal.After-turned_longitude g)
    → to_z w64 (of_z w64 c.index_of-base.result)
    ≡ pos (of_parity c.args.newest c.args.even.lon c.args.odd.lon) +ℤ pos codes_of_zone *ℤ c.pair_zone-zone.result
base g c = back64 c.index_of-base.result (record { sfits = c.index_of-base.type_inv })
    ∙ (rw (
      back64 c.pair_zone-zone.result (record { sfits = c.pair_zone-zone.type_inv }),
      c.lon_of_newest.ensures.value,
    ) at c.index_of-base.ensures.value)

zone : (g : Over) (c : goal.After-turned_longitude g)
    → IsZoneIndex (zones_of Even c.args.count)
    (zones_of Odd c.args.count) c.args.even.lon c.args.odd.lon c.pair_zone-zone.result
zone g c = rw (
  c.zones_of.ensures.value,
  c.zones_of-2.ensures.value,
  c.lon.ensures.value,
  c.lon-2.ensures.value,
) at c.pair_zone-zone.ensures.zone

pub returns-clause-longitudes : goal.returns-clause-longitudes
returns-clause-longitudes g c =
    let some = (span_limits g.S.Span.span g.S.Span.full_circle).0 in
    let n = c.zones_of-3.ensures.value in
    let found = c.turned_longitude.ensures.index in
    let pair = newest_of_pair g.S.Span.span.degrees c.args.count c.args.even.lon c.args.odd.lon c.args.newest
    c.pair_zone-zone.result found.0 some c.requires.count_some (zone g c) (rw (base g c, n) at found.1) in (
      pair.0,
      pair.1,
      pair.2,
      subst (λ index. IsRepresentative g.S.Span.span.degrees (degrees c.args.reference.now)
          (angle_at g.S.Span.span.degrees (zones_of c.args.newest c.args.count) index)) pair.3 (rw n at found.2),
      subst (IsCongruent (circle (zones_of c.args.newest c.args.count) g.S.Span.span.repeats)
          (pos c.turned_longitude.result)) pair.3 (rw n at found.3),
    )

pub returns-clause-below : goal.returns-clause-below
returns-clause-below g c = rw c.zones_of-3.ensures.value at c.turned_longitude.ensures.below
