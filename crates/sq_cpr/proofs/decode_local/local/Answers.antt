use Rattle.std.proofs.Common.{◌≡◌, ◌∙◌, pos, to_z, of_z, ap, arith, refl, true, false}
use Rattle.std.proofs.lemmas.Int.{ints}
use Rattle.std.specs.Int.{w64}
use Rattle.sq_angle.specs.Angle.{degrees}
use Rattle.sq_angle.specs.Position.{lat_of, lon_of}
use Rattle.sq_angle.specs.Whole.{IsCongruent}
use Rattle.sq_zones.specs.Zones.{lon_zones_at}
use Rattle.sq_cpr.specs.Code.{numbers_of}
use Rattle.sq_cpr.specs.Grid.{Point, circle}
use Rattle.sq_cpr.specs.Local.{IsNearLatitude}
use Rattle.sq_cpr.specs.Multiplied.{LiesWithin}
use Rattle.sq_cpr.proofs.Grids.Bits32.{back32}
use Rattle.sq_cpr.proofs.Decoding.Decoded.{near_latitude, local_point}
use Rattle.sq_cpr.proofs.decode_local.local.Goals as goal
use Rattle.sq_cpr.proofs.decode_local.local.Given.{Over}

pub returns-in_default : goal.returns-in_default
returns-in_default g c =
    let base_is : to_z w64 c.lat.result ≡ pos c.args.code.lat =
    rw c.lat.ensures.value (omega (arith, ints, c.args.code.lat_below)) in
    let near =
    near_latitude c.degrees_of-span.result c.lat_zones.result c.args.code.lat c.args.parity
    (degrees (lat_of c.args.reference.now)) _ c.index_within-lat_index.result c.lat_zones.ensures base_is
    c.index_within-lat_index.ensures.congruent (rw c.lat-2.ensures at c.index_within-lat_index.ensures.within) in (
      c.index_within-lat_index.result,
      rw c.degrees_of-span.ensures.value at near,
      λ inside.
          let some = c.angle_at.ensures.variant.1
          (rw (back32 c.index_within-lat_index.result c.index_within-lat_index.type_inv) inside) in
          let none : false ≡ true = rw c.in_default.is at some in
          absurd cc,
    )

pub of_parts-requires : goal.of_parts-requires
of_parts-requires g c =
    record {
      north_south = c.in-Some.ensures.variant.0 refl;
      zones = c.lon_zones-zones.ensures.value ∙ ap (lon_zones_at c.args.parity) c.in-Some.ensures.value;
      east_west = rw c.repeats_of.ensures.value at c.on_circle-lon_index.ensures.below;
    }

module _ (g : Over) (c : goal.After-of_parts g) where
  index_is : c.of_parts.result.lat_index ≡ c.index_within-lat_index.result
  index_is = ap (λ (p : Point). p.lat_index) c.of_parts.ensures.value
      ∙ back32 c.index_within-lat_index.result c.index_within-lat_index.type_inv

  zones_are : c.of_parts.result.zones ≡ c.lon_zones-zones.result
  zones_are = ap (λ (p : Point). p.zones) c.of_parts.ensures.value

  near : IsNearLatitude g.S.Span.span.degrees c.args.parity
      (degrees (lat_of c.args.reference.now)) c.args.code.lat c.of_parts.result.lat_index
  near =
      let base_is : to_z w64 c.lat.result ≡ pos c.args.code.lat =
      rw c.lat.ensures.value (omega (arith, ints, c.args.code.lat_below)) in
      rw (index_is, ← c.degrees_of-span.ensures.value)
      (near_latitude c.degrees_of-span.result c.lat_zones.result c.args.code.lat c.args.parity
      (degrees (lat_of c.args.reference.now)) _ c.index_within-lat_index.result c.lat_zones.ensures base_is
      c.index_within-lat_index.ensures.congruent (rw c.lat-2.ensures at c.index_within-lat_index.ensures.within))

  within : LiesWithin 1 g.S.Span.span.degrees c.of_parts.result.zones c.index_within-turned.result
      (degrees (lon_of c.args.reference.now))
  within = rw zones_are (rw (c.lon-2.ensures, c.degrees_of-span.ensures.value) at c.index_within-turned.ensures.within)

  around : IsCongruent (circle c.of_parts.result.zones g.S.Span.span.repeats)
      (pos c.of_parts.result.lon_index) c.index_within-turned.result
  around =
      let lon_is : c.of_parts.result.lon_index ≡ c.on_circle-lon_index.result =
      ap (λ (p : Point). p.lon_index) c.of_parts.ensures.value in
      let widened : to_z w64 (of_z w64 c.from.result) ≡ c.index_within-turned.result =
      omega (arith, ints, c.from.ensures, c.index_within-turned.type_inv) in
      rw (zones_are, lon_is) (rw (widened, c.repeats_of.ensures.value) at c.on_circle-lon_index.ensures.congruent)

pub returns : goal.returns
returns g c =
    let base_is : to_z w64 c.lon.result ≡ pos c.args.code.lon =
    rw c.lon.ensures.value (omega (arith, ints, c.args.code.lon_below)) in
    let parity_is = ap (λ (p : Point). p.parity) c.of_parts.ensures.value in
    local_point g.S.Span.span (numbers_of c.args.code) c.args.parity
    (degrees (lat_of c.args.reference.now))
    (degrees (lon_of c.args.reference.now)) c.of_parts.result _ c.index_within-turned.result
    c.of_parts.ensures.of_grid parity_is (near g c) base_is c.index_within-turned.ensures.congruent (within g c)
    (around g c)
