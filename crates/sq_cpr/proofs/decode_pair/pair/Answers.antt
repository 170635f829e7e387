use Rattle.std.proofs.Common.{◌∙◌, ℕ, ap, refl, rules, FitsSigned}
use Rattle.std.specs.Int.{w32}
use Rattle.sq_cpr.specs.Grid.{Point}
use Rattle.sq_cpr.specs.Close.{zones_of}
use Rattle.sq_cpr.proofs.Grids.Bits32.{back32}
use Rattle.sq_cpr.proofs.Decoding.Decoded.{found_pair, point_of_pair}
use Rattle.sq_cpr.proofs.decode_pair.pair.Goals as goal

pub of_parts-requires : goal.of_parts-requires
of_parts-requires g c =
    let even_fits : FitsSigned w32 c.close_latitudes-lats.result.even = search rules in
    let odd_fits : FitsSigned w32 c.close_latitudes-lats.result.odd = search rules in
    let found = found_pair g.S.Span.span.degrees c.close_latitudes-lats.result.even c.close_latitudes-lats.result.odd
    c.in-Some.even_lat c.in-Some-angle_at.odd_lat c.zone_count-count.result c.zone_count-odd_count.result even_fits
    odd_fits
    (c.in-Some.ensures.variant.0 refl)
    (c.in-Some-angle_at.ensures.variant.0 refl) c.in-Some.ensures.value c.in-Some-angle_at.ensures.value
    c.zone_count-count.ensures.value c.zone_count-odd_count.ensures.value c.if-count-odd_count.false in
    point_of_pair g.S.Span.span c.args.newest _ c.close_latitudes-lats.result.even
    c.close_latitudes-lats.result.odd found.inside found.counts refl
    (back32 c.of.result c.of.type_inv ∙ c.of.ensures)
    (c.zones_of-zones.ensures.value ∙ ap (λ (n : ℕ). zones_of c.args.newest n) found.counted)
    (rw (← c.zones_of-zones.ensures.value) at c.close_longitude-lon_index.ensures.below)

pub returns : goal.returns
returns g c =
    let even_fits : FitsSigned w32 c.close_latitudes-lats.result.even = search rules in
    let odd_fits : FitsSigned w32 c.close_latitudes-lats.result.odd = search rules in
    let found = found_pair g.S.Span.span.degrees c.close_latitudes-lats.result.even c.close_latitudes-lats.result.odd
    c.in-Some.even_lat c.in-Some-angle_at.odd_lat c.zone_count-count.result c.zone_count-odd_count.result even_fits
    odd_fits
    (c.in-Some.ensures.variant.0 refl)
    (c.in-Some-angle_at.ensures.variant.0 refl) c.in-Some.ensures.value c.in-Some-angle_at.ensures.value
    c.zone_count-count.ensures.value c.zone_count-odd_count.ensures.value c.if-count-odd_count.false in
    let value = c.of_parts.ensures.value in
    let w = c.degrees_of-span.ensures.value in
    let lon = c.close_longitude-lon_index.ensures.longitudes in
    let zones = ap (λ (p : Point). p.zones) value ∙ c.zones_of-zones.ensures.value in
    record {
      of_pair = record {
        even_lat = c.close_latitudes-lats.result.even;
        odd_lat = c.close_latitudes-lats.result.odd;
        even_lon = lon.0;
        odd_lon = lon.1;
        latitudes = rw w at c.close_latitudes-lats.ensures.latitudes;
        in_range = found.inside;
        counts = found.counts;
        longitudes = rw found.counted at lon.2;
        of_grid = c.of_parts.ensures.of_grid;
        parity = ap (λ (p : Point). p.parity) value;
        lat_index = ap (λ (p : Point). p.lat_index) value ∙ back32 c.of.result c.of.type_inv ∙ c.of.ensures;
        lon_index = rw (zones, ap (λ (p : Point). p.lon_index) value) lon.4;
      };
      lat_at = rw (w, c.lat.ensures) at c.close_latitudes-lats.ensures.at;
      lon_at = rw zones (rw c.lon.ensures at lon.3);
    }
