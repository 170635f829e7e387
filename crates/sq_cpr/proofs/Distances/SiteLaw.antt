-- Positions near the site round to points near it.
use Rattle.std.proofs.Common.{◌≡◌, ℕ, ◌*◌, ◌<◌, ◌≤◌, ℤ, pos, neg_ℤ, ◌+ℤ◌, ◌-ℤ◌, ◌*ℤ◌, ◌≤ℤ◌, ◌<ℤ◌, refl, arith}
use Rattle.std.proofs.Common.{mul-le-mul_right}
use Rattle.std.proofs.lemmas.Int.{ints}
use Rattle.sq_angle.specs.Angle.{degrees as degrees_of}
use Rattle.sq_angle.specs.Fraction.{Fraction, whole}
use Rattle.sq_angle.specs.Nearest.{IsNearest}
use Rattle.sq_angle.specs.Position.{lat_of, lon_of}
use Rattle.sq_angle.specs.Scale.{scales, scale-neg, scale-le, lt_of_scale}
use Rattle.sq_angle.proofs.Congruence.{congruent_trans}
use Rattle.sq_angle.proofs.Sizes.{mul_pos}
use Rattle.sq_cpr.specs.Span.{Span, FitsCircle}
use Rattle.sq_cpr.specs.Grid.{codes_of_zone, circle, step, lat_zones}
use Rattle.sq_cpr.specs.Near.{angle_at}
use Rattle.sq_cpr.specs.Slow.{IsSmallerThan, DifferByLess}
use Rattle.sq_cpr.specs.DecodeLaws.{RoundsNearSite}
use Rattle.sq_cpr.proofs.Decoding.Decoded.{some_lat_zones, some_zones_of_point}
use Rattle.sq_cpr.proofs.Grids.NearestPoints.{above_index, nearest_parts, between_angles, around_is, straight_is}
use Rattle.sq_cpr.proofs.Grids.NearestPoints.{one_more}
use Rattle.sq_cpr.proofs.Grids.Spans.{span_bounds}

-- an equation, in one unit, of the distances between the index, the angle and the site
balance : (w r z xd rd : ℕ) (index xn rn turns : ℤ) →
    pos 2 *ℤ (pos xd *ℤ (pos rd *ℤ (pos w *ℤ (index +ℤ pos (z * codes_of_zone * r) *ℤ turns)) -ℤ pos
    (z * codes_of_zone) *ℤ rn))
    +ℤ pos rd *ℤ (pos 2 *ℤ (pos (z * codes_of_zone) *ℤ xn -ℤ pos (w * xd) *ℤ index))
    ≡ pos (2 * (z * codes_of_zone)) *ℤ (pos rd *ℤ xn -ℤ pos xd *ℤ rn +ℤ pos (w * r * xd * rd) *ℤ turns)
balance w r z xd rd index xn rn turns = simp scales (omega (arith, ints))

bounded : (w z xd rd : ℕ) (apart f d : ℤ) → w ≤ 360 → 0 < z →
    pos 2 *ℤ (pos xd *ℤ apart) +ℤ pos rd *ℤ f ≡ pos (2 * (z * codes_of_zone)) *ℤ d →
    neg_ℤ (pos (w * xd)) ≤ℤ f → f ≤ℤ pos (w * xd) → neg_ℤ (pos (44 * (xd * rd))) <ℤ d → d <ℤ pos (44 * (xd * rd))
    → 0 < xd * rd →
    ((pos xd *ℤ neg_ℤ (pos (45 * (z * codes_of_zone * rd)))) <ℤ (pos xd *ℤ apart))
    × ((pos xd *ℤ apart) <ℤ (pos xd *ℤ pos (45 * (z * codes_of_zone * rd))))
bounded w z xd rd apart f d small some e low high below above positive =
    let a = scale-le rd (neg_ℤ (pos (w * xd))) f low in
    let b = scale-le rd f (pos (w * xd)) high in
    let c = scale-le (2 * (z * codes_of_zone)) (neg_ℤ (pos (44 * (xd * rd)))) d (omega (arith, ints)) in
    let g = scale-le (2 * (z * codes_of_zone)) d (pos (44 * (xd * rd))) (omega (arith, ints)) in
    let k : w * (xd * rd) ≤ 360 * (xd * rd) = mul-le-mul_right (xd * rd) small in
    let l : 1 * (xd * rd) ≤ z * (xd * rd) = mul-le-mul_right (xd * rd) some in (
      omega (
        arith,
        ints,
        scale-neg rd (pos (w * xd)),
        scale-neg (2 * (z * codes_of_zone)) (pos (44 * (xd * rd))),
        scale-neg xd (pos (45 * (z * codes_of_zone * rd))),
      ),
      omega (arith, ints, scale-neg rd (pos (w * xd)), scale-neg (2 * (z * codes_of_zone)) (pos (44 * (xd * rd)))),
    )

-- the index nearest to an angle less than 44 degrees from the site is less than 45 degrees from it
less_apart : (w r z : ℕ) (x site : Fraction) (index turns : ℤ) → w * r ≡ 360 → 0 < z → 0 < x.den * site.den
    → IsNearest x (step w z) index →
    neg_ℤ (pos (44 * (x.den * site.den))) <ℤ between_angles x site turns
    → between_angles x site turns <ℤ pos (44 * (x.den * site.den)) →
    DifferByLess (whole 45) (angle_at w z (index +ℤ pos (circle z r) *ℤ turns)) site
less_apart w r z x site index turns full some positive near low high =
    let apart : ℤ = pos site.den *ℤ (pos w *ℤ (index +ℤ pos (z * codes_of_zone * r) *ℤ turns)) -ℤ pos
    (z * codes_of_zone) *ℤ site.num in
    let e : pos 2 *ℤ (pos x.den *ℤ apart) +ℤ pos site.den *ℤ above_index w z x index
    ≡ pos (2 * (z * codes_of_zone)) *ℤ between_angles x site turns =
    rw full at (balance w r z x.den site.den index x.num site.num turns) in
    let f = nearest_parts w z x index near in
    let both = bounded w z x.den site.den apart (above_index w z x index) (between_angles x site turns)
    (span_bounds w r full).1 some e f.0 f.1 low high positive in
    let above : neg_ℤ (pos (45 * (z * codes_of_zone * site.den))) <ℤ apart = lt_of_scale x.den _ _ both.0 in
    let below : apart <ℤ pos (45 * (z * codes_of_zone * site.den)) = lt_of_scale x.den _ _ both.1 in
    record {
      above = omega (arith, ints, above, scale-neg (z * codes_of_zone * site.den) (pos 45));
      below = omega (arith, ints, below);
    }

-- a difference below `limit` degrees, multiplied out
degrees_parts : (limit : ℕ) (d : Fraction) → IsSmallerThan (whole limit) d
    → (neg_ℤ (pos (limit * d.den)) <ℤ d.num) × (d.num <ℤ pos (limit * d.den))
degrees_parts limit d h = (omega (arith, ints, h.above, scale-neg d.den (pos limit)), omega (arith, ints, h.below))

pub rounds_near_site : (span : Span) → FitsCircle span → RoundsNearSite span
rounds_near_site span full x site p rounds less =
    let x_lat = degrees_of (lat_of x) in
    let x_lon = degrees_of (lon_of x) in
    let lat_site = degrees_of (lat_of site) in
    let lon_site = degrees_of (lon_of site) in
    let t = rounds.east_west in
    let s = less.longitudes in
    let lat_less = rw (straight_is x_lat lat_site) at (degrees_parts 44 _ less.latitudes) in
    let lon_less = rw (around_is x_lon lon_site s.0, one_more (x_lon.den * lon_site.den)) at (degrees_parts 44 _ s.1) in
    let lat = less_apart span.degrees span.repeats (lat_zones p.parity) x_lat lat_site p.lat_index (pos 0) full
    (some_lat_zones p.parity)
    (mul_pos x_lat.den lat_site.den x.lat.in_range.positive site.lat.in_range.positive) rounds.north_south lat_less.0
    lat_less.1 in
    let still : p.lat_index +ℤ pos (circle (lat_zones p.parity) span.repeats) *ℤ pos 0
    ≡ p.lat_index = omega (arith, ints) in
    record {
      latitudes = rw still at lat;
      longitudes = (
        t.0 +ℤ pos (circle p.zones span.repeats) *ℤ s.0,
        congruent_trans (record { times = s.0; apart = refl }) t.2,
        less_apart span.degrees span.repeats p.zones x_lon lon_site t.0 s.0 full
            (some_zones_of_point span p rounds.of_grid)
            (mul_pos x_lon.den lon_site.den x.lon.in_range.positive site.lon.in_range.positive) t.1 lon_less.0
            lon_less.1,
      );
    }
