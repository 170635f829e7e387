-- Any two codes have exactly one close pair.
use Rattle.std.proofs.Common.{◌≡◌, ℕ, ◌*◌, ◌<◌, arith, ℤ, pos, ◌+ℤ◌, ◌-ℤ◌, ◌*ℤ◌}
use Rattle.std.proofs.lemmas.Int.{ints}
use Rattle.sq_angle.specs.Whole.{IsCongruent}
use Rattle.sq_angle.proofs.Congruence.{congruent_sym, congruent_trans, congruent_rem, same_below}
use Rattle.sq_angle.proofs.Floors.{rem_is_pos}
use Rattle.sq_angle.proofs.Sizes.{mul_pos}
use Rattle.sq_angle.proofs.Windows.{one_lower}
use Rattle.sq_zones.specs.declared.parity.Parity.TheVariants.{Even, Odd}
use Rattle.sq_cpr.specs.Span.{Span, FitsCircle}
use Rattle.sq_cpr.specs.Grid.{codes_of_zone}
use Rattle.sq_cpr.specs.Close.{IsClosePair, zones_of}
use Rattle.sq_cpr.specs.Multiplied.{LiesClose}
use Rattle.sq_cpr.specs.DecodeLaws.{IndexPair, HaveOneClosePair, OneCloseLatitudes, OneCloseLongitudes, OneZoneIsClose}
use Rattle.sq_cpr.proofs.Distances.Agree.{close_from_lies}
use Rattle.sq_cpr.proofs.Decoding.Pairs.{some_zones, paired_latitudes, paired_longitudes, close_pair, pair_at}
use Rattle.sq_cpr.proofs.Grids.Spans.{span_limits}
use Rattle.sq_cpr.proofs.Decoding.ZonePairs.{Paired, zone_exists}

-- every index is congruent to an index of the circle
pub residue : (m : ℕ) (z : ℤ) → 0 < m → (r : ℕ) × (r < m) × IsCongruent m (pos r) z
residue m z h =
    let b = rem_is_pos z m h in
    let back : IsCongruent m z (pos b.0) = rw b.1 at (congruent_rem z m h) in
    (b.0, b.2, congruent_sym back)

one_close : (w n m : ℕ) → 0 < w → 0 < n → 0 < m → Paired n m → HaveOneClosePair w n m
one_close w n m d p q e even odd =
    let z = zone_exists n m even odd in
    let r = residue (n * codes_of_zone) (pos even +ℤ pos codes_of_zone *ℤ z.0)
    (mul_pos n codes_of_zone p (omega arith)) in
    let s = residue (m * codes_of_zone) (pos odd +ℤ pos codes_of_zone *ℤ z.0)
    (mul_pos m codes_of_zone q (omega arith)) in (
      record { even = r.0; odd = s.0 },
      (r.1, s.1, close_pair w n m even odd z.0 (pos r.0) (pos s.0) d p q e z.1 r.2 s.2),
      λ (pair : IndexPair) (h : (pair.even < n * codes_of_zone) × (pair.odd < m * codes_of_zone)
          × IsClosePair w n m even odd (pos pair.even) (pos pair.odd)).
          let both = pair_at w n m even odd z.0 (pos pair.even) (pos pair.odd) d p q e z.1 h.2 in
          let first : pair.even ≡ r.0 =
          same_below (n * codes_of_zone) pair.even r.0 h.0 r.1 (congruent_trans both.0 (congruent_sym r.2)) in
          let second : pair.odd ≡ s.0 =
          same_below (m * codes_of_zone) pair.odd s.0 h.1 s.1 (congruent_trans both.1 (congruent_sym s.2)) in
          λ i. record { even = first i; odd = second i },
    )

pub one_close_latitudes : (span : Span) → FitsCircle span → OneCloseLatitudes span
one_close_latitudes span e = one_close span.degrees 60 59 (span_limits span e).0 (omega arith) (omega arith)
    paired_latitudes

pub one_close_longitudes : (span : Span) → FitsCircle span → OneCloseLongitudes span
one_close_longitudes span e count h k = one_close span.degrees (zones_of Even count) (zones_of Odd count)
    (span_limits span e).0
    (some_zones Even count) (some_zones Odd count) (paired_longitudes count h)

-- with one zone each, any two indices are close
any_close : (p q : ℤ) → LiesClose 1 1 p q
any_close p q =
    let one = one_lower codes_of_zone (pos 2 *ℤ (p -ℤ q)) (omega arith) in
    (one.0, (omega (arith, ints, one.1), omega (arith, ints, one.1)))

pub one_zone_is_close : (span : Span) → FitsCircle span → OneZoneIsClose span
one_zone_is_close span e p q =
    close_from_lies span.degrees 1 1 p q (span_limits span e).0 (omega arith) (omega arith) (any_close p q)
