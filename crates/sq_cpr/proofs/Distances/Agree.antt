-- The windows with fractions agree with their multiplied-out forms.
use Rattle.std.proofs.Common.{◌≡◌, ◌↔◌, ℕ, ◌*◌, ◌<◌, ℤ, pos, neg_ℤ, ◌+ℤ◌, ◌-ℤ◌, ◌*ℤ◌, ◌≤ℤ◌, ◌<ℤ◌, arith}
use Rattle.std.proofs.lemmas.Int.{ints}
use Rattle.sq_angle.specs.Fraction.{Fraction}
use Rattle.sq_angle.specs.Scale.{scales, scale-le, scale-lt, le_of_scale, lt_of_scale}
use Rattle.sq_angle.proofs.Sizes.{mul_pos}
use Rattle.sq_cpr.specs.Span.{Span, FitsCircle}
use Rattle.sq_cpr.specs.Grid.{codes_of_zone}
use Rattle.sq_cpr.specs.Near.{IsNear, IsStrictlyNear, IsRepresentative, half_zone, angle_at}
use Rattle.sq_cpr.specs.Close.{IsClose}
use Rattle.sq_cpr.specs.Multiplied.{apart, LiesWithin, LiesStrictlyWithin, LiesClose}
use Rattle.sq_cpr.specs.DecodeLaws.{FractionsAgree}
use Rattle.sq_cpr.proofs.Grids.Spans.{span_limits}

-- if a - b and c - d are equal, c < d gives a < b
pub below_by : (a b c d : ℤ) → a -ℤ b ≡ c -ℤ d → c <ℤ d → a <ℤ b
below_by a b c d e h = omega (arith, ints)

pub at_most_by : (a b c d : ℤ) → a -ℤ b ≡ c -ℤ d → c ≤ℤ d → a ≤ℤ b
at_most_by a b c d e h = omega (arith, ints)

module _ (degrees zones : ℕ) (index : ℤ) (r : Fraction) where
  twice : ℤ
  twice = pos 2 *ℤ (pos (degrees * r.den) *ℤ index -ℤ pos (zones * codes_of_zone) *ℤ r.num)

  width : ℕ
  width = codes_of_zone * (degrees * r.den)

  low_is : pos (zones * codes_of_zone) *ℤ (pos (2 * zones) *ℤ r.num -ℤ pos r.den *ℤ pos degrees) -ℤ pos
      (r.den * (2 * zones)) *ℤ (pos degrees *ℤ index)
      ≡ pos zones *ℤ neg_ℤ (pos width) -ℤ pos zones *ℤ twice
  unfolding twice width
  low_is = simp scales (omega (arith, ints))

  high_is : pos (r.den * (2 * zones)) *ℤ (pos degrees *ℤ index) -ℤ pos (zones * codes_of_zone) *ℤ
      (pos (2 * zones) *ℤ r.num +ℤ pos r.den *ℤ pos degrees)
      ≡ pos zones *ℤ twice -ℤ pos zones *ℤ pos width
  unfolding twice width
  high_is = simp scales (omega (arith, ints))

pub near_from_within : (degrees zones : ℕ) (index : ℤ) (r : Fraction) → 0 < zones → LiesWithin 1 degrees zones index r
    → IsNear (half_zone degrees zones) r (angle_at degrees zones index)
unfolding twice width
near_from_within degrees zones index r some h =
    let one : 1 * codes_of_zone * (degrees * r.den) ≡ codes_of_zone * (degrees * r.den) = omega arith in
    let k = rw one at h in
    record {
      above = below_by _ _ _ _ (low_is degrees zones index r) (scale-lt zones _ _ some k.0);
      at_most = at_most_by _ _ _ _ (high_is degrees zones index r) (scale-le zones _ _ k.1);
    }

pub within_from_near : (degrees zones : ℕ) (index : ℤ) (r : Fraction) → 0 < zones
    → IsNear (half_zone degrees zones) r (angle_at degrees zones index) → LiesWithin 1 degrees zones index r
unfolding twice width
within_from_near degrees zones index r some h =
    let one : 1 * codes_of_zone * (degrees * r.den) ≡ codes_of_zone * (degrees * r.den) = omega arith in
    let t : ℤ = pos 2 *ℤ apart degrees zones index r in
    let w : ℤ = pos (codes_of_zone * (degrees * r.den)) in
    let under : (pos zones *ℤ neg_ℤ w) <ℤ (pos zones *ℤ t) =
    omega (arith, ints, low_is degrees zones index r, h.above) in
    let over : (pos zones *ℤ t) ≤ℤ (pos zones *ℤ w) = omega (arith, ints, high_is degrees zones index r, h.at_most) in
    rw one (lt_of_scale zones (neg_ℤ w) t under, le_of_scale zones t w some over)

pub near_agrees : (degrees zones : ℕ) (index : ℤ) (r : Fraction) → 0 < zones → LiesWithin 1 degrees zones index r
    ↔ IsNear (half_zone degrees zones) r (angle_at degrees zones index)
near_agrees degrees zones index r some =
    (near_from_within degrees zones index r some, within_from_near degrees zones index r some)

pub strictly_from_within : (degrees zones : ℕ) (index : ℤ) (r : Fraction) → 0 < zones
    → LiesStrictlyWithin degrees zones index r
    → IsStrictlyNear (half_zone degrees zones) r (angle_at degrees zones index)
unfolding twice width
strictly_from_within degrees zones index r some h =
    record {
      above = below_by _ _ _ _ (low_is degrees zones index r) (scale-lt zones _ _ some h.0);
      below = below_by _ _ _ _ (high_is degrees zones index r) (scale-lt zones _ _ some h.1);
    }

pub within_from_strictly : (degrees zones : ℕ) (index : ℤ) (r : Fraction)
    → IsStrictlyNear (half_zone degrees zones) r (angle_at degrees zones index)
    → LiesStrictlyWithin degrees zones index r
unfolding twice width
within_from_strictly degrees zones index r h =
    let t : ℤ = pos 2 *ℤ apart degrees zones index r in
    let w : ℤ = pos (codes_of_zone * (degrees * r.den)) in
    let under : (pos zones *ℤ neg_ℤ w) <ℤ (pos zones *ℤ t) =
    omega (arith, ints, low_is degrees zones index r, h.above) in
    let over : (pos zones *ℤ t) <ℤ (pos zones *ℤ w) = omega (arith, ints, high_is degrees zones index r, h.below) in
    (lt_of_scale zones (neg_ℤ w) t under, lt_of_scale zones t w over)

pub strictly_agrees : (degrees zones : ℕ) (index : ℤ) (r : Fraction) → 0 < zones
    → LiesStrictlyWithin degrees zones index r
    ↔ IsStrictlyNear (half_zone degrees zones) r (angle_at degrees zones index)
strictly_agrees degrees zones index r some =
    (strictly_from_within degrees zones index r some, within_from_strictly degrees zones index r)

-- both ends of a whole span
span_low_is : (degrees zones : ℕ) (index : ℤ) (r : Fraction) →
    pos (zones * codes_of_zone) *ℤ (pos 2 *ℤ r.num -ℤ pos r.den *ℤ pos degrees) -ℤ pos (r.den * 2) *ℤ
    (pos degrees *ℤ index)
    ≡ neg_ℤ (pos (zones * codes_of_zone * (degrees * r.den))) -ℤ pos 2 *ℤ apart degrees zones index r
span_low_is degrees zones index r = simp scales (omega (arith, ints))

span_high_is : (degrees zones : ℕ) (index : ℤ) (r : Fraction) →
    pos (r.den * 2) *ℤ (pos degrees *ℤ index) -ℤ pos (zones * codes_of_zone) *ℤ
    (pos 2 *ℤ r.num +ℤ pos r.den *ℤ pos degrees)
    ≡ pos 2 *ℤ apart degrees zones index r -ℤ pos (zones * codes_of_zone * (degrees * r.den))
span_high_is degrees zones index r = simp scales (omega (arith, ints))

pub representative_from_within : (degrees zones : ℕ) (index : ℤ) (r : Fraction)
    → LiesWithin zones degrees zones index r → IsRepresentative degrees r (angle_at degrees zones index)
representative_from_within degrees zones index r h =
    record {
      above = below_by _ _ _ _ (span_low_is degrees zones index r) h.0;
      at_most = at_most_by _ _ _ _ (span_high_is degrees zones index r) h.1;
    }

pub within_from_representative : (degrees zones : ℕ) (index : ℤ) (r : Fraction)
    → IsRepresentative degrees r (angle_at degrees zones index) → LiesWithin zones degrees zones index r
within_from_representative degrees zones index r h = (
  omega (arith, ints, span_low_is degrees zones index r, h.above),
  omega (arith, ints, span_high_is degrees zones index r, h.at_most),
)

pub representative_agrees : (degrees zones : ℕ) (index : ℤ) (r : Fraction) → LiesWithin zones degrees zones index r
    ↔ IsRepresentative degrees r (angle_at degrees zones index)
representative_agrees degrees zones index r =
    (representative_from_within degrees zones index r, within_from_representative degrees zones index r)

module _ (degrees n m : ℕ) (p q turns : ℤ) where
  between : ℤ
  between = pos 2 *ℤ (pos m *ℤ p -ℤ pos n *ℤ q +ℤ pos (n * m * codes_of_zone) *ℤ turns)

  fraction : ℤ
  fraction = pos (2 * n * m) *ℤ
      (pos 1 *ℤ (pos (m * codes_of_zone) *ℤ (pos degrees *ℤ p) -ℤ pos (n * codes_of_zone) *ℤ (pos degrees *ℤ q)) +ℤ pos
      (n * codes_of_zone * (m * codes_of_zone)) *ℤ (pos degrees *ℤ turns))

  fraction_is : fraction ≡ pos (degrees * (n * m) * codes_of_zone) *ℤ between
  unfolding between fraction
  fraction_is = simp scales (omega (arith, ints))

  low_end : pos (n * codes_of_zone * (m * codes_of_zone) * 1) *ℤ neg_ℤ (pos degrees)
      ≡ pos (degrees * (n * m) * codes_of_zone) *ℤ neg_ℤ (pos codes_of_zone)
  low_end = simp scales (omega (arith, ints))

  high_end : pos (n * codes_of_zone * (m * codes_of_zone) * 1 * degrees)
      ≡ pos (degrees * (n * m) * codes_of_zone) *ℤ pos codes_of_zone
  high_end = omega (arith, ints)

some_factor : (degrees n m : ℕ) → 0 < degrees → 0 < n → 0 < m → 0 < degrees * (n * m) * codes_of_zone
some_factor degrees n m some_degrees some_n some_m = mul_pos (degrees * (n * m)) codes_of_zone
    (mul_pos degrees (n * m) some_degrees (mul_pos n m some_n some_m)) (omega arith)

pub close_from_lies : (degrees n m : ℕ) (p q : ℤ) → 0 < degrees → 0 < n → 0 < m → LiesClose n m p q
    → IsClose degrees n m p q
unfolding between fraction
close_from_lies degrees n m p q some_degrees some_n some_m h =
    let k : ℕ = degrees * (n * m) * codes_of_zone in
    let some : 0 < k = some_factor degrees n m some_degrees some_n some_m in
    let low = low_end degrees n m p q h.0 in
    let high = high_end degrees n m p q h.0 in
    record {
      turns = h.0;
      from = rw (low, fraction_is degrees n m p q h.0) (scale-le k _ _ h.1.0);
      below = rw (high, fraction_is degrees n m p q h.0) (scale-lt k _ _ some h.1.1);
    }

pub lies_from_close : (degrees n m : ℕ) (p q : ℤ) → 0 < degrees → 0 < n → 0 < m → IsClose degrees n m p q
    → LiesClose n m p q
unfolding between fraction
lies_from_close degrees n m p q some_degrees some_n some_m h =
    let k : ℕ = degrees * (n * m) * codes_of_zone in
    let some : 0 < k = some_factor degrees n m some_degrees some_n some_m in
    let low = low_end degrees n m p q h.turns in
    let high = high_end degrees n m p q h.turns in (
      h.turns,
      (
        le_of_scale k _ _ some (rw (low, fraction_is degrees n m p q h.turns) at h.from),
        lt_of_scale k _ _ (rw (high, fraction_is degrees n m p q h.turns) at h.below),
      ),
    )

pub close_agrees : (degrees n m : ℕ) (p q : ℤ) → 0 < degrees → 0 < n → 0 < m → LiesClose n m p q
    ↔ IsClose degrees n m p q
close_agrees degrees n m p q some_degrees some_n some_m = (
  close_from_lies degrees n m p q some_degrees some_n some_m,
  lies_from_close degrees n m p q some_degrees some_n some_m,
)

pub fractions_agree : (span : Span) → FitsCircle span → FractionsAgree span
fractions_agree span e = record {
  near = λ zones index x some. near_agrees span.degrees zones index x some;
  strictly_near = λ zones index x some. strictly_agrees span.degrees zones index x some;
  representative = λ zones index x. representative_agrees span.degrees zones index x;
  close = λ n m p q some_n some_m. close_agrees span.degrees n m p q (span_limits span e).0 some_n some_m;
}
