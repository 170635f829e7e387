-- Proofs of the exact conditions for the premises on true positions.
use Rattle.std.proofs.Common.{◌≡◌, ◌↔◌, ℕ, Bool, true, false, ◌*◌, ℤ, pos, neg_ℤ, ◌+ℤ◌, ◌-ℤ◌, ◌*ℤ◌, ◌<ℤ◌, arith, refl}
use Rattle.std.proofs.Common.{sym, subst}
use Rattle.std.specs.Prelude.{nat_lt, if◌then◌else◌}
use Rattle.std.proofs.lemmas.Int.{ints}
use Rattle.sq_angle.specs.Fraction.{Fraction, minus, whole}
use Rattle.sq_angle.specs.Scale.{scales}
use Rattle.sq_cpr.specs.Span.{Span, FitsCircle}
use Rattle.sq_cpr.specs.Close.{difference}
use Rattle.sq_angle.specs.Angle.{degrees as degrees_of}
use Rattle.sq_angle.specs.Position.{lon_of}
use Rattle.sq_cpr.specs.Grid.{circle, codes_of_zone}
use Rattle.sq_cpr.specs.Near.{OnSomeTurn, angle_at}
use Rattle.sq_cpr.specs.Exactly.{Across180Degrees, AtTheLimits, DifferAroundExactly, DifferExactly, NearThreeDecimals}
use Rattle.sq_cpr.specs.Exactly.{PointWithinExactly, TurnsChangeNothing}
use Rattle.sq_angle.proofs.Congruence.{congruent_refl}
use Rattle.sq_cpr.specs.Slow.{DifferByLess, DifferByLessAround, IsSmallerThan}
use Rattle.sq_cpr.specs.Zones.{turned}

-- two fractions with the same numerator and the same denominator are equal
same_fraction : (x y : Fraction) → x.num ≡ y.num → x.den ≡ y.den → x ≡ y
same_fraction x y num den = λ i. record { num = num i; den = den i }

-- the inequalities of a limit, multiplied out
over_is : (xd yd ld : ℕ) (xn yn ln : ℤ)
    → (pos ld *ℤ (pos yd *ℤ xn -ℤ pos xd *ℤ yn)) -ℤ (pos (xd * yd) *ℤ ln)
    ≡ (pos (yd * ld) *ℤ xn) -ℤ (pos xd *ℤ (pos ld *ℤ yn +ℤ pos yd *ℤ ln))
over_is xd yd ld xn yn ln = simp scales (omega (arith, ints))

under_is : (xd yd ld : ℕ) (xn yn ln : ℤ)
    → (pos (xd * yd) *ℤ neg_ℤ ln) -ℤ (pos ld *ℤ (pos yd *ℤ xn -ℤ pos xd *ℤ yn))
    ≡ (pos (xd * ld) *ℤ yn) -ℤ (pos yd *ℤ (pos ld *ℤ xn +ℤ pos xd *ℤ ln))
under_is xd yd ld xn yn ln = simp scales (omega (arith, ints))

-- if a - b and c - d are equal, a < b gives c < d
below_as : (a b c d : ℤ) → a -ℤ b ≡ c -ℤ d → a <ℤ b → c <ℤ d
below_as a b c d e h = omega (arith, ints)

pub differ_exactly : DifferExactly
differ_exactly limit x y =
    let over = over_is x.den y.den limit.den x.num y.num limit.num in
    let under = under_is x.den y.den limit.den x.num y.num limit.num in (
      λ h. (below_as _ _ _ _ over h.below, below_as _ _ _ _ under h.above),
      λ h. record { above = below_as _ _ _ _ (sym under) h.1; below = below_as _ _ _ _ (sym over) h.0 },
    )

turn_num : (xd yd : ℕ) (xn yn turns : ℤ)
    → pos 1 *ℤ (pos yd *ℤ xn -ℤ pos xd *ℤ yn) +ℤ pos (xd * yd) *ℤ (pos 360 *ℤ turns)
    ≡ pos yd *ℤ (xn +ℤ pos (360 * xd) *ℤ turns) -ℤ pos xd *ℤ yn
turn_num xd yd xn yn turns = simp scales (omega (arith, ints))

-- a difference changed by turns is the difference from the angle changed by the same turns
turned_is : (x y : Fraction) (turns : ℤ) → difference 360 x y turns ≡ minus (turned x turns) y
turned_is x y turns = same_fraction (difference 360 x y turns) (minus (turned x turns) y)
    (turn_num x.den y.den x.num y.num turns) (omega arith)

pub differ_around_exactly : DifferAroundExactly
differ_around_exactly limit x y = (
  λ h. (h.0, subst (IsSmallerThan limit) (turned_is x y h.0) h.1),
  λ h. (h.0, subst (IsSmallerThan limit) (sym (turned_is x y h.0)) h.1),
)

first_num : (xd yd : ℕ) (xn yn t s : ℤ) →
    pos 1 *ℤ (pos yd *ℤ xn -ℤ pos xd *ℤ yn) +ℤ pos (xd * yd) *ℤ (pos 360 *ℤ t)
    ≡ pos 1 *ℤ (pos yd *ℤ (xn +ℤ pos (360 * xd) *ℤ s) -ℤ pos xd *ℤ yn) +ℤ pos (xd * yd) *ℤ (pos 360 *ℤ (t -ℤ s))
first_num xd yd xn yn t s = simp scales (omega (arith, ints))

second_num : (xd yd : ℕ) (xn yn t s : ℤ) →
    pos 1 *ℤ (pos yd *ℤ xn -ℤ pos xd *ℤ yn) +ℤ pos (xd * yd) *ℤ (pos 360 *ℤ t)
    ≡ pos 1 *ℤ (pos yd *ℤ xn -ℤ pos xd *ℤ (yn +ℤ pos (360 * yd) *ℤ s)) +ℤ pos (xd * yd) *ℤ (pos 360 *ℤ (t +ℤ s))
second_num xd yd xn yn t s = simp scales (omega (arith, ints))

pub turns_change_nothing : TurnsChangeNothing
turns_change_nothing = record {
  first = λ limit x y s h. (
    h.0 -ℤ s,
    subst (IsSmallerThan limit)
        (same_fraction (difference 360 x y h.0) (difference 360 (turned x s) y (h.0 -ℤ s))
        (first_num x.den y.den x.num y.num h.0 s) refl) h.1,
  );
  second = λ limit x y s h. (
    h.0 +ℤ s,
    subst (IsSmallerThan limit)
        (same_fraction (difference 360 x y h.0) (difference 360 x (turned y s) (h.0 +ℤ s))
        (second_num x.den y.den x.num y.num h.0 s) refl) h.1,
  );
}

pub across_180_degrees : Across180Degrees
across_180_degrees = record {
  slow = (neg_ℤ (pos 1), record { above = omega (arith, ints); below = omega (arith, ints) });
  following = (neg_ℤ (pos 1), record { above = omega (arith, ints); below = omega (arith, ints) });
  within = (neg_ℤ (pos 1), record { above = omega (arith, ints); below = omega (arith, ints) });
  not_within = λ h. let turns : ℤ = h.0 in absurd (omega (arith, ints, h.1.above, h.1.below));
}

pub at_the_limits : AtTheLimits
at_the_limits = record {
  slow = record { above = omega (arith, ints); below = omega (arith, ints) };
  not_slow = λ h. absurd (omega (arith, ints, h.below));
  following = record { above = omega (arith, ints); below = omega (arith, ints) };
  not_following = λ h. absurd (omega (arith, ints, h.below));
}

-- a longitude, east of the prime meridian or less 360 degrees, and its index changed by turns
east_num : (w r z b xd : ℕ) (xn t : ℤ) →
    pos xd *ℤ (pos w *ℤ (pos b +ℤ pos (z * codes_of_zone * r) *ℤ t)) -ℤ pos (z * codes_of_zone) *ℤ xn
    ≡ pos 1 *ℤ (pos xd *ℤ pos (w * b) -ℤ pos (z * codes_of_zone) *ℤ xn) +ℤ pos (z * codes_of_zone * xd) *ℤ
    (pos (w * r) *ℤ t)
east_num w r z b xd xn t = simp scales (omega (arith, ints))

west_num : (w z b xd : ℕ) (xn t : ℤ) →
    pos 1 *ℤ (pos xd *ℤ pos (w * b) -ℤ pos (z * codes_of_zone) *ℤ xn) +ℤ pos (z * codes_of_zone * xd) *ℤ (pos 360 *ℤ t)
    ≡ pos 1 *ℤ (pos xd *ℤ (pos (w * b) -ℤ pos (360 * (z * codes_of_zone))) -ℤ pos (z * codes_of_zone) *ℤ xn) +ℤ pos
    (z * codes_of_zone * xd) *ℤ (pos 360 *ℤ (t +ℤ pos 1))
west_num w z b xd xn t = simp scales (omega (arith, ints))

-- a longitude by the half of the circle on which it lies
lon_on : (east : Bool) → (w z b : ℕ) → Fraction
lon_on east w z b = record {
  num = if east then pos (w * b) else (pos (w * b) -ℤ pos (360 * (z * codes_of_zone)));
  den = z * codes_of_zone;
}

IsNearTurn : (w r z b : ℕ) (limit x : Fraction) → Type 0
IsNearTurn w r z b limit x = OnSomeTurn (circle z r) b (λ i. DifferByLess limit (angle_at w z i) x)

east_is : (w r z b : ℕ) (x : Fraction) (t : ℤ) → w * r ≡ 360
    → minus (angle_at w z (pos b +ℤ pos (circle z r) *ℤ t)) x ≡ difference 360 (lon_on true w z b) x t
unfolding lon_on
east_is w r z b x t full =
    let e : (minus (angle_at w z (pos b +ℤ pos (circle z r) *ℤ t)) x).num
    ≡ (difference 360 (lon_on true w z b) x t).num = rw full at (east_num w r z b x.den x.num t) in
    same_fraction _ _ e (omega arith)

west_is : (w z b : ℕ) (x : Fraction) (t : ℤ)
    → difference 360 (lon_on true w z b) x t ≡ difference 360 (lon_on false w z b) x (t +ℤ pos 1)
unfolding lon_on
west_is w z b x t = same_fraction _ _ (west_num w z b x.den x.num t) refl

around_east : (w r z b : ℕ) (limit x : Fraction) → w * r ≡ 360 → IsNearTurn w r z b limit x
    ↔ DifferByLessAround limit (lon_on true w z b) x
unfolding IsNearTurn
around_east w r z b limit x full = (
  λ h. (
    h.1.times,
    subst (IsSmallerThan limit) (east_is w r z b x h.1.times full)
        (subst (λ (i : ℤ). IsSmallerThan limit (minus (angle_at w z i) x)) h.1.apart h.2),
  ),
  λ k. (
    pos b +ℤ pos (circle z r) *ℤ k.0,
    record { times = k.0; apart = refl },
    subst (IsSmallerThan limit) (sym (east_is w r z b x k.0 full)) k.1,
  ),
)

less_one_more : (t : ℤ) → (t -ℤ pos 1) +ℤ pos 1 ≡ t
less_one_more t = omega (arith, ints)

around_by : (east : Bool) (w r z b : ℕ) (limit x : Fraction) → w * r ≡ 360 → IsNearTurn w r z b limit x
    ↔ DifferByLessAround limit (lon_on east w z b) x
around_by true w r z b limit x full = around_east w r z b limit x full
around_by false w r z b limit x full = (
  λ h. let k = (around_east w r z b limit x full).0 h in
      (k.0 +ℤ pos 1, subst (IsSmallerThan limit) (west_is w z b x k.0) k.1),
  λ k.
      let there : IsSmallerThan limit (difference 360 (lon_on false w z b) x ((k.0 -ℤ pos 1) +ℤ pos 1)) =
      subst (λ (t : ℤ). IsSmallerThan limit (difference 360 (lon_on false w z b) x t)) (sym (less_one_more k.0)) k.1 in
      (around_east w r z b limit x full).1
      (k.0 -ℤ pos 1, subst (IsSmallerThan limit) (sym (west_is w z b x (k.0 -ℤ pos 1))) there),
)

pub point_within_exactly : (span : Span) → FitsCircle span → PointWithinExactly span
unfolding IsNearTurn lon_on
point_within_exactly span full limit point x =
    let east = nat_lt (span.degrees * point.lon_index) (180 * (point.zones * codes_of_zone)) in
    let both = around_by east span.degrees span.repeats point.zones point.lon_index (whole limit)
    (degrees_of (lon_of x)) full in (
      λ h. (h.latitudes, both.0 h.longitudes),
      λ h. record { latitudes = h.0; longitudes = both.1 h.1 },
    )

pub near_three_decimals : NearThreeDecimals
near_three_decimals = record {
  even = record {
    north_south = record { above = omega (arith, ints); below = omega (arith, ints) };
    east_west = (
      pos 51372,
      congruent_refl (circle 36 1) (pos 51372),
      record { above = omega (arith, ints); below = omega (arith, ints) },
    );
  };
  odd = record {
    north_south = record { above = omega (arith, ints); below = omega (arith, ints) };
    east_west = (
      pos 50194,
      congruent_refl (circle 35 1) (pos 50194),
      record { above = omega (arith, ints); below = omega (arith, ints) },
    );
  };
  not_near = λ h. absurd (omega (arith, ints, h.north_south.above));
  latitudes = record { turns = pos 0; from = omega (arith, ints); below = omega (arith, ints) };
  longitudes = record { turns = pos 0; from = omega (arith, ints); below = omega (arith, ints) };
}
