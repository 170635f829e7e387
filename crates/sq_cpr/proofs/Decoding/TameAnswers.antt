-- The results for tame points, and the exact condition for a point of a grid.
use Rattle.std.proofs.Common.{◌≡◌, ◌⊎◌, ℕ, Result, Ok, Err, inl, inr, ap, refl, sym, subst}
use Rattle.sq_zones.specs.declared.parity.Parity.{Parity}
use Rattle.sq_cpr.specs.declared.faults.PairFault.{PairFault}
use Rattle.sq_cpr.specs.declared.faults.PairFault.TheVariants.{OutOfRange, ZoneCounts}
use Rattle.sq_cpr.specs.Span.{Span}
use Rattle.sq_cpr.specs.Grid.{Point}
use Rattle.sq_cpr.specs.Pair.{HaveTwoCounts, of_parity}
use Rattle.sq_cpr.specs.DecodeLaws.{TameAnswer}
use Rattle.sq_cpr.specs.Exactly.{GridPointExactly, TameAnswerExactly, TwoCountsExactly}

pub grid_point_exactly : (span : Span) → GridPointExactly span
grid_point_exactly span point = (
  λ h. (h.north_south, h.zones, h.east_west),
  λ h. record { north_south = h.0; zones = h.1; east_west = h.2 },
)

pub two_counts_exactly : (span : Span) → TwoCountsExactly span
two_counts_exactly span p q even odd = (
  λ h. (h.in_range.even, h.in_range.odd, sym h.even, sym h.odd, h.differ),
  λ (p_in, q_in, even_is, odd_is, differ). record {
    in_range = record { even = p_in; odd = q_in };
    even = sym even_is;
    odd = sym odd_is;
    differ = differ;
  },
)

-- the result is the newest point, or two zone counts
abbrev Parts : (span : Span) (newest : Parity) (a b : Point) (answer : Result Point PairFault) → Type 0
Parts span newest a b answer = (answer ≡ Ok (of_parity newest a b))
    ⊎ ((even odd : ℕ) × HaveTwoCounts span.degrees a.lat_index b.lat_index even odd
    × (answer ≡ Err (ZoneCounts even odd)))

to_parts : (span : Span) (newest : Parity) (a b : Point) (answer : Result Point PairFault)
    → TameAnswer span newest a b answer → Parts span newest a b answer
to_parts span newest a b (Ok point) h = inl (ap Ok h)
to_parts span newest a b (Err OutOfRange) h = absurd h
to_parts span newest a b (Err (ZoneCounts even odd)) h = inr (even, odd, h, refl)

of_parts : (span : Span) (newest : Parity) (a b : Point) (answer : Result Point PairFault)
    → Parts span newest a b answer → TameAnswer span newest a b answer
of_parts span newest a b answer (inl is) = subst (TameAnswer span newest a b) (sym is) refl
of_parts span newest a b answer (inr (even, odd, counts, is)) = subst (TameAnswer span newest a b) (sym is) counts

pub tame_answer_exactly : (span : Span) → TameAnswerExactly span
tame_answer_exactly span newest a b answer = (to_parts span newest a b answer, of_parts span newest a b answer)
