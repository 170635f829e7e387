use Rattle.std.proofs.Common.{◌≡◌, ℕ, ◌≤◌, ℤ, unsigned_abs, FitsSigned, to_z, of_z, w32, arith, sym, subst, subst₂}
use Rattle.std.specs.Int.{w64}
use Rattle.std.proofs.lemmas.Int.{ints}
use Rattle.sq_angle.specs.Angle.{degrees}
use Rattle.sq_angle.specs.Nearest.{IsNearest}
use Rattle.sq_cpr.specs.Grid.{IsLatitude, step, lat_zones}
use Rattle.sq_cpr.proofs.Grids.SpanBounds.{nearest_within_90, index_small}
use Rattle.sq_cpr.proofs.encoding.nearest_latitude.Goals as goal
use Rattle.sq_cpr.proofs.encoding.nearest_latitude.Given.{Over}

narrowed : (a : ℤ) → unsigned_abs a ≤ 707788800 → to_z w32 (of_z w32 (to_z w64 (of_z w64 a))) ≡ a
narrowed a h = omega (arith, ints)

fits_narrow : (a : ℤ) → unsigned_abs a ≤ 707788800 → FitsSigned w32 (to_z w64 (of_z w64 a))
fits_narrow a h = omega (arith, ints)

module _ (g : Over) (c : goal.After-nearest_index g) where
  nearest : IsNearest (degrees c.args.lat.now) (step g.S.Span.span.degrees (lat_zones c.args.parity))
      c.nearest_index.result
  nearest = subst₂ (λ (w z : ℕ). IsNearest (degrees c.args.lat.now)
      (step w z) c.nearest_index.result) c.degrees_of.ensures.value c.lat_zones.ensures c.nearest_index.ensures.nearest

  within : IsLatitude g.S.Span.span.degrees c.args.parity c.nearest_index.result
  within = nearest_within_90 (degrees c.args.lat.now) g.S.Span.span.degrees g.S.Span.span.repeats
      (lat_zones c.args.parity) c.nearest_index.result g.S.Span.full_circle c.args.lat.now.in_range.positive c.requires
      nearest

  small : unsigned_abs c.nearest_index.result ≤ 707788800
  small = index_small g.S.Span.span.degrees g.S.Span.span.repeats c.args.parity c.nearest_index.result
      g.S.Span.full_circle within

pub overflow_cast-result : goal.overflow_cast-result
overflow_cast-result g c = fits_narrow c.nearest_index.result (small g c)

pub returns-clause-nearest : goal.returns-clause-nearest
returns-clause-nearest g c =
    subst (λ b. IsNearest (degrees c.args.lat.now) (step g.S.Span.span.degrees (lat_zones c.args.parity)) b)
    (sym (narrowed c.nearest_index.result (small g c))) (nearest g c)

pub returns-clause-within : goal.returns-clause-within
returns-clause-within g c = subst (λ b. IsLatitude g.S.Span.span.degrees c.args.parity b)
    (sym (narrowed c.nearest_index.result (small g c))) (within g c)
