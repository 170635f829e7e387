-- The values that the decoders find, as plain numbers.
use Rattle.std.proofs.Common.{◌≡◌, ◌∙◌, ℕ, ◌*◌, ◌<◌, ℤ, pos, refl, arith, ap, sym, to_z, of_z, FitsSigned}
use Rattle.std.proofs.lemmas.Int.{to_z-of_z}
use Rattle.std.specs.Int.{w32}
use Rattle.sq_angle.specs.declared.angle.Angle.{Angle}
use Rattle.sq_angle.specs.Angle.{degrees}
use Rattle.sq_angle.specs.Fraction.{Fraction}
use Rattle.sq_angle.specs.Whole.{IsCongruent}
use Rattle.sq_angle.proofs.Congruence.{congruent_sym, congruent_trans, congruent_factor}
use Rattle.sq_zones.specs.Zones.{zones_at}
use Rattle.sq_zones.specs.declared.parity.Parity.{Parity}
use Rattle.sq_zones.specs.declared.parity.Parity.TheVariants.{Even, Odd}
use Rattle.sq_zones.proofs.ZoneBounds.{lon_zones_at-least}
use Rattle.sq_cpr.specs.Code.{CodeNumbers}
use Rattle.sq_cpr.specs.Span.{Span}
use Rattle.sq_cpr.specs.Grid.{Point, IsGridPoint, IsLatitude, codes_of_zone, lat_zones, circle, grid_latitude, latitude}
use Rattle.sq_cpr.specs.Close.{count_at, zones_of, HaveOneCount}
use Rattle.sq_cpr.specs.Multiplied.{LiesWithin}
use Rattle.sq_cpr.specs.Local.{IsNearLatitude, IsLocalPoint}
use Rattle.sq_cpr.specs.Pair.{of_parity, AreInRange}
use Rattle.sq_cpr.proofs.Distances.Agree.{near_from_within}
use Rattle.sq_cpr.proofs.Decoding.ZonePairs.{code_of_turn}

pub some_lat_zones : (parity : Parity) → 0 < lat_zones parity
some_lat_zones Even = omega arith
some_lat_zones Odd = omega arith

pub some_zones_of_point : (span : Span) (p : Point) → IsGridPoint span p → 0 < p.zones
some_zones_of_point span p h = rw h.zones (lon_zones_at-least p.parity (latitude span p))

-- indices that differ by whole circles have the same code
pub code_of_circle : (zones repeats : ℕ) {a b : ℤ} → IsCongruent (circle zones repeats) a b
    → IsCongruent codes_of_zone a b
code_of_circle zones repeats h = code_of_turn zones (congruent_factor (zones * codes_of_zone) repeats h)

pub near_latitude : (w zones code : ℕ) (parity : Parity) (lat : Fraction) (base index : ℤ) → zones ≡ lat_zones parity
    → base ≡ pos code →
    IsCongruent (1 * codes_of_zone) index base → LiesWithin 1 w zones index lat → IsNearLatitude w parity lat code index
near_latitude w zones code parity lat base index e f h k =
    record {
      has_code = code_of_turn 1 (rw f at h);
      near = near_from_within w (lat_zones parity) index lat (some_lat_zones parity) (rw e at k);
    }

pub local_point : (span : Span) (code : CodeNumbers) (parity : Parity) (lat lon : Fraction) (p : Point)
    (base turned : ℤ) →
    IsGridPoint span p → p.parity ≡ parity → IsNearLatitude span.degrees parity lat code.lat p.lat_index
    → base ≡ pos code.lon →
    IsCongruent (1 * codes_of_zone) turned base → LiesWithin 1 span.degrees p.zones turned lon
    → IsCongruent (circle p.zones span.repeats) (pos p.lon_index) turned →
    IsLocalPoint span code parity lat lon p
local_point span code parity lat lon p base turned p_is p_parity near f same near_lon around =
    record {
      of_grid = p_is;
      of_parity = p_parity;
      has_code = record {
        latitude = near.has_code;
        longitude = congruent_trans (code_of_circle p.zones span.repeats around) (code_of_turn 1 (rw f at same));
      };
      near = record {
        north_south = rw p_parity near.near;
        east_west = (
          turned,
          congruent_sym around,
          near_from_within span.degrees p.zones turned lon (some_zones_of_point span p p_is) near_lon,
        );
      };
    }

-- the newest of two latitudes with one zone count makes a point
pub point_of_pair : (span : Span) (newest : Parity) (p : Point) (even odd : ℤ) → AreInRange span.degrees even odd
    → HaveOneCount span.degrees even odd →
    p.parity ≡ newest → p.lat_index ≡ of_parity newest even odd
    → p.zones ≡ zones_of newest (count_at span.degrees Even even)
    → p.lon_index < circle p.zones span.repeats → IsGridPoint span p
point_of_pair span Even p even odd inside counts parity index zones below =
    record { north_south = rw (parity, index) inside.even; zones = zones ∙ rw (parity, index) refl; east_west = below }
point_of_pair span Odd p even odd inside counts parity index zones below =
    record {
      north_south = rw (parity, index) inside.odd;
      zones = zones ∙ rw (parity, index, counts) refl;
      east_west = below;
    }

-- facts about two latitude indices, from the values of the latitudes
pub record FoundPair (w : ℕ) (even odd : ℤ) (count : ℕ) : Type 0 where
  pub inside : AreInRange w even odd
  pub counted : count ≡ count_at w Even even
  pub counts : HaveOneCount w even odd

pub found_pair : (w : ℕ) (even odd : ℤ) (even_lat odd_lat : Angle) (even_count odd_count : ℕ) → FitsSigned w32 even
    → FitsSigned w32 odd →
    IsLatitude w Even (to_z w32 (of_z w32 even)) → IsLatitude w Odd (to_z w32 (of_z w32 odd)) →
    degrees even_lat ≡ grid_latitude w Even (to_z w32 (of_z w32 even))
    → degrees odd_lat ≡ grid_latitude w Odd (to_z w32 (of_z w32 odd)) →
    even_count ≡ zones_at (degrees even_lat) → odd_count ≡ zones_at (degrees odd_lat) → even_count ≡ odd_count
    → FoundPair w even odd even_count
found_pair w even odd even_lat odd_lat even_count odd_count even_fits odd_fits even_in odd_in even_is odd_is
    even_counted odd_counted one =
    let even_back = to_z-of_z w32 even even_fits in
    let odd_back = to_z-of_z w32 odd odd_fits in
    let first : even_count ≡ count_at w Even even =
    even_counted ∙ ap zones_at even_is ∙ ap (λ (a : ℤ). count_at w Even a) even_back in
    let second : odd_count ≡ count_at w Odd odd =
    odd_counted ∙ ap zones_at odd_is ∙ ap (λ (a : ℤ). count_at w Odd a) odd_back in
    record {
      inside = record { even = rw even_back at even_in; odd = rw odd_back at odd_in };
      counted = first;
      counts = sym first ∙ one ∙ second;
    }
