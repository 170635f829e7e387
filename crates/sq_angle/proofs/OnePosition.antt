-- A position is determined by its latitude and its longitude.
use Rattle.std.proofs.Common.{◌≡◌}
use Rattle.std.proofs.Props.{props}
use mathlib.Core.HLevel.{is_prop→PathP}
use Rattle.sq_angle.specs.declared.position.Position.{Position}
use Rattle.sq_angle.specs.Angle.{degrees}
use Rattle.sq_angle.specs.Bounds.{IsPosition}

-- positions with the same latitude and the same longitude are equal
pub one_position : (a b : Position) → a.lat ≡ b.lat → a.lon ≡ b.lon → a ≡ b
one_position a b lat lon =
    λ i. record {
      lat = lat i;
      lon = lon i;
      in_range = is_prop→PathP (λ j. IsPosition (degrees (lat j)) (degrees (lon j)))
          (λ j. hlevel props) a.in_range b.in_range i;
    }
