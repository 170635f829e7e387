-- Codes of the same numbers are equal.
use Rattle.std.proofs.Common.{◌≡◌, ◌<◌}
use Rattle.std.proofs.Props.{props}
use mathlib.Core.HLevel.{is_prop→PathP}
use Rattle.sq_cpr.specs.declared.code.Code.{Code}

pub same_code : (a b : Code) → a.lat ≡ b.lat → a.lon ≡ b.lon → a ≡ b
same_code a b lat lon =
    λ i. record {
      lat = lat i;
      lon = lon i;
      lat_below = is_prop→PathP (λ j. lat j < 131072) (λ j. hlevel props) a.lat_below b.lat_below i;
      lon_below = is_prop→PathP (λ j. lon j < 131072) (λ j. hlevel props) a.lon_below b.lon_below i;
    }
