-- A position has at most one text.
use Rattle.std.specs.Prelude.{codes, decimal}
use Rattle.std.specs.Fmt.{signed_decimal}
use Rattle.std.proofs.Common.{◌≡◌, ◌≤◌, ◌∙◌, ◌++◌, ℕ, List, ap, ap₂, refl, sym}
use Rattle.sq_angle.specs.declared.position.Position.{Position}
use Rattle.sq_angle.specs.Angle.{degrees}
use Rattle.sq_angle.specs.Fraction.{Fraction}
use Rattle.sq_angle.specs.Position.{lat_of, lon_of}
use Rattle.sq_angle.proofs.Coprime.{one_lowest_form}
use Rattle.sq_angle.proofs.OneText.{one_decimal7}
use Rattle.sq_text.specs.Place.{IsFractionText, IsPlaceText, pair_line}

one_fraction_text : (x : Fraction) (s t : List ℕ) → 1 ≤ x.den → IsFractionText x s → IsFractionText x t → s ≡ t
one_fraction_text x s t p (l, h, is) (m, k, be) =
    let same : l ≡ m = (one_lowest_form x x l m p p h k).0 refl in
    is ∙ ap (λ (f : Fraction). signed_decimal f.num ++ codes "/" ++ decimal f.den) same ∙ sym be

pub one_place_text : (position : Position) (a b : List ℕ) → IsPlaceText position a → IsPlaceText position b → a ≡ b
one_place_text position a b h k =
    let lat = position.lat.in_range.positive in
    let lon = position.lon.in_range.positive in
    let first = one_decimal7 (degrees
    (lat_of position)) h.lat_decimals k.lat_decimals lat h.lat_rounded k.lat_rounded in
    let second = one_decimal7 (degrees
    (lon_of position)) h.lon_decimals k.lon_decimals lon h.lon_rounded k.lon_rounded in
    let third = one_fraction_text
    (degrees (lat_of position)) h.lat_fraction k.lat_fraction lat h.lat_lowest k.lat_lowest in
    let fourth = one_fraction_text
    (degrees (lon_of position)) h.lon_fraction k.lon_fraction lon h.lon_lowest k.lon_lowest in
    h.whole ∙ ap₂ (λ x y. x ++ y) (ap₂ pair_line first second) (ap₂ pair_line third fourth) ∙ sym k.whole
