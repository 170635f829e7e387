-- A plain value represents at most one value, and a value has at most one plain form.
use Rattle.std.proofs.Common.{◌≡◌, ◌∙◌, refl, sym, subst}
use Rattle.sq_angle.specs.declared.angle.Angle.{Angle}
use Rattle.sq_angle.specs.declared.position.Position.{Position}
use Rattle.sq_angle.specs.Angle.{degrees}
use Rattle.sq_angle.specs.Bounds.{IsAngle, IsPosition}
use Rattle.sq_angle.specs.Fraction.{Fraction}
use Rattle.sq_angle.proofs.Coprime.{one_lowest_form}
use Rattle.sq_angle.proofs.OnePosition.{one_position}
use Rattle.sq_angle.proofs.OneReading.{one_angle}
use Rattle.sq_message.specs.declared.place.Place.{Place}
use Rattle.sq_message.specs.Places.{IsPositionOf}
use Rattle.squitter_c.specs.declared.plain.PlainAngle.{PlainAngle}
use Rattle.squitter_c.specs.declared.plain.PlainPosition.{PlainPosition}
use Rattle.squitter_c.specs.Plain.{IsLowestOf, IsLowestPosition, IsOfDegrees, PlainIsPosition, fraction_of}

-- fractions are those of at most one position
pub one_of_degrees : (plain : PlainPosition) (a b : Position) → IsOfDegrees plain a → IsOfDegrees plain b → a ≡ b
one_of_degrees plain a b x y =
    one_position a b (one_angle a.lat b.lat (x.lat ∙ sym y.lat)) (one_angle a.lon b.lon (x.lon ∙ sym y.lon))

-- a position's fractions are a position
pub is_position : (plain : PlainPosition) (p : Position) → IsOfDegrees plain p → PlainIsPosition plain
is_position plain p x = record {
  lat = subst (λ (f : Fraction). IsAngle f.num f.den) x.lat p.lat.in_range;
  lon = subst (λ (f : Fraction). IsAngle f.num f.den) x.lon p.lon.in_range;
  both = subst (λ (f : Fraction). IsPosition f (fraction_of plain.lon)) x.lat
      (subst (λ (f : Fraction). IsPosition (degrees p.lat) f) x.lon p.in_range);
}

-- a fraction is that of at most one plain angle
plain_angle : (x y : PlainAngle) → fraction_of x ≡ fraction_of y → x ≡ y
plain_angle x y e = λ i. record { num = (e i).num; den = (e i).den }

-- an angle has at most one form in lowest terms
pub one_lowest : (a : Angle) (x y : PlainAngle) → IsLowestOf (degrees a) x → IsLowestOf (degrees a) y → x ≡ y
one_lowest a x y h k =
    plain_angle x y ((one_lowest_form (degrees a) (degrees a) (fraction_of x) (fraction_of y) a.in_range.positive
    a.in_range.positive h k).0 refl)

-- a position has at most one form in lowest terms
pub one_lowest_position : (p : Position) (x y : PlainPosition) → IsLowestPosition p x → IsLowestPosition p y → x ≡ y
one_lowest_position p x y h k =
    let lat = one_lowest p.lat x.lat y.lat h.lat k.lat in
    let lon = one_lowest p.lon x.lon y.lon h.lon k.lon in
    λ i. record { lat = lat i; lon = lon i }

-- the position of a place, in lowest terms
abbrev IsLowestAt : Place → PlainPosition → Type 0
IsLowestAt place plain = (position : Position) × IsPositionOf place position × IsLowestPosition position plain

-- a place has at most one position in lowest terms
pub one_lowest_place : (place : Place) (x y : PlainPosition) → IsLowestAt place x → IsLowestAt place y → x ≡ y
one_lowest_place place x y (p, p_is, x_is) (q, q_is, y_is) =
    let same : p ≡ q = one_position p q (one_angle p.lat q.lat (p_is.lat ∙ sym q_is.lat))
    (one_angle p.lon q.lon (p_is.lon ∙ sym q_is.lon)) in
    one_lowest_position p x y x_is (subst (λ r. IsLowestPosition r y) (sym same) y_is)
