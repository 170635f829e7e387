-- A fraction has at most one text with seven decimals.
use Rattle.std.proofs.Common.{◌≡◌, ℕ, ap, ◌∙◌, sym, pos, int_lt, arith}
use Rattle.std.proofs.lemmas.Int.{ints}
use Rattle.sq_angle.specs.Fraction.{magnitude}
use Rattle.sq_angle.specs.Decimal.{seven_places}
use Rattle.sq_angle.specs.Laws.{OneDecimal7}
use Rattle.sq_angle.proofs.Rounding.{nearest_once}

-- two texts of a fraction are equal
pub one_decimal7 : OneDecimal7
one_decimal7 x s t some a b =
    let nearest = nearest_once (magnitude x) 1 10000000 (pos a.0) (pos b.0) a.1 b.1 in
    let same : a.0 ≡ b.0 = omega (arith, ints) in
    a.2 ∙ ap (λ (v : ℕ). seven_places (int_lt x.num (pos 0)) v) same ∙ sym b.2
