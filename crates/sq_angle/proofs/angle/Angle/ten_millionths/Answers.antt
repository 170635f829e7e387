use Rattle.std.proofs.Common.{ℕ, pos, ◌≡◌, ◌+◌, ◌*◌, ◌/◌, unsigned_abs, rules, SFits, w64, to_z, of_z, to_z-of_z, ap}
use Rattle.std.proofs.Common.{◌∙◌, sym, subst, subst₂}
use Rattle.sq_angle.specs.Decimal.{ten_millionth}
use Rattle.sq_angle.specs.Nearest.{IsNearest}
use Rattle.sq_angle.proofs.Rounding.{nearest_unit}
use Rattle.sq_angle.proofs.angle.Angle.ten_millionths.Goals as goal

pub returns-clause-value : goal.returns-clause-value
returns-clause-value c =
    let x = c.args.self.now in
    let fits : SFits w64 x.num = search rules in
    let num_is : c.from-scaled.result ≡ unsigned_abs x.num = c.from-scaled.ensures ∙ c.unsigned_abs.ensures.value
    ∙ ap unsigned_abs (ap (λ z. to_z w64 (of_z w64 z)) c.num.ensures ∙ to_z-of_z fits) in
    let half_is : c.from.result ≡ c.den-den.result = c.from.ensures in
    let quotient_is : c.quotient.result ≡ (20000000 * c.from-scaled.result + c.den-den.result) / (2 * c.den-den.result)
    = subst (λ h. c.quotient.result
    ≡ (20000000 * c.from-scaled.result + h) / (2 * c.den-den.result)) half_is c.quotient.ensures in
    let nearest : IsNearest (record { num = pos (unsigned_abs x.num); den = x.den }) ten_millionth
    (pos ((20000000 * c.from-scaled.result + c.den-den.result) / (2 * c.den-den.result)))
    = subst₂ (λ (n d : ℕ). IsNearest (record { num = pos (unsigned_abs x.num); den = x.den }) ten_millionth
    (pos ((20000000 * n + d) / (2 * d)))) (sym num_is) (sym c.den-den.ensures)
    (nearest_unit (unsigned_abs x.num) x.den 10000000 x.in_range.positive) in
    subst (λ q. IsNearest (record { num = pos (unsigned_abs x.num); den = x.den }) ten_millionth (pos q))
    (sym quotient_is) nearest
