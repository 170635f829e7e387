use Rattle.std.proofs.Common.{◌≡◌, ◌+◌, ◌*◌, ◌^◌, ◌≤◌, to_z, of_z, to_z-of_z, w64, SFits, unsigned_abs, nat_le}
use Rattle.std.proofs.Common.{count_by, rules, ap, ap₂, ◌∙◌, sym, subst}
use Rattle.std.specs.Int.{div_ceil}
use Rattle.sq_angle.specs.Angle.{degrees}
use Rattle.sq_zones.specs.Zones.{zones_at, zone_limits}
use Rattle.sq_zones.proofs.Counts.{count_ceil}
use Rattle.sq_zones.proofs.ZoneBounds.{zones_at-most}
use Rattle.sq_zones.proofs.zones.zone_count.Goals as goal

value : (c : goal.After-limits_from) → 1 + c.limits_from.result ≡ zones_at (degrees c.args.lat.now)
unfolding zones_at zone_limits
value c =
    let x = c.args.lat.now in
    let n = unsigned_abs x.num * 10 ^ 8 in
    let fits : SFits w64 x.num = search rules in
    let num_is : c.unsigned_abs.result ≡ unsigned_abs x.num = c.unsigned_abs.ensures.value
    ∙ ap unsigned_abs (ap (λ z. to_z w64 (of_z w64 z)) c.num.ensures ∙ to_z-of_z fits) in
    let quotient_is : c.scaled_up-scaled.result ≡ div_ceil n x.den =
    c.scaled_up-scaled.ensures.value ∙ ap₂ (λ m d. div_ceil (m * 10 ^ 8) d) num_is c.den.ensures in
    ap (λ m. 1 + m) (c.limits_from.ensures.value
    ∙ ap (λ s. count_by (λ limit. nat_le s limit) zone_limits) quotient_is
    ∙ count_ceil n x.den zone_limits x.in_range.positive)

pub returns-clause-value : goal.returns-clause-value
returns-clause-value c = value c

pub returns-clause-at_most : goal.returns-clause-at_most
returns-clause-at_most c = subst (λ n. n ≤ 59) (sym (value c)) (zones_at-most (degrees c.args.lat.now))
