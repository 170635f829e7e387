use Rattle.std.proofs.Common.{◌≡◌, ◌+◌, ◌-◌, cond, nat_le, ap, ◌∙◌, arith, rules}
use Rattle.std.proofs.lemmas.List.Sums.{count_by-le-length}
use Rattle.sq_zones.specs.declared.zones.TheConstants.{ZONE_LIMITS}
use Rattle.sq_zones.proofs.Bands.{banded, by_band, counted}
use Rattle.sq_zones.proofs.zones.limits_from.Goals as goal

total : (c : goal.After-from) → 57 - c.limit_of_band-place.result + c.from.result ≡ counted c.args.scaled ZONE_LIMITS
total c =
    let place = c.limit_of_band-place.result in
    let there : c.from.result ≡ cond c.is_at_most.result 1 0 = search (rules, c.from.ensures) in
    let shown : 57 - place + c.from.result ≡ by_band c.args.scaled place =
    ap (λ n. 57 - place + n) there ∙ ap (λ b. 57 - place + cond b 1 0) c.is_at_most.ensures in
    shown ∙ banded c.args.scaled place c.requires c.limit_of_band-place.ensures.value

pub returns-clause-value : goal.returns-clause-value
returns-clause-value c = total c

pub returns-clause-at_most : goal.returns-clause-at_most
returns-clause-at_most c = omega (arith, total c, count_by-le-length (λ limit. nat_le c.args.scaled limit) ZONE_LIMITS)
