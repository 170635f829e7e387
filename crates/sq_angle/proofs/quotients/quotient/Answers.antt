use Rattle.std.proofs.Common.{◌∙◌}
use Rattle.sq_angle.proofs.Reciprocals.{by_steps}
use Rattle.sq_angle.proofs.quotients.quotient.Goals as goal

pub returns-then-divisor-eq0 : goal.returns-then-divisor-eq0
returns-then-divisor-eq0 c = c.from.ensures ∙ c.by_zones.ensures
    ∙ by_steps c.args.value c.args.divisor c.if-divisor-eq0.true
