use Rattle.std.proofs.Common.{subst}
use Rattle.std.proofs.Math.Nat.{pos_of_dvd_of_pos}
use Rattle.std.specs.Int.{IsGcd}
use Rattle.sq_angle.proofs.LowestTerms.{coprime_after, same_value, quotient_positive}
use Rattle.sq_angle.proofs.lowest.lowest_terms.Goals as goal

pub nonzero_div-result : goal.nonzero_div-result
nonzero_div-result c = pos_of_dvd_of_pos c.gcd-divisor.ensures.1 c.requires

pub nonzero_div-result-2 : goal.nonzero_div-result-2
nonzero_div-result-2 c = pos_of_dvd_of_pos c.gcd-divisor.ensures.1 c.requires

pub returns-then-divisor-eq1-clause-coprime : goal.returns-then-divisor-eq1-clause-coprime
returns-then-divisor-eq1-clause-coprime c =
    subst (IsGcd c.args.num c.args.den) c.if-divisor-eq1.true c.gcd-divisor.ensures

pub returns-clause-positive : goal.returns-clause-positive
returns-clause-positive c = quotient_positive c.args.den c.gcd-divisor.result c.requires c.gcd-divisor.ensures.1

pub returns-clause-coprime : goal.returns-clause-coprime
returns-clause-coprime c =
    coprime_after c.args.num c.args.den c.gcd-divisor.result
    (pos_of_dvd_of_pos c.gcd-divisor.ensures.1 c.requires) c.gcd-divisor.ensures

pub returns-clause-value : goal.returns-clause-value
returns-clause-value c = same_value c.args.num c.args.den c.gcd-divisor.result c.gcd-divisor.ensures.0
    c.gcd-divisor.ensures.1
