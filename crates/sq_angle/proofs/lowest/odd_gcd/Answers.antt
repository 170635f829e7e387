use Rattle.std.proofs.Common.{◌%◌, ◌<◌, ◌^◌, arith}
use Rattle.std.proofs.lemmas.Nat.Gcd.{IsGcd-from_mod, IsGcd-from_zero, IsGcd-swap}
use Rattle.sq_angle.proofs.TrailingZeros.{gcd_by_step, less_after_step, odd_after_step}
use Rattle.sq_angle.proofs.lowest.odd_gcd.Goals as goal

pub loop-x-init : goal.loop-x-init
loop-x-init c = record {
  odd = c.requires;
  same = λ g h. IsGcd-from_mod c.args.a c.args.b g (IsGcd-swap (c.args.a % c.args.b) c.args.b g h);
}

pub loop-x-preserved : goal.loop-x-preserved
loop-x-preserved c =
    let some : 0 < c.loop-x.x = omega (arith, c.loop-x-test.true) in
    let small : c.loop-x.x < 2 ^ 64 = omega (arith, c.loop-x.auto.x-fits) in
    record {
      odd = odd_after_step c.loop-x.x c.loop-x.y c.apart.result.1 some small c.loop-x.invariant.odd
          c.apart.ensures.smaller;
      same = λ g h. c.loop-x.invariant.same g (gcd_by_step c.loop-x.x c.loop-x.y c.apart.result.0 c.apart.result.1 g
          some small c.loop-x.invariant.odd c.apart.ensures.smaller c.apart.ensures.difference h);
    }

pub loop-x-smaller : goal.loop-x-smaller
loop-x-smaller c = less_after_step c.loop-x.x c.loop-x.y c.apart.result.0 c.apart.result.1
    (omega (arith, c.loop-x-test.true)) c.loop-x.invariant.odd c.apart.ensures.smaller c.apart.ensures.difference

pub returns : goal.returns
returns c = c.loop-x.invariant.same c.loop-x.y
    (IsGcd-swap c.loop-x.y c.loop-x.x c.loop-x.y (IsGcd-from_zero c.loop-x.y c.loop-x.x c.loop-x-test.false))
