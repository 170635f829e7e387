use Rattle.std.proofs.Common.{◌≡◌, ◌*◌, ◌%◌, ◌^◌, ◌≤◌, arith, subst, sym, mul_comm}
use Rattle.std.proofs.lemmas.Nat.Gcd.{le_of_dvd}
use Rattle.std.specs.Int.{IsGcd}
use Rattle.sq_angle.proofs.TrailingZeros.{gcd_by_zeros, odd_rest}
use Rattle.sq_angle.proofs.lowest.gcd.Goals as goal

pub returns : goal.returns
returns c =
    let g = c.odd_gcd.result in
    let t = c.min-twos.result in
    let both = gcd_by_zeros c.args.a c.args.b t g c.requires (omega (arith, c.ranges.a)) (omega (arith, c.ranges.b))
    c.min-twos.ensures c.odd_gcd.ensures in
    let small : 2 ^ t * g ≤ c.args.b = le_of_dvd c.requires both.1 in
    let kept : g * 2 ^ t % 2 ^ 64 ≡ 2 ^ t * g = omega (arith, small, c.ranges.b, mul_comm (2 ^ t) g) in
    subst (IsGcd c.args.a c.args.b) (sym kept) both

pub odd_gcd-requires : goal.odd_gcd-requires
odd_gcd-requires c = odd_rest c.args.b c.requires c.ranges.b.fits
