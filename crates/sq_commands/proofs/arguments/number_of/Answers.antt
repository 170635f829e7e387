use Rattle.std.proofs.Common.{◌≤◌, ◌<◌, ◌^◌, ℕ, List, length, arith, subst, sym}
use Rattle.std.proofs.Math.Nat.{pow-le-pow_right}
use Rattle.std.specs.Char.{IsAsciiDigit}
use Rattle.std.specs.List.{AllByRecursion}
use Rattle.std.specs.Str.Parse.{digits_value}
use Rattle.sq_text.specs.Timed.{IsDecimalText}
use Rattle.sq_angle.proofs.Texts.{digits_small}
use Rattle.sq_commands.proofs.arguments.number_of.Goals as goal

five_small : (digits : List ℕ) → AllByRecursion IsAsciiDigit digits → length digits ≤ 5
    → digits_value 10 digits < 10 ^ 5
five_small digits each five =
    let wide : 10 ^ length digits ≤ 10 ^ 5 = pow-le-pow_right (omega arith) five in
    omega (arith, wide, digits_small digits each)

pub returns-in-Some-clause-small : goal.returns-in-Some-clause-small
returns-in-Some-clause-small c =
    let moment : IsDecimalText c.args.digits.now c.in-Some.number
    = subst (λ digits. IsDecimalText digits c.in-Some.number) c.as_bytes.ensures.value c.in-Some.ensures.some in
    omega (arith, moment.value, five_small c.args.digits.now moment.each c.if-digits-le5.true)

pub returns-in_default-2-clause-number : goal.returns-in_default-2-clause-number
returns-in_default-2-clause-number c n is =
    let moment : IsDecimalText c.args.digits.now n = record {
      some = is.some;
      twenty = omega (arith, is.five);
      each = is.each;
      value = is.value;
      small = omega (arith, is.value, five_small c.args.digits.now is.each is.five);
    } in
    c.in_default.ensures.none n (subst (λ digits. IsDecimalText digits n) (sym c.as_bytes.ensures.value) moment)
