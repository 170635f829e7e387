use Rattle.std.proofs.Common.{◌*◌, ◌∙◌, suc, arith, inl, inr, refl, sym, ap}
use Rattle.std.proofs.Math.Nat.{pow-suc}
use Rattle.squitter_c.proofs.listener.groups_for.Goals as goal

pub loop-groups-init : goal.loop-groups-init
loop-groups-init c = (0, refl, omega arith, inl refl)

pub loop-groups-preserved : goal.loop-groups-preserved
loop-groups-preserved c =
    let (exponent, power, some, least) = c.loop-groups.invariant in (
      suc exponent,
      ap (λ n. n * 2) power ∙ sym (pow-suc 2 exponent),
      omega (arith, some),
      inr (omega (arith, c.loop-groups-test.true)),
    )

pub returns : goal.returns
returns c =
    let (exponent, power, some, least) = c.loop-groups.invariant in
    record { exponent = exponent; is_power = power; enough = omega (arith, c.loop-groups-test.false); least = least }
