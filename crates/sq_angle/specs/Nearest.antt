-- The nearest whole number of steps (RTCA DO-260B, the appendix on compact position reporting: floor(x + 1/2)).
use Rattle.std.specs.Prelude.{◌*◌, ℤ, pos, ◌+ℤ◌, ◌-ℤ◌, ◌*ℤ◌}
use Rattle.sq_angle.specs.Fraction.{Fraction, ◌≼◌, ◌≺◌}

-- k half steps
abbrev pub half_steps : ℤ → Fraction → Fraction
half_steps k step = record { num = step.num *ℤ k; den = 2 * step.den }

-- (a - 1/2) step ≤ x < (a + 1/2) step
pub record IsNearest (x step : Fraction) (a : ℤ) : Type 0 where
  pub from : half_steps (pos 2 *ℤ a -ℤ pos 1) step ≼ x
  pub below : x ≺ half_steps (pos 2 *ℤ a +ℤ pos 1) step
