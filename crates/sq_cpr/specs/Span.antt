-- The two spans of compact position reporting (RTCA DO-260B, appendix on compact position reporting): how many degrees
-- the zones of a grid share.
use Rattle.std.specs.Prelude.{◌≡◌, ℕ, ◌*◌}

-- the degrees that a span covers, and the number of spans that make up the circle
pub record Span : Type 0 where
  pub degrees : ℕ
  pub repeats : ℕ

-- airborne positions: one span makes up the circle
abbrev pub air : Span
air = record { degrees = 360; repeats = 1 }

-- surface positions: a quarter of the circle, four times
abbrev pub ground : Span
ground = record { degrees = 90; repeats = 4 }

-- the spans make up the circle of 360 degrees
abbrev pub FitsCircle : Span → Type 0
FitsCircle span = span.degrees * span.repeats ≡ 360
