-- Worlds that stand still: the position of each address does not change.
use Rattle.std.specs.Prelude.{◌≡◌, IsTrue, Contains, ℤ, pos}
use Rattle.sq_angle.specs.Angle.{degrees}
use Rattle.sq_angle.specs.Fraction.{Fraction, ◌≃◌}
use Rattle.sq_angle.specs.Position.{lat_of, lon_of}
use Rattle.sq_angle.specs.declared.position.Position.{Position}
use Rattle.sq_cpr.specs.Close.{difference}
use Rattle.sq_track.specs.History.{are_of_one_sender}
use Rattle.sq_track.specs.Worlds.{Arrival, World}

-- x and y are one angle, after this number of turns of 360 degrees
abbrev pub AreOneAngle : ℤ → Fraction → Fraction → Type 0
AreOneAngle turns x y = (difference 360 x y turns).num ≡ pos 0

-- the positions are one place: their latitudes are equal, and their longitudes differ by whole turns
pub record AreOnePlace (x y : Position) : Type 0 where
  pub latitudes : degrees (lat_of x) ≃ degrees (lat_of y)
  pub turns : ℤ
  pub longitudes : AreOneAngle turns (degrees (lon_of x)) (degrees (lon_of y))

-- all arrivals of one address and kind come from one place
abbrev pub IsStanding : World → Type 0
IsStanding world =
    (a b : Arrival) → Contains world a → Contains world b → IsTrue (are_of_one_sender a.squitter b.squitter)
    → AreOnePlace a.position b.position
