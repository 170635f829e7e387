-- Arrivals and sites in numbers: who sent what, when, and from where.
use Rattle.std.specs.Prelude.{◌≡◌, ℕ, pos, neg_ℤ}
use Rattle.sq_angle.specs.Fraction.{Fraction}
use Rattle.sq_zones.specs.declared.parity.Parity.{Parity}
use Rattle.sq_cpr.specs.declared.code.Code.{Code}
use Rattle.sq_message.specs.Kinds.{Kind, HeadParts, me_of}
use Rattle.sq_message.specs.Parts.{squitter_parts}
use Rattle.sq_message.specs.Places.{IsAt}
use Rattle.sq_track.specs.Worlds.{Arrival}

-- a fraction of a degree, `n` / `of`: north or east, and west
abbrev pub parts : ℕ → ℕ → Fraction
parts n of = record { num = pos n; den = of }

abbrev pub west : ℕ → ℕ → Fraction
west n of = record { num = neg_ℤ (pos n); den = of }

-- a position squitter of this kind, address and grid arrives at this timestamp from this position
pub record IsArrivalFrom (kind : Kind) (sender : ℕ) (grid : Parity) (time : ℕ) (north east : Fraction)
    (arrival : Arrival) : Type 0 where
  pub moment : arrival.moment ≡ time
  pub address : (squitter_parts arrival.squitter).address ≡ sender
  pub head : HeadParts kind
  pub code : Code
  pub me : (squitter_parts arrival.squitter).me ≡ me_of kind head grid code
  pub place : IsAt north east arrival.position
