-- Results for frames, in plain numbers.
use Rattle.std.specs.Prelude.{◌≡◌, ℕ, pos}
use Rattle.sq_angle.specs.declared.position.Position.{Position}
use Rattle.sq_message.specs.declared.place.Place.{Place}
use Rattle.sq_message.specs.Places.{IsPositionOf}
use Rattle.sq_track.specs.declared.heard.Heard.{Heard}
use Rattle.sq_track.specs.declared.heard.Heard.TheVariants.{Fix, Followed, Waiting, Split, Far, NoSite, NotPosition}
use Rattle.squitter_c.specs.declared.heard.PlainHeard.{PlainHeard}
use Rattle.squitter_c.specs.Plain.{IsLowestPosition}

-- the position of the place, in lowest terms
abbrev pub HasPlace : Place → PlainHeard → Type 0
HasPlace place plain = (position : Position) × IsPositionOf place position × IsLowestPosition position plain.position

-- no position: 0/0 and 0/0
pub record HasNoPlace (plain : PlainHeard) : Type 0 where
  pub lat : (plain.position.lat.num ≡ pos 0) × (plain.position.lat.den ≡ 0)
  pub lon : (plain.position.lon.num ≡ pos 0) × (plain.position.lon.den ≡ 0)

-- a result in plain numbers: which of the seven it is, and the zone counts or 0
pub record IsHeardAs (which first second : ℕ) (plain : PlainHeard) : Type 0 where
  pub what : plain.what ≡ which
  pub even : plain.even ≡ first
  pub odd : plain.odd ≡ second

-- each of the seven results, with its position if it has one
abbrev pub IsPlainHeard : Heard → PlainHeard → Type 0
IsPlainHeard (Fix place) plain = IsHeardAs 1 0 0 plain × HasPlace place plain
IsPlainHeard (Followed place) plain = IsHeardAs 2 0 0 plain × HasPlace place plain
IsPlainHeard Waiting plain = IsHeardAs 3 0 0 plain × HasNoPlace plain
IsPlainHeard (Split even odd) plain = IsHeardAs 4 even odd plain × HasNoPlace plain
IsPlainHeard Far plain = IsHeardAs 5 0 0 plain × HasNoPlace plain
IsPlainHeard NoSite plain = IsHeardAs 6 0 0 plain × HasNoPlace plain
IsPlainHeard NotPosition plain = IsHeardAs 7 0 0 plain × HasNoPlace plain
