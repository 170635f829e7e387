-- Whether a place can be true, in plain numbers.
use Rattle.std.specs.Prelude.{◌≡◌, ◌+◌, ◌*◌, ◌==◌, ℕ, Option, Some, None, if◌then◌else◌}
use Rattle.sq_angle.specs.declared.position.Position.{Position}
use Rattle.sq_message.specs.Spelling.{bit}
use Rattle.sq_track.specs.declared.contact.LastFix.{LastFix}
use Rattle.sq_track.specs.declared.watch.Watch.{Watch}
use Rattle.sq_track.specs.Watch.{is_beyond, is_too_fast}
use Rattle.squitter_c.specs.declared.entry.PlainFix.{PlainFix}
use Rattle.squitter_c.specs.declared.plain.PlainPosition.{PlainPosition}
use Rattle.squitter_c.specs.declared.watch.PlainWatch.{PlainWatch}
use Rattle.squitter_c.specs.Entries.{IsFixOf}
use Rattle.squitter_c.specs.Plain.{IsOfDegrees, PlainIsPosition}

-- 0 means that a number is not known
abbrev pub known : ℕ → Option ℕ
known number = if number == 0 then None else Some number

abbrev pub watch_of : PlainWatch → Watch
watch_of plain = record { range = known plain.range; speed = known plain.speed }

-- the position of these fractions, or none if they are out of range
abbrev pub IsPlaceOf : PlainPosition → Option Position → Type 0
IsPlaceOf plain (Some position) = IsOfDegrees plain position
IsPlaceOf plain None = ¬ (PlainIsPosition plain)

-- 1 for a place beyond the range, and 2 for one of an aircraft that is too fast
abbrev pub doubts_of : Watch → (site : Option Position) → (before : Option LastFix) → (moment : ℕ) → Option Position → ℕ
doubts_of watch site before moment None = 0
doubts_of watch site before moment (Some place) =
    bit (is_beyond watch.range site place) + 2 * bit (is_too_fast watch.speed before moment place)

-- the doubts about a place
abbrev pub AreDoubts : PlainWatch → (site : PlainPosition) → (before : PlainFix) → (moment : ℕ)
    → (place : PlainPosition) → ℕ → Type 0
AreDoubts watch plain_site plain_before moment plain doubts =
    (site : Option Position) × (before : Option LastFix) × (place : Option Position)
    × IsPlaceOf plain_site site × IsFixOf plain_before before × IsPlaceOf plain place
    × (doubts ≡ doubts_of (watch_of watch) site before moment place)

-- what is asked has at most one answer
abbrev pub OneDoubt : Type 0
OneDoubt = (watch : PlainWatch) (site : PlainPosition) (before : PlainFix) (moment : ℕ) (place : PlainPosition)
    (doubts others : ℕ) → AreDoubts watch site before moment place doubts
    → AreDoubts watch site before moment place others → doubts ≡ others
