-- The state of the console's clock.
use Rattle.std.specs.Prelude.{◌≡◌, ℕ, Bool}
use Rattle.sq_devices.specs.declared.console_clock.ConsoleClock.{ConsoleClock}

-- whether the input is received while it is read
abbrev pub is_live : {T : Type 0} → ConsoleClock T → Bool
is_live clock = clock.live

-- the latest time that was returned
abbrev pub latest_of : {T : Type 0} → ConsoleClock T → ℕ
latest_of clock = clock.latest

-- one reading returned this time: it is the latest, and the input is live or not, as before
abbrev pub IsTold : {T : Type 0} → ConsoleClock T → ℕ → ConsoleClock T → Type 0
IsTold old moment new = (moment ≡ new.latest) × (new.live ≡ old.live)
