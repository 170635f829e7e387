-- What one get did to a source.
use Rattle.std.specs.Prelude.{◌≡◌, ◌+◌, ℕ, List, true}
use Rattle.std.specs.Io.KnownBytes.{Consumes}
use Rattle.sq_devices.specs.Device.{KeepsOrHides}
use Rattle.sq_devices.specs.declared.device.Source.{Ghosts as SourceGhosts}

-- one get returned these bytes
pub record HasGiven {S : Type 0} (s : SourceGhosts S) (old new : S) (bytes : List ℕ) : Type 0 where
  pub gave : s.Gave old bytes new
  pub moved : Consumes (s.to_come old) (s.to_come new) bytes
  pub used : s.gets_left new + 1 ≡ s.gets_left old

-- one get failed: the source counts as failed, and its bytes are unchanged, or it does not report them
pub record HasGivenNothing {S : Type 0} (s : SourceGhosts S) (old new : S) : Type 0 where
  pub failed : s.has_failed new ≡ true
  pub kept : KeepsOrHides (s.to_come old) (s.to_come new)
  pub unused : s.gets_left new ≡ s.gets_left old
