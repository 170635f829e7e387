-- The reports on invalid arguments.
use Rattle.std.specs.Prelude.{◌≡◌, ◌++◌, ℕ, List, codes}
use Rattle.sq_devices.specs.Changes.{Taken, TookNothing, Written, WroteNothing}
use Rattle.sq_angle.specs.Faults.{angle_fault_text}
use Rattle.sq_track.specs.Faults.{track_fault_text}
use Rattle.sq_track.specs.declared.heard.TrackFault.TheVariants as tracks
use Rattle.sq_commands.specs.declared.arguments.ArgumentFault.{ArgumentFault}
use Rattle.sq_commands.specs.declared.arguments.ArgumentFault.TheVariants.{Format, Kind, Parity, Address, Feet, Limit}
use Rattle.sq_commands.specs.declared.arguments.ArgumentFault.TheVariants.{NoLimit, Window, Site, Lat, Lon, Reorder, Leap}
use Rattle.sq_commands.specs.declared.status.Status.TheVariants.{Misused}
use Rattle.sq_commands.specs.Replies.{ReplyParts, reporting}

-- the report on an argument
abbrev pub argument_text : ArgumentFault → List ℕ
argument_text Format = codes "bad format"
argument_text Kind = codes "bad kind"
argument_text Parity = codes "bad parity"
argument_text Address = codes "bad address"
argument_text Feet = codes "bad feet"
argument_text Limit = codes "bad limit"
argument_text NoLimit = track_fault_text tracks.NoLimit
argument_text Window = codes "bad window"
argument_text Site = codes "site needs lat and lon"
argument_text (Lat fault) = codes "lat " ++ angle_fault_text fault
argument_text (Lon fault) = codes "lon " ++ angle_fault_text fault
argument_text Reorder = codes "bad reorder"
argument_text Leap = codes "bad leap"

-- the reply to an invalid argument
abbrev pub misused : ArgumentFault → ReplyParts
misused fault = reporting Misused (argument_text fault)

-- an argument is invalid: nothing was read or written, and the reply reports it
abbrev pub IsMisuse : ArgumentFault → ReplyParts → Taken → Written → Type 0
IsMisuse fault reply input output = TookNothing input × WroteNothing output × (reply ≡ misused fault)
