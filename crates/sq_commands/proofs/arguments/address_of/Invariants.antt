use Rattle.std.proofs.Common.{◌≡◌, ◌<◌, ◌^◌, ◌*◌, take}
use Rattle.std.specs.Int.Digits.{number_from_digits}
use Rattle.sq_commands.proofs.arguments.address_of.Given as goal

abbrev pub invariant-loop-byte : goal.invariant-loop-byte
invariant-loop-byte l = (l.address ≡ number_from_digits 256 (take l.byte-index l.bytes))
    × (l.address < 2 ^ (8 * l.byte-index))
