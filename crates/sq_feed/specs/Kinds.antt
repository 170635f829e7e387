-- The kinds of things that start in a Beast stream, and the messages that bytes spell.
use Rattle.std.specs.Prelude.{◌==◌, ◌+◌, ℕ, Bool, true, false, List, take, drop, if◌then◌else◌}
use Rattle.std.specs.Int.Digits.{number_from_digits}
use Rattle.sq_feed.specs.declared.message.Size.{Size}
use Rattle.sq_feed.specs.declared.message.Size.TheVariants.{TwoBytes, SevenBytes, FourteenBytes}
use Rattle.sq_feed.specs.declared.message.Kind.{Kind}
use Rattle.sq_feed.specs.declared.message.Kind.TheVariants.{Message, Status, ReceiverId, Unknown}
use Rattle.sq_feed.specs.declared.message.RawFrame.{RawFrame}
use Rattle.sq_feed.specs.declared.message.RawFrame.TheVariants.{ModeAc, Short, Long}
use Rattle.sq_feed.specs.declared.message.Time.TheVariants.{Ticks}
use Rattle.sq_feed.specs.declared.message.Message.{Message as OneMessage}

-- The kind that a type byte starts: `1`, `2` and `3` are messages, `4` is the receiver's own status, and E3 is the id
-- of a receiver.
abbrev pub kind_of : ℕ → Kind
kind_of byte =
    if byte == 49 then Message TwoBytes
    else (if byte == 50 then Message SevenBytes
    else (if byte == 51 then Message FourteenBytes
    else (if byte == 52 then Status else (if byte == 0xE3 then ReceiverId else Unknown))))

-- the bytes of a frame
abbrev pub frame_len : Size → ℕ
frame_len TwoBytes = 2
frame_len SevenBytes = 7
frame_len FourteenBytes = 14

-- The bytes of a message after its type byte: six of the clock, one of the signal strength, and the frame.
abbrev pub message_len : Size → ℕ
message_len size = 7 + frame_len size

-- the frame of these bytes
abbrev pub frame_of : Size → List ℕ → RawFrame
frame_of TwoBytes bytes = ModeAc bytes
frame_of SevenBytes bytes = Short bytes
frame_of FourteenBytes bytes = Long bytes

-- A frame of Mode S. The four digits of Mode A/C may be any number.
abbrev pub is_mode_s : RawFrame → Bool
is_mode_s (ModeAc frame) = false
is_mode_s (Short frame) = true
is_mode_s (Long frame) = true

-- The message of the bytes after its type byte. The clock is a 48-bit number, most significant byte first.
abbrev pub message_of : Size → List ℕ → OneMessage
message_of size bytes = record {
  time = Ticks (number_from_digits 256 (take 6 bytes));
  frame = frame_of size (take (frame_len size) (drop 7 bytes));
}
