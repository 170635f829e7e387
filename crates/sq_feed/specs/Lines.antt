-- Lines of a log.
use Rattle.std.specs.Prelude.{◌++◌, ℕ, List, [], ◌∷◌, decimal, nat_lt, take, if◌then◌else◌}
use Rattle.std.specs.List.{flat_map}
use Rattle.sq_digits.specs.Characters.{space}
use Rattle.sq_digits.specs.Digits.{hexadecimal}
use Rattle.sq_feed.specs.Ears.{format_of}

-- the digits of bytes, two upper-case ones each
abbrev pub frame_digits : List ℕ → List ℕ
frame_digits frame = flat_map (hexadecimal 2) frame

-- a space, the digits of bytes, and a line feed
abbrev pub tail_of : List ℕ → List ℕ
tail_of bytes = space ∷ (frame_digits bytes ++ (10 ∷ []))

-- What follows the timestamp. Frames of downlink formats below 16 have seven bytes.
abbrev pub line_tail : List ℕ → List ℕ
line_tail frame = if nat_lt (format_of frame) 16 then tail_of (take 7 frame) else tail_of frame

-- a timestamp in decimal digits, and what follows it
unfoldable pub log_line : ℕ → List ℕ → List ℕ
log_line moment frame = decimal moment ++ line_tail frame
