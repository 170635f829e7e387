-- A field as the remainder of a quotient, as the code computes it.
use Rattle.std.proofs.Common.{ℕ, ◌-◌, ◌/◌, ◌%◌, ◌^◌}
use Rattle.sq_bits.specs.declared.frame.Frame.{Frame}
use Rattle.sq_bits.specs.Frames.{frame_number}

abbrev pub field_at : ℕ → ℕ → ℕ → ℕ
field_at n first count = n / 2 ^ (113 - first - count) % 2 ^ count

unfoldable pub quotient_of : Frame → ℕ → ℕ → ℕ
quotient_of f first count = field_at (frame_number f) first count
