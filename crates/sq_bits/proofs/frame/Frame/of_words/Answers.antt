use Rattle.std.proofs.Common.{◌≡◌, ℕ, ◌+◌, ◌*◌, ◌/◌, ◌%◌, ◌<◌, ◌^◌, ◌∙◌, sym, ap, ap₂, arith, bit_xor}
use Rattle.sq_bits.specs.declared.frame.Frame.{Frame}
use Rattle.sq_bits.specs.Frames.{IsFrame, field_of, frame_number}
use Rattle.sq_bits.proofs.Quotient.{quotient_of}
use Rattle.sq_bits.proofs.Remainders.{upper_kept, upper_field}
use Rattle.sq_bits.proofs.Spelled.{quotient_is}
use Rattle.sq_bits.proofs.frame.Frame.of_words.Goals as goal

-- a frame of two words has both words as fields, for any parity bits
words_spelled : (f : Frame) (h m r : ℕ) → IsFrame f → h < 2 ^ 32 → m < 2 ^ 56 → r < 2 ^ 24
    → frame_number f ≡ bit_xor (h * 2 ^ 80 + m * 2 ^ 24) r → (field_of f 1 32 ≡ h) × (field_of f 33 56 ≡ m)
unfolding quotient_of
words_spelled f h m r is high low small same =
    let n : ℕ = h * 2 ^ 80 + m * 2 ^ 24 in
    let kept = ap (λ x. x / 2 ^ 24) same ∙ upper_kept n r small in (
      sym (quotient_is f 1 32 is (omega arith) (omega arith))
          ∙ upper_field (frame_number f) n 1 32 kept (omega arith) (omega arith) ∙ omega arith,
      sym (quotient_is f 33 56 is (omega arith) (omega arith))
          ∙ upper_field (frame_number f) n 33 56 kept (omega arith) (omega arith) ∙ omega arith,
    )

both : (c : goal.After-from_number)
    → (field_of c.from_number.result 1 32 ≡ c.args.head) × (field_of c.from_number.result 33 56 ≡ c.args.me)
both c =
    let number : c.from.result * 2 ^ 80 % 2 ^ 128 + c.from-2.result * 2 ^ 24 % 2 ^ 128
    ≡ c.args.head * 2 ^ 80 + c.args.me * 2 ^ 24
    = omega (arith, c.from.ensures, c.from-2.ensures, c.ranges.head.fits, c.requires) in
    words_spelled c.from_number.result c.args.head c.args.me c.remainder_of.result c.from_number.ensures.frame
    c.ranges.head.fits c.requires c.remainder_of.ensures.0
    (c.from_number.ensures.value ∙ ap₂ bit_xor number c.from-3.ensures)

pub returns-clause-head : goal.returns-clause-head
returns-clause-head c = (both c).0

pub returns-clause-me : goal.returns-clause-me
returns-clause-me c = (both c).1
