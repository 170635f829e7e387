use Rattle.std.proofs.Common.{◌≡◌, sym, subst, ◌∙◌}
use Rattle.sq_text.specs.FrameText.{IsFirstBadDigit}
use Rattle.sq_text.proofs.BadDigits.{bad_digit}
use Rattle.sq_text.proofs.frame_text.decode.Goals as goal

pub unreachable-requires : goal.unreachable-requires
unreachable-requires c =
    let bad = bad_digit c.args.body.now c.decode_to_slice.new.out c.decode_to_slice.result c.in-Err.error c.requires
    c.decode_to_slice.ensures.value c.in-Err.is in
    c.in_default-error.not-InvalidHexCharacter bad.1 bad.0 bad.2

pub returns : goal.returns
returns c =
    let bad = bad_digit c.args.body.now c.decode_to_slice.new.out c.decode_to_slice.result c.in-Err.error c.requires
    c.decode_to_slice.ensures.value c.in-Err.is in
    let same : c.in-InvalidHexCharacter.index ≡ bad.0 = cc (sym c.in-InvalidHexCharacter.is ∙ bad.2) in
    subst (λ k. IsFirstBadDigit c.args.body.now k) (sym same) bad.3
