use Rattle.std.proofs.Common.{Ok, ap, sym, ◌∙◌}
use Rattle.sq_text.proofs.SpelledFrames.{decodes_28}
use Rattle.sq_text.proofs.frame_text.frame_of_digits.Goals as goal

pub returns : goal.returns
returns c = decodes_28 c.args.body.now c.in_ok-decode_28.ensures.0 c.requires ∙ ap Ok (sym c.in_ok-decode_28.ensures.1)
