use Rattle.std.proofs.Common.{inr}
use Rattle.squitter_c.specs.Decoding.{IsPairAnswer}
use Rattle.squitter_c.proofs.decode.of_two.Goals as goal

pub returns-in-Err-read_frame : goal.returns-in-Err-read_frame
unfolding IsPairAnswer
returns-in-Err-read_frame c =
    inr (
      (c.in-Ok.squitter, c.in-Ok.ensures.read),
      (c.in-Err-read_frame.fault, c.in-Err-read_frame.ensures.read, c.into-in-Err-read_frame.ensures),
    )
