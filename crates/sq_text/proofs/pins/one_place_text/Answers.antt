use Rattle.sq_text.proofs.PlaceTexts.{one_place_text}
use Rattle.sq_text.proofs.pins.one_place_text.Goals as goal

pub returns : goal.returns
returns c = one_place_text
