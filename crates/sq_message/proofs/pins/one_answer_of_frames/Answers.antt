use Rattle.sq_message.proofs.Exact.{one_answer_near, one_answer_of_pair, one_place_of_newer}
use Rattle.sq_message.proofs.pins.one_answer_of_frames.Goals as goal

pub returns-clause-near : goal.returns-clause-near
returns-clause-near c = one_answer_near

pub returns-clause-pair : goal.returns-clause-pair
returns-clause-pair c = one_answer_of_pair

pub returns-clause-newer : goal.returns-clause-newer
returns-clause-newer c = one_place_of_newer
