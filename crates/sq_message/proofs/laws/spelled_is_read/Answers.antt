use Rattle.sq_message.proofs.One.{read_exactly}
use Rattle.sq_message.proofs.laws.spelled_is_read.Goals as goal

pub returns : goal.returns
returns c = λ f q r spells read. read_exactly f r read q spells
