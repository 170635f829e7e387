use Rattle.sq_feed.proofs.AvrLemmas.{bare_frame_is_found, sent_frame_is_found}
use Rattle.sq_feed.proofs.laws.written_is_found.Goals as goal

pub returns-clause-marked : goal.returns-clause-marked
returns-clause-marked c = sent_frame_is_found

pub returns-clause-bare : goal.returns-clause-bare
returns-clause-bare c = bare_frame_is_found
