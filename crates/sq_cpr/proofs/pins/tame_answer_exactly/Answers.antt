use Rattle.sq_cpr.proofs.Decoding.TameAnswers.{tame_answer_exactly, two_counts_exactly}
use Rattle.sq_cpr.proofs.pins.tame_answer_exactly.Goals as goal

pub returns-clause-counts : goal.returns-clause-counts
returns-clause-counts g c = two_counts_exactly g.S.Span.span

pub returns-clause-answer : goal.returns-clause-answer
returns-clause-answer g c = tame_answer_exactly g.S.Span.span
