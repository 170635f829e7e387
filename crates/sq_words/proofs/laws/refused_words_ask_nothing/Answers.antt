use Rattle.sq_words.proofs.laws.refused_words_ask_nothing.Goals as goal

pub returns : goal.returns
returns c words faulty asked asks = faulty asks.accepted
