use Rattle.sq_feed.proofs.AvrLemmas.{long_frame}
use Rattle.sq_feed.proofs.avr.frame_of_word.Goals as goal

pub returns-in-Some : goal.returns-in-Some
returns-in-Some c = long_frame c.args.word.now c.in-Some.frame c.if-word-eq-LONG.true c.in-Some.ensures
