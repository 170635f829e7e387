use Rattle.std.proofs.Common.{◌∙◌}
use Rattle.sq_bits.proofs.Digits.{five_words}
use Rattle.sq_bits.proofs.frame.Frame.number_by_words.Goals as goal

pub returns-clause-value : goal.returns-clause-value
returns-clause-value c =
    five_words c.args.self.now.0 c.from-head.result c.from-second.result c.from-third.result c.from-fourth.result
    c.from-fifth.result c.each_frame.ensures.0
    (c.from-head.ensures ∙ c.word_of.ensures.value) (c.from-second.ensures ∙ c.word_of-2.ensures.value)
    (c.from-third.ensures ∙ c.word_of-3.ensures.value)
    (c.from-fourth.ensures ∙ c.word_of-4.ensures.value) (c.from-fifth.ensures ∙ c.word_of-5.ensures.value)
