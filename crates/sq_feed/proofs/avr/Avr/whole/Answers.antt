use Rattle.std.proofs.Common.{subst, drop, length, ◌-◌, arith}
use Rattle.std.proofs.lemmas.List.{length-drop, take_all}
use Rattle.sq_feed.specs.Avr.{IsWholeWord}
use Rattle.sq_feed.proofs.AvrWhole.{ends_and_word, word_whole}
use Rattle.sq_feed.proofs.avr.Avr.whole.Goals as goal

pub returns-in-Some : goal.returns-in-Some
returns-in-Some c =
    let piece = c.args.piece.now in
    let ends = c.line_ends-ends.result in
    word_whole c.args.self.now piece c.in-Some.message _
    (c.is_new.ensures.opener c.if-not-is_new.false) (c.is_new.ensures.digits c.if-not-is_new.false)
    (c.is_new.ensures.good c.if-not-is_new.false)
    (ends_and_word piece ends c.in-Some.message c.in-Some.count c.line_ends-ends.ensures.within
    c.line_ends-ends.ensures.follows
    (subst (λ l. IsWholeWord l (c.in-Some.message, c.in-Some.count))
    (take_all (length piece - ends) (drop ends piece) (omega (arith, length-drop ends piece))) c.in-Some.ensures))
