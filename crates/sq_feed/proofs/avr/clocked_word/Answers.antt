use Rattle.std.proofs.Common.{refl, subst, sym, arith}
use Rattle.sq_feed.specs.declared.avr.Mark.TheVariants.{Clocked}
use Rattle.sq_feed.specs.declared.message.Message.{Message}
use Rattle.sq_feed.specs.Avr.{IsWholeWord}
use Rattle.sq_feed.proofs.AvrWhole.{marked_front}
use Rattle.sq_feed.proofs.avr.clocked_word.Goals as goal

pub returns : goal.returns
returns c =
    subst (λ (m : Message). IsWholeWord c.args.piece.now (m, 42)) (sym c.message_of.ensures)
    (marked_front c.args.piece.now c.in_ok-bytes.bytes Clocked 40 c.requires refl (omega
    (arith, c.if-piece-lt42.false))
    c.if-piece-ne59.false c.in_ok-bytes.ensures)
