use Rattle.std.proofs.Common.{◌∙◌, ◌+◌, ap, drop, sym}
use Rattle.std.specs.Prelude.{Bool, ◌||◌}
use Rattle.sq_feed.specs.Avr.{avr_to_come}
use Rattle.sq_feed.specs.Finding.{has_frame}
use Rattle.sq_feed.proofs.Framed.{framed_on}
use Rattle.sq_feed.proofs.signs.has_frame.Goals as goal

pub returns-then-is_framed : goal.returns-then-is_framed
returns-then-is_framed c =
    sym (c.loop-byte.invariant
    ∙ framed_on (avr_to_come c.loop-byte.avr) (avr_to_come c.take_byte.new.self) c.args.text.now c.loop-byte.byte-index
    c.take_byte.result c.loop-byte-test.true c.take_byte.ensures.follows
    ∙ ap (λ (t : Bool). t
    || has_frame (avr_to_come c.take_byte.new.self (drop (c.loop-byte.byte-index + 1) c.args.text.now)))
    (sym c.is_framed.ensures ∙ c.if-is_framed.true))

pub loop-byte-preserved : goal.loop-byte-preserved
loop-byte-preserved c =
    c.loop-byte.invariant
    ∙ framed_on (avr_to_come c.loop-byte.avr) (avr_to_come c.take_byte.new.self) c.args.text.now c.loop-byte.byte-index
    c.take_byte.result c.loop-byte-test.true c.take_byte.ensures.follows
    ∙ ap (λ (t : Bool). t
    || has_frame (avr_to_come c.take_byte.new.self (drop (c.loop-byte.byte-index + 1) c.args.text.now)))
    (sym c.is_framed.ensures ∙ c.if-is_framed.false)
