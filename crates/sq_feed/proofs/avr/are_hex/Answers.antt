use Rattle.std.proofs.Common.{◌∙◌, arith, refl, sym}
use Rattle.sq_feed.specs.Avr.{are_hex}
use Rattle.sq_feed.proofs.Numbers.{all_gone}
use Rattle.sq_feed.proofs.AvrLemmas.{are_hex_each, hex_from, no_hex}
use Rattle.sq_feed.proofs.avr.are_hex.Goals as goal

pub loop-byte-preserved : goal.loop-byte-preserved
loop-byte-preserved c =
    c.loop-byte.invariant
    ∙ hex_from c.args.word.now c.loop-byte.byte-index c.loop-byte-test.true
    (sym c.is_hex.ensures ∙ c.if-not-is_hex.false)

pub returns-then-not-is_hex-clause-value : goal.returns-then-not-is_hex-clause-value
returns-then-not-is_hex-clause-value c =
    sym (c.loop-byte.invariant
    ∙ no_hex c.args.word.now c.loop-byte.byte-index c.loop-byte-test.true (sym c.is_hex.ensures
    ∙ c.if-not-is_hex.true))

pub returns-clause-value : goal.returns-clause-value
returns-clause-value c =
    sym (c.loop-byte.invariant ∙ all_gone are_hex refl c.args.word.now c.loop-byte.byte-index (omega arith))

pub returns-clause-each : goal.returns-clause-each
returns-clause-each c is =
    are_hex_each c.args.word.now
    (c.loop-byte.invariant ∙ all_gone are_hex refl c.args.word.now c.loop-byte.byte-index (omega arith))
