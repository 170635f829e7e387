use Rattle.std.proofs.Common.{◌∙◌, sym}
use Rattle.sq_feed.proofs.AvrLemmas.{edge_ends}
use Rattle.sq_feed.proofs.avr.Avr.take_byte.Goals as goal

pub returns-in-Some-clause-follows : goal.returns-in-Some-clause-follows
returns-in-Some-clause-follows c =
    edge_ends c.args.self.now c.close.new.self c.args.byte c.in-Some.edge _ (sym c.edge_of.ensures ∙ c.in-Some.is)
    c.close.ensures.items c.close.ensures.opener c.close.ensures.word
