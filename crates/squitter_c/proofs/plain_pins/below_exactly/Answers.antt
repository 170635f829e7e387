use Rattle.squitter_c.proofs.plain_pins.below_exactly.Goals as goal

pub returns-clause-rest : goal.returns-clause-rest
returns-clause-rest g c was is before after n k h from b told = h.rest k from b told
