use Rattle.sq_cpr.proofs.decode_pair.pair_ground.Goals as goal

pub returns : goal.returns
returns c = c.pair.ensures
