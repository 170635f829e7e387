use Rattle.squitter.proofs.input_of.Goals as goal

-- as many gets as were passed
pub returns : goal.returns
returns g c = c.new.ensures.gets
