use Rattle.sq_commands.proofs.answers.tell_squitter.Goals as goal

pub returns-in-Lines : goal.returns-in-Lines
returns-in-Lines c writers = rw c.in-Lines.is (c.push_squitter_line.ensures writers)
