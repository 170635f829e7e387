use Rattle.sq_commands.proofs.feed.read_source.Goals as goal

pub returns-in-Some-clause-err : goal.returns-in-Some-clause-err
returns-in-Some-clause-err c = rw c.in-Some.is c.source_named.ensures.err
