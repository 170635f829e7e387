use Rattle.sq_feed.proofs.Sourced.{named_done}
use Rattle.sq_feed.proofs.reader.Reader.name.Goals as goal

pub returns-clause-follows : goal.returns-clause-follows
returns-clause-follows c =
    named_done c.args.self.now c.restart.new.self c.args.stranger c.requires c.restart.ensures.new
