use Rattle.clap.specs.Words.{found_of}
use Rattle.sq_words.proofs.Reading.{value_is}
use Rattle.sq_words.proofs.command_line.value_of.Goals as goal

pub returns : goal.returns
returns c = value_is (found_of c.args.values.now) c.args.name.now _ c.get_str.ensures
