use Rattle.sq_commands.proofs.ArgumentLemmas.{no_address}
use Rattle.sq_commands.proofs.arguments.read_address.Goals as goal

pub returns-in-Err-clause-err : goal.returns-in-Err-clause-err
returns-in-Err-clause-err c address is =
    no_address c.args.word.now c.decode_to_slice.new.out c.decode_to_slice.result _ address
    c.decode_to_slice.ensures.value c.in-Err.is is
