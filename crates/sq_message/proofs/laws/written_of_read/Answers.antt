use Rattle.std.proofs.lemmas.Result.{err_from_is_err_and}
use Rattle.sq_message.proofs.laws.written_of_read.Goals as goal

pub returns-in_err-squitter-clause-refused : goal.returns-in_err-squitter-clause-refused
returns-in_err-squitter-clause-refused c =
    let told = err_from_is_err_and c.from_residual.result c.from_residual.ensures.1 in
    rw (told.1, told.2) c.in_err-squitter.ensures.read

pub returns-clause-read : goal.returns-clause-read
returns-clause-read c = c.in_ok-squitter.ensures.read
