use Rattle.std.proofs.Common.{Err, inr, subst, sym}
use Rattle.std.proofs.lemmas.Result.{err_from_is_err_and}
use Rattle.sq_text.specs.Reading.{IsSquitterReading}
use Rattle.sq_commands.proofs.replies.pair.read_both.Goals as goal

pub returns-in_err-second : goal.returns-in_err-second
returns-in_err-second c =
    let p = err_from_is_err_and c.from_residual-in_err-second.result c.from_residual-in_err-second.ensures.1 in
    let fault = subst (λ e. IsSquitterReading c.args.newer.now (Err e)) (sym p.2) c.in_err-second.ensures in
    rw p.1 (inr (c.in_ok-first.first, c.in_ok-first.ensures, fault))
