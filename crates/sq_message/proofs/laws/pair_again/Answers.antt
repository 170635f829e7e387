use Rattle.std.specs.Prelude.{option_copied}
use Rattle.std.proofs.Common.{inr}
use Rattle.std.proofs.lemmas.Result.{err_from_is_err_and}
use Rattle.sq_message.specs.Parts.{squitter_parts}
use Rattle.sq_message.proofs.SentFrames.{sent_again}
use Rattle.sq_message.proofs.laws.pair_again.Goals as goal

pub returns-clause-same : goal.returns-clause-same
returns-clause-same c =
    sent_again c.args.newer.now c.send_point-again.result c.in_ok-place.place
    (inr (squitter_parts c.args.older.now, option_copied c.args.site, c.in_ok-place.ensures)) c.send_point-again.ensures

pub returns-clause-decoded : goal.returns-clause-decoded
returns-clause-decoded c = c.in_ok-place.ensures

pub returns-in_err-place-clause-refused : goal.returns-in_err-place-clause-refused
returns-in_err-place-clause-refused c =
    let told = err_from_is_err_and c.from_residual.result c.from_residual.ensures.1 in
    rw (told.1, told.2) c.in_err-place.ensures
