use Rattle.std.proofs.Common.{◌∙◌, Ok, Err, ap, refl}
use Rattle.std.proofs.lemmas.Result.{err_from_is_err_and}
use Rattle.sq_message.proofs.place.place_local.Goals as goal

pub returns-in_ok-point-in-Airborne : goal.returns-in_ok-point-in-Airborne
returns-in_ok-point-in-Airborne c =
    rw c.in-Airborne.is (Ok c.in_ok-point-in-Airborne.point, c.in_ok-point-in-Airborne.ensures, refl)

pub returns-in_err-point-in-Airborne : goal.returns-in_err-point-in-Airborne
returns-in_err-point-in-Airborne c =
    let told = err_from_is_err_and c.from_residual.result c.from_residual.ensures.1 in
    let fault = c.in_err-point-in-Airborne in
    rw c.in-Airborne.is (Err fault.field-0.0, fault.ensures, told.1 ∙ ap Err told.2)

pub returns-in_ok-point-in-Surface : goal.returns-in_ok-point-in-Surface
returns-in_ok-point-in-Surface c =
    rw c.in-Surface.is (Ok c.in_ok-point-in-Surface.point, c.in_ok-point-in-Surface.ensures, refl)

pub returns-in_err-point-in-Surface : goal.returns-in_err-point-in-Surface
returns-in_err-point-in-Surface c =
    let answer = c.from_residual-in_err-point-in-Surface in
    let told = err_from_is_err_and answer.result answer.ensures.1 in
    let fault = c.in_err-point-in-Surface in
    rw c.in-Surface.is (Err fault.field-0.0, fault.ensures, told.1 ∙ ap Err told.2)
