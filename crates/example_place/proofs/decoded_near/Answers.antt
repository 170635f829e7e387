use Rattle.std.proofs.Common.{inr}
use Rattle.std.proofs.lemmas.Result.{err_from_is_err_and}
use Rattle.example_place.proofs.decoded_near.Goals as goal

pub returns-in_err-place_local : goal.returns-in_err-place_local
returns-in_err-place_local c =
    let p = err_from_is_err_and c.from_residual-in_err-place_local.result
    c.from_residual-in_err-place_local.ensures.1 in
    rw p.1 (inr (
      c.in_ok-squitter.squitter,
      c.in_err-place_local.field-0.0,
      c.in_ok-squitter.ensures,
      c.in_err-place_local.ensures,
      p.2,
    ))
