use Rattle.std.proofs.Common.{◌∙◌, Ok, Err, ap, refl, rules}
use Rattle.std.proofs.lemmas.Result.{err_from_is_err_and}
use Rattle.sq_message.proofs.place.ground_pair.Goals as goal

pub returns : goal.returns
returns c =
    let codes = c.by_parity-codes.ensures in (
      λ same. search rules,
      λ differ. rw c.in-Some.is
          (Ok c.in_ok-point.point, rw (codes.even, codes.odd) at c.in_ok-point.ensures, refl),
    )

pub returns-in_err-point : goal.returns-in_err-point
returns-in_err-point c =
    let codes = c.by_parity-codes.ensures in
    let told = err_from_is_err_and c.from_residual.result c.from_residual.ensures.1 in (
      λ same. search rules,
      λ differ. rw c.in-Some.is (
        Err c.in_err-point.field-0.0,
        rw (codes.even, codes.odd, c.in_err-point.was) at c.pair_ground.ensures,
        told.1 ∙ ap Err told.2,
      ),
    )
