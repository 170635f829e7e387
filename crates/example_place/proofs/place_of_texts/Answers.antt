use Rattle.std.proofs.Common.{inl, inr}
use Rattle.std.proofs.lemmas.Result.{err_from_is_err_and}
use Rattle.example_place.proofs.place_of_texts.Goals as goal

pub returns-in_err-newer : goal.returns-in_err-newer
returns-in_err-newer c =
    let p = err_from_is_err_and c.from_residual-in_err-newer.result c.from_residual-in_err-newer.ensures.1 in
    rw p.1 (inr (inl (
      c.in_ok-older.older,
      c.in_err-newer.field-0.0,
      c.in_ok-older.ensures,
      c.in_err-newer.ensures,
      p.2,
    )))

pub returns-in_err-place_pair : goal.returns-in_err-place_pair
returns-in_err-place_pair c =
    let p = err_from_is_err_and c.from_residual-in_err-place_pair.result c.from_residual-in_err-place_pair.ensures.1 in
    rw p.1 (inr (inr (
      c.in_ok-older.older,
      c.in_ok-newer.newer,
      c.in_err-place_pair.field-0.0,
      c.in_ok-older.ensures,
      c.in_ok-newer.ensures,
      c.in_err-place_pair.ensures,
      p.2,
    )))

pub returns : goal.returns
returns c = (
  c.in_ok-older.older,
  c.in_ok-newer.newer,
  c.in_ok-older.ensures,
  c.in_ok-newer.ensures,
  c.in_ok-place_pair.ensures,
)
