use Rattle.std.proofs.Common.{◌≤◌, ◌-◌, length, arith, refl, rules}
use Rattle.std.proofs.lemmas.Result.{err_from_is_err_and}
use Rattle.sq_devices.proofs.Puts.{HasPut-more, HasPut-nil, HasPut-one, puts_part}
use Rattle.sq_devices.proofs.texts.put_all.Goals as goal

pub loop-at-init : goal.loop-at-init
loop-at-init g c = record {
  within = omega arith;
  put = HasPut-nil g.K.Sink c.args.sink.now;
  unmarked = refl;
  uncounted = refl;
}

-- a put makes the front longer
pub loop-at-preserved : goal.loop-at-preserved
loop-at-preserved g c =
    let fits : c.in_ok-at.field-0 ≤ length c.args.text.now - c.loop-at.at = search rules in
    record {
      within = omega arith;
      put = HasPut-more g.K.Sink _ _ _ c.args.text.now c.loop-at.at c.in_ok-at.field-0 fits c.loop-at.invariant.put
          (HasPut-one g.K.Sink _ _ _ c.in_ok-at.ensures.appended c.in_ok-at.ensures.took);
      unmarked = search rules;
      uncounted = search rules;
    }

-- a failed put leaves the front
pub returns-in_err-at-clause-part : goal.returns-in_err-at-clause-part
returns-in_err-at-clause-part g c =
    let p = err_from_is_err_and c.from_residual.result c.from_residual.ensures.1 in
    rw (p.1) (puts_part _ _ _ c.args.text.now c.loop-at.at c.loop-at.invariant.put.0
    c.in_err-at.ensures.kept)
