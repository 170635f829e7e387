use Rattle.std.proofs.Common.{◌≡◌, ◌∙◌, ◌-◌, ◌+◌, ap, arith, length, sym, take, drop}
use Rattle.std.specs.Prelude.{Some}
use Rattle.std.proofs.lemmas.List.{length-drop, length-take, take_all}
use Rattle.sq_feed.specs.Cells.{cell_of}
use Rattle.sq_feed.proofs.CellLemmas.{cell_gone, cell_next}
use Rattle.sq_feed.proofs.cells.cell_of.Goals as goal

pub returns-then-at-rest : goal.returns-then-at-rest
returns-then-at-rest c =
    cell_gone c.args.k c.loop-step.step c.cell_end-at.result c.args.row.now c.loop-step.rest.now
    c.loop-step-test.true
    c.loop-step.invariant.0 c.cell_end-at.ensures.value
    (omega (arith, c.if-at-rest.true, c.cell_end-at.ensures.within))

pub loop-step-preserved : goal.loop-step-preserved
loop-step-preserved c =
    let at = c.cell_end-at.result in
    let rest = c.loop-step.rest.now in (
      cell_next c.args.k c.loop-step.step at c.args.row.now rest c.loop-step-test.true
          c.loop-step.invariant.0 c.cell_end-at.ensures.value c.if-at-rest.false
          ∙ ap (λ l. cell_of (c.args.k - (c.loop-step.step + 1)) (Some l))
          (sym (take_all (length rest - (at + 1)) (drop (at + 1) rest) (omega (arith, length-drop (at + 1) rest)))),
      omega (arith, length-take (length rest - (at + 1)) (drop (at + 1) rest), c.loop-step.invariant.1),
    )

pub returns : goal.returns
returns c =
    let none : c.args.k - c.loop-step.step ≡ 0 = omega (arith, c.loop-step-test.false) in
    c.loop-step.invariant.0 ∙ ap (λ n. cell_of n (Some c.loop-step.rest.now)) none
    ∙ ap (λ n. Some (take n c.loop-step.rest.now)) (sym c.cell_end.ensures.value)
