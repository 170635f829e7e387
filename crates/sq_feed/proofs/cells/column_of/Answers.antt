use Rattle.std.proofs.Common.{◌∙◌, ◌-◌, ◌+◌, ap, arith, length, sym, take, drop}
use Rattle.std.specs.Prelude.{Some}
use Rattle.std.proofs.lemmas.List.{length-drop, length-take, take_all}
use Rattle.sq_feed.specs.Cells.{is_named, named_from}
use Rattle.sq_feed.proofs.CellLemmas.{named_end, named_gone, named_here, named_next}
use Rattle.sq_feed.proofs.cells.column_of.Goals as goal

pub returns-then-is_named : goal.returns-then-is_named
returns-then-is_named c =
    sym (named_here (length c.args.row.now + 1) c.loop-k.k c.args.name.now c.args.row.now c.loop-k.rest.now
    c.loop-k-test.true c.loop-k.invariant.0
    (ap (λ n. is_named c.args.name.now (take n c.loop-k.rest.now)) (sym c.cell_end-at.ensures.value)
    ∙ sym c.is_named.ensures ∙ c.if-is_named.true))

pub returns-then-at-rest : goal.returns-then-at-rest
returns-then-at-rest c =
    sym (named_gone (length c.args.row.now + 1) c.loop-k.k c.cell_end-at.result c.args.name.now c.args.row.now
    c.loop-k.rest.now c.loop-k-test.true c.loop-k.invariant.0 c.cell_end-at.ensures.value
    (omega (arith, c.if-at-rest.true, c.cell_end-at.ensures.within))
    (ap (λ n. is_named c.args.name.now (take n c.loop-k.rest.now)) (sym c.cell_end-at.ensures.value)
    ∙ sym c.is_named.ensures ∙ c.if-is_named.false))

pub loop-k-preserved : goal.loop-k-preserved
loop-k-preserved c =
    let at = c.cell_end-at.result in
    let rest = c.loop-k.rest.now in (
      named_next (length c.args.row.now + 1) c.loop-k.k at c.args.name.now c.args.row.now rest c.loop-k-test.true
          c.loop-k.invariant.0 c.cell_end-at.ensures.value c.if-at-rest.false
          (ap (λ n. is_named c.args.name.now (take n rest)) (sym c.cell_end-at.ensures.value)
          ∙ sym c.is_named.ensures ∙ c.if-is_named.false)
          ∙ ap (λ l. named_from (length c.args.row.now + 1 - (c.loop-k.k + 1)) c.args.name.now (c.loop-k.k + 1)
          (Some l))
          (sym (take_all (length rest - (at + 1)) (drop (at + 1) rest) (omega (arith, length-drop (at + 1) rest)))),
      omega (arith, length-take (length rest - (at + 1)) (drop (at + 1) rest), c.loop-k.invariant.1),
    )

pub returns : goal.returns
returns c =
    sym (named_end (length c.args.row.now + 1) c.loop-k.k c.args.name.now c.args.row.now c.loop-k.rest.now
    c.loop-k-test.false c.loop-k.invariant.0)
