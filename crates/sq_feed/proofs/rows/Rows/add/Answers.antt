use Rattle.std.proofs.Common.{◌∙◌, ◌++◌, ◌∷◌, [], ap, arith, length, refl, subst}
use Rattle.sq_feed.specs.Rows.{BegunRow, IsHeld}
use Rattle.sq_feed.proofs.RowLemmas.{row_over, row_room}
use Rattle.sq_feed.proofs.rows.Rows.add.Goals as goal

pub returns-then-len-lt-LONGEST-clause-follows : goal.returns-then-len-lt-LONGEST-clause-follows
returns-then-len-lt-LONGEST-clause-follows c =
    row_room c.args.self.now _ c.args.byte c.requires (subst IsHeld c.self.view_is c.self.invariant)
    (omega (arith, c.len.ensures.value, c.if-len-lt-LONGEST.true, ap (λ (v : BegunRow). length v.held) c.self.view_is))
    (ap (λ (v : BegunRow). v.layout) c.self.view_is)
    (c.push.ensures.items ∙ ap (λ (v : BegunRow). v.held ++ c.args.byte ∷ []) c.self.view_is)
    (ap (λ (v : BegunRow). v.is_long) c.self.view_is)

pub returns-else-len-lt-LONGEST-clause-follows : goal.returns-else-len-lt-LONGEST-clause-follows
returns-else-len-lt-LONGEST-clause-follows c =
    row_over c.args.self.now _ c.args.byte c.requires
    (omega (
      arith,
      c.len.ensures.value,
      c.if-len-lt-LONGEST.false,
      ap (λ
          (v : BegunRow). length v.held) c.self.view_is,
    ))
    (ap (λ (v : BegunRow). v.layout) c.self.view_is) (ap (λ (v : BegunRow). v.held) c.self.view_is) refl
