use Rattle.std.proofs.Common.{◌∙◌, ◌<◌, ◌≤◌, ◌∷◌, [], length, ap, subst, sym, take}
use Rattle.std.specs.Prelude.{IfSome}
use Rattle.sq_feed.specs.declared.message.Found.TheVariants.{Whole}
use Rattle.sq_feed.specs.Follows.{Follows}
use Rattle.sq_feed.specs.Machines.{Begins}
use Rattle.sq_feed.specs.Rows.{rows_to_come}
use Rattle.sq_feed.proofs.Following.{csv_follows, rows_whole}
use Rattle.sq_feed.proofs.machine.Machine.whole_row.Goals as goal

pub returns-in-Csv : goal.returns-in-Csv
returns-in-Csv c =
    let is = sym (ap (λ (v : Begins). v.format) c.self.view_is) ∙ c.in-Csv.is in
    rows_whole c.args.self.now c.args.piece.now c.plain.result
    (λ bytes found follows. csv_follows c.args.self.now c.args.self.now bytes found is is follows)
    (subst (λ (v : Begins). IfSome c.plain.result (λ p. (0 < p.1) × (p.1 ≤ length c.args.piece.now)
    × Follows (rows_to_come v.rows) (take p.1 c.args.piece.now) (Whole p.0 ∷ []) (rows_to_come v.rows))) c.self.view_is
    c.plain.ensures)
