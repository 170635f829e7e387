use Rattle.std.proofs.Common.{◌+◌, ◌≤◌, sym, arith}
use Rattle.sq_track.proofs.Table.TableLemmas.{all_fresh}
use Rattle.sq_track.proofs.tracker.keep_recent.Goals as goal

pub returns-then-saturating_sub-window-clause-kept : goal.returns-then-saturating_sub-window-clause-kept
returns-then-saturating_sub-window-clause-kept g c =
    let recent : c.args.moment ≤ c.args.since + c.args.window =
    omega (arith, c.saturating_sub.ensures, c.if-saturating_sub-window.true) in
    sym (all_fresh c.args.window c.args.moment c.args.since c.args.moment c.args.contacts.now c.requires recent)
