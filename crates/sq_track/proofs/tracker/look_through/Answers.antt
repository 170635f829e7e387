use Rattle.std.proofs.Common.{sym, subst}
use Rattle.sq_track.specs.Entries.{fresh_entry, IsOrdered}
use Rattle.sq_track.proofs.Table.EntryLemmas.{IsOrdered-filter}
use Rattle.sq_track.proofs.Table.TableLemmas.{first_entry, from_first, from_none, no_first}
use Rattle.sq_track.proofs.tracker.look_through.Goals as goal

pub drop_stale-requires : goal.drop_stale-requires
drop_stale-requires g c = let o = c.requires in (o.0, c.args.moment, o.1)

pub returns-in-Some-clause-since : goal.returns-in-Some-clause-since
returns-in-Some-clause-since g c =
    let o = c.requires in
    let kept = subst (IsOrdered o.0 c.args.moment) (sym c.drop_stale.ensures)
    (IsOrdered-filter o.0 c.args.moment (fresh_entry c.args.window c.args.moment) c.args.contacts.now o.1) in
    let (oldest, is, newest) = first_entry c.drop_stale.new.contacts _ c.in-Some.newest c.in-Some.ensures in
    subst (λ m. IsOrdered m c.args.moment c.drop_stale.new.contacts) newest
    (from_first o.0 c.args.moment c.drop_stale.new.contacts (_, oldest) kept is)

pub returns-in-None-clause-since : goal.returns-in-None-clause-since
returns-in-None-clause-since g c =
    from_none c.args.moment c.drop_stale.new.contacts (no_first c.drop_stale.new.contacts c.in-None.ensures)
