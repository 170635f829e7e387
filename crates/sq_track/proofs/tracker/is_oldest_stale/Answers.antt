use Rattle.std.proofs.Common.{◌+◌, true, false, leb, sym, ap, ◌∙◌}
use Rattle.sq_track.specs.Entries.{fresh_entry}
use Rattle.sq_track.proofs.Table.TableLemmas.{first_entry, first_stale, all_kept, no_first, none_kept, flipped}
use Rattle.sq_track.proofs.tracker.is_oldest_stale.Goals as goal

pub returns-in-Some-clause-stale : goal.returns-in-Some-clause-stale
returns-in-Some-clause-stale g c is_stale =
    let es = c.args.contacts.now in
    let (oldest, is, newest) = first_entry es c.in-Some.field-0-0 c.in-Some.newest c.in-Some.ensures in
    let (same, fewer) = first_stale c.args.window c.args.moment es (c.in-Some.field-0-0, oldest)
    c.len-len.ensures.unique is
    (ap (λ m. leb c.args.moment (m + c.args.window)) newest ∙ sym c.is_recent.ensures
    ∙ flipped c.is_recent.result true is_stale) in
    (c.in-Some.field-0-0, c.in-Some.newest, sym c.in-Some.ensures, same, fewer)

pub returns-in-Some-clause-none : goal.returns-in-Some-clause-none
returns-in-Some-clause-none g c is_fresh =
    let es = c.args.contacts.now in
    let o = c.requires in
    let (oldest, is, newest) = first_entry es c.in-Some.field-0-0 c.in-Some.newest c.in-Some.ensures in
    sym (all_kept c.args.window c.args.moment o.0 o.1 es (c.in-Some.field-0-0, oldest) o.2 is
    (ap (λ m. leb c.args.moment (m + c.args.window)) newest ∙ sym c.is_recent.ensures
    ∙ flipped c.is_recent.result false is_fresh))

pub returns-in-None-clause-none : goal.returns-in-None-clause-none
returns-in-None-clause-none g c none =
    let es = c.args.contacts.now in
    none_kept (fresh_entry c.args.window c.args.moment) es (no_first es (sym c.in-None.is ∙ c.oldest.ensures))
