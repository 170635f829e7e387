use Rattle.std.proofs.Common.{sym}
use Rattle.sq_track.proofs.Table.ContactLemmas.{on_err}
use Rattle.sq_track.proofs.Table.PlaceLemmas.{absent_contact, place, reached_known}
use Rattle.sq_track.proofs.contacts.reach.Goals as goal

pub enter-requires-clause-absent : goal.enter-requires-clause-absent
enter-requires-clause-absent g c = absent_contact c.args.table.now.entries c.args.address c.in-None.ensures.found

pub returns-in-Some-clause-ok : goal.returns-in-Some-clause-ok
returns-in-Some-clause-ok g c =
    let es = c.args.table.now.entries in
    let ls = c.args.links.now.items in
    let here = place es ls c.args.oldest.now c.args.address c.in-Some.at c.requires.linked c.in-Some.ensures.unique
    c.in-Some.ensures.index (sym c.in-Some.ensures.found) in
    reached_known es ls c.args.oldest.now c.args.address c.in-Some.at c.requires.linked here c.in-Some.ensures.unique
    c.in-Some.ensures.value

pub returns-in-None-clause-absent : goal.returns-in-None-clause-absent
returns-in-None-clause-absent g c =
    on_err c.enter.result (absent_contact c.args.table.now.entries c.args.address c.in-None.ensures.found)
