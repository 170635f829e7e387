use Rattle.sq_track.proofs.Table.PlaceLemmas.{found_at, moment_there}
use Rattle.sq_track.proofs.contacts.moment_at.Goals as goal

pub returns-in-Some-clause-entry : goal.returns-in-Some-clause-entry
returns-in-Some-clause-entry g c = moment_there c.args.table.now.entries c.args.at _ c.in-Some.ensures.entry

pub returns-in-Some-clause-found : goal.returns-in-Some-clause-found
returns-in-Some-clause-found g c =
    found_at c.args.table.now.entries c.args.at _ c.in-Some.ensures.entry c.in-Some.ensures.value

pub returns-in-None-clause-entry : goal.returns-in-None-clause-entry
returns-in-None-clause-entry g c = moment_there c.args.table.now.entries c.args.at _ c.in-None.ensures.entry

pub returns-in-None-clause-found : goal.returns-in-None-clause-found
returns-in-None-clause-found g c = found_at c.args.table.now.entries c.args.at _ c.in-None.ensures.entry tt
