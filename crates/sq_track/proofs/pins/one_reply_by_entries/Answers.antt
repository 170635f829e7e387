use Rattle.sq_track.proofs.Histories.ByEntries.{memory_by_entries, one_by_entries, one_each_by_entries, some_by_entries}
use Rattle.sq_track.proofs.pins.one_reply_by_entries.Goals as goal

pub returns-clause-one : goal.returns-clause-one
returns-clause-one c = one_by_entries

pub returns-clause-each : goal.returns-clause-each
returns-clause-each c = one_each_by_entries

pub returns-clause-some : goal.returns-clause-some
returns-clause-some c = some_by_entries

pub returns-clause-memory : goal.returns-clause-memory
returns-clause-memory c = memory_by_entries
