use Rattle.sq_track.proofs.Table.LinkLemmas.{dropped, shorter}
use Rattle.sq_track.proofs.contacts.remove_at.Goals as goal

pub returns-clause-entries : goal.returns-clause-entries
returns-clause-entries g c =
    (dropped c.args.table.now c.swap_remove_index.new.self c.args.at c.swap_remove_index.result c.requires
    c.swap_remove_index.ensures.entry c.swap_remove_index.ensures.entries c.swap_remove_index.ensures.updates).0

pub returns-clause-len : goal.returns-clause-len
returns-clause-len g c =
    shorter c.args.table.now.entries c.args.at c.swap_remove_index.result _ c.requires c.swap_remove_index.ensures.entry
    c.swap_remove_index.ensures.len

pub returns-clause-contacts : goal.returns-clause-contacts
returns-clause-contacts g c =
    (dropped c.args.table.now c.swap_remove_index.new.self c.args.at c.swap_remove_index.result c.requires
    c.swap_remove_index.ensures.entry c.swap_remove_index.ensures.entries c.swap_remove_index.ensures.updates).1
