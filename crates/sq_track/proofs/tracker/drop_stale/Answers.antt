use Rattle.std.proofs.Common.{ℕ, filter, not, eqb, sym, ap, ◌∙◌, subst}
use Rattle.sq_track.specs.Entries.{fresh_entry, IsOrdered}
use Rattle.sq_track.proofs.Table.EntryLemmas.{IsOrdered-filter}
use Rattle.sq_track.specs.declared.contact.Contact.{Contact}
use Rattle.sq_track.proofs.tracker.drop_stale.Goals as goal

pub loop-contacts-preserved : goal.loop-contacts-preserved
loop-contacts-preserved g c =
    let o = c.loop-contacts.invariant.0 in
    let (address, newest, first, same, fewer) = c.is_oldest_stale.ensures.stale c.loop-contacts-test.true in
    let gone = c.remove_oldest.ensures address newest first in
    let ordered : IsOrdered o.0 o.1 c.remove_oldest.new.self =
    subst (IsOrdered o.0 o.1) (sym gone)
    (IsOrdered-filter o.0 o.1 (λ (e : ℕ × Contact). not (eqb e.0 address)) c.loop-contacts.contacts o.2) in (
      (o.0, o.1, ordered),
      ap (filter (fresh_entry c.args.window c.args.moment)) gone ∙ same ∙ c.loop-contacts.invariant.1,
    )
