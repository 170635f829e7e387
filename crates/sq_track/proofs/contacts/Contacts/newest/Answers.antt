use Rattle.std.proofs.Common.{ℕ, List, arith, length, reverse, slice_get, ap, ◌∙◌}
use Rattle.sq_track.specs.Ring.{before_at}
use Rattle.sq_track.specs.declared.contact.Contact.{Contact}
use Rattle.sq_track.proofs.Table.WalkLemmas.{last_entry}
use Rattle.sq_track.proofs.contacts.Contacts.newest.Goals as goal

pub returns : goal.returns
returns g c =
    last_entry c.self.inside.table.entries c.self.inside.links.items c.self.inside.oldest c.links_at.result.before
    c.entry_at.result c.self.invariant (omega (arith, c.len.ensures.len))
    (c.links_at.ensures.before ∙ ap (λ l. before_at l c.self.inside.oldest) c.deref-links.ensures.value)
    c.entry_at.ensures.entry c.entry_at.ensures.found
    ∙ ap (λ (v : List (ℕ × Contact)). slice_get (reverse v) 0) c.self.view_is
