use Rattle.std.proofs.Common.{ℕ, List, is_some, sym, ap, ◌∙◌, eqb}
use Rattle.std.specs.Map.{lookup}
use Rattle.sq_track.specs.Ring.{addresses_in}
use Rattle.sq_track.specs.declared.contact.Contact.{Contact}
use Rattle.sq_track.proofs.Table.ContactLemmas.{view-lookup}
use Rattle.sq_track.proofs.contacts.Contacts.contains.Goals as goal

pub returns : goal.returns
returns g c =
    let es = c.self.inside.table.entries in
    c.contains_key.ensures
    ∙ ap is_some (sym (view-lookup c.args.address es (addresses_in es c.self.inside.links.items c.self.inside.oldest)
    (c.self.invariant.tied.same c.args.address))
    ∙ ap (λ (v : List (ℕ × Contact)). lookup (eqb c.args.address) v) c.self.view_is)
