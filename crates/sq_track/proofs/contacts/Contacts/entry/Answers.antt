use Rattle.std.proofs.Common.{ℕ, List, arith, length, slice_get, sym, ap, subst, ◌∙◌, IfSome, ◌≡◌, eqb, Some}
use Rattle.std.specs.Map.{lookup}
use Rattle.sq_track.specs.Ring.{round}
use Rattle.sq_track.specs.declared.contact.Contact.{Contact}
use Rattle.sq_track.proofs.Table.PlaceLemmas.{links-length, seen, unseen}
use Rattle.sq_track.proofs.contacts.Contacts.entry.Goals as goal

pub returns-in-Some : goal.returns-in-Some
returns-in-Some g c =
    let es = c.self.inside.table.entries in
    let ls = c.self.inside.links.items in
    seen es ls c.self.inside.oldest c.args.index c.in-Some.at c.entry_at.result
    (ap (λ l. slice_get (round l c.self.inside.oldest) c.args.index) (sym c.deref.ensures.value)
    ∙ sym c.in-Some.ensures.index)
    (omega (
      arith,
      c.in-Some.ensures.within,
      ap length c.deref.ensures.value,
      links-length es ls c.self.inside.oldest c.self.invariant,
    ))
    c.entry_at.ensures.entry
    (subst (λ o. IfSome o (λ e. lookup (eqb e.0) es ≡ Some e.1)) (sym c.entry_at.ensures.entry)
    c.entry_at.ensures.found)
    ∙ ap (λ (v : List (ℕ × Contact)). slice_get v c.args.index) c.self.view_is

pub returns-in-None : goal.returns-in-None
returns-in-None g c =
    unseen c.self.inside.table.entries c.self.inside.links.items c.self.inside.oldest c.args.index
    (c.in-None.ensures.index
    ∙ ap (λ l. slice_get (round l c.self.inside.oldest) c.args.index) c.deref.ensures.value)
    ∙ ap (λ (v : List (ℕ × Contact)). slice_get v c.args.index) c.self.view_is
