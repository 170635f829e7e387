use Rattle.std.proofs.Common.{ℕ, List, ◌++◌, ◌∷◌, [], refl, sym, ap, ◌∙◌, arith, length, subst, eqb}
use Rattle.std.specs.Map.{lookup}
use Rattle.sq_track.specs.Ordered.{entries_in, others_in, others_than}
use Rattle.sq_track.specs.Ring.{IsLinkedTable, addresses_in, round}
use Rattle.sq_track.specs.declared.contact.Contact.{Contact}
use Rattle.sq_track.proofs.Table.LinkLemmas.{written_back}
use Rattle.sq_track.proofs.Table.PlaceLemmas.{IsHeardAt, heard_at, put_at_end, still_few, tied_at_end, view-length}
use Rattle.sq_track.proofs.contacts.Contacts.put_last.Given.{Over}
use Rattle.sq_track.proofs.contacts.Contacts.put_last.Goals as goal

-- the table and the round after the entry was set and put last
put : (g : Over) (c : goal.After-self-2-1 g)
    → IsHeardAt c.self.inside.table.entries c.set_at.new.table.entries c.self.inside.links.items
    c.put_last-self-inside.new.links c.self.inside.oldest c.put_last-self-inside.result c.args.address
    c.set_at.ensures.0 c.args.contact.now
put g c =
    let at = c.in_ok-at.at in
    let (before, there, now) = c.set_at.ensures in
    heard_at c.reach.new.table c.set_at.new.table c.self.inside.table.entries c.self.inside.links.items
    c.reach.new.links.items c.put_last-self-inside.new.links c.self.inside.oldest c.reach.new.oldest
    c.put_last-self-inside.result c.args.address at before c.args.contact.now c.in_ok-at.ensures.ok there now
    (c.put_last-self-inside.ensures.order
    ∙ ap (λ l. others_than at (round l c.reach.new.oldest) ++ at ∷ []) c.deref_mut.ensures.value)

pub invariant_of-self-2 : goal.invariant_of-self-2
invariant_of-self-2 g c =
    let es = c.self.inside.table.entries in
    let ls = c.self.inside.links.items in
    let ks = c.reach.new.links in
    let ms = c.put_last-self-inside.new.links in
    let last = c.put_last-self-inside.result in
    let (before, there, now) = c.set_at.ensures in
    let done = put g c in
    subst (λ l. IsLinkedTable c.set_at.new.table.entries l last)
    (sym (written_back ms _ ks.len (sym c.deref_mut.ensures.len ∙ sym c.put_last-self-inside.ensures.len)))
    (record {
      tied = tied_at_end es c.set_at.new.table.entries ls ms c.self.inside.oldest last c.args.address c.args.contact.now
          c.self.invariant.tied done.updates done.order (lookup (eqb c.args.address) es) refl done.long;
      is_round = c.put_last-self-inside.ensures.round;
      few = still_few es c.set_at.new.table.entries _ done.long
          (omega (
            arith,
            c.requires.room,
            ap length c.self.view_is,
            view-length es ls c.self.inside.oldest c.self.invariant.tied,
          ));
    })

pub returns-clause-ok : goal.returns-clause-ok
returns-clause-ok g c =
    let es = c.self.inside.table.entries in
    let ls = c.self.inside.links.items in
    let ks = c.reach.new.links in
    let ms = c.put_last-self-inside.new.links in
    let last = c.put_last-self-inside.result in
    let (before, there, now) = c.set_at.ensures in
    let done = put g c in
    ap (λ l. entries_in c.set_at.new.table.entries (addresses_in c.set_at.new.table.entries l last))
    (written_back ms _ ks.len (sym c.deref_mut.ensures.len ∙ sym c.put_last-self-inside.ensures.len))
    ∙ put_at_end es c.set_at.new.table.entries ls ms c.self.inside.oldest last c.args.address c.args.contact.now
    c.self.invariant.tied done.updates done.order
    ∙ ap (λ (v : List (ℕ × Contact)). others_in c.args.address v ++ (c.args.address, c.args.contact.now) ∷ [])
    c.self.view_is
