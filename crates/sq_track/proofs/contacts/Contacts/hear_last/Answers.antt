use Rattle.std.proofs.Common.{◌≡◌, ℕ, List, ◌++◌, ◌∷◌, [], unwrap_or, refl, sym, ap, ◌∙◌, arith, length, subst, eqb}
use Rattle.std.specs.Map.{lookup}
use Rattle.std.specs.Option.{option_copied}
use Rattle.sq_track.specs.Kept.{IsContactHearing}
use Rattle.sq_track.specs.Ordered.{blank_contact, entries_in, others_in, others_than}
use Rattle.sq_track.specs.Ring.{IsLinkedTable, addresses_in, round}
use Rattle.sq_track.specs.declared.contact.Contact.{Contact}
use Rattle.sq_track.proofs.Table.ContactLemmas.{on_err, view-lookup}
use Rattle.sq_track.proofs.Table.LinkLemmas.{written_back}
use Rattle.sq_track.proofs.Table.PlaceLemmas.{IsHeardAt, heard_at, put_at_end, still_few, tied_at_end, view-length}
use Rattle.sq_track.proofs.contacts.Contacts.hear_last.Given.{Over}
use Rattle.sq_track.proofs.contacts.Contacts.hear_last.Goals as goal

pub returns-in_err-at-clause-absent : goal.returns-in_err-at-clause-absent
returns-in_err-at-clause-absent g c =
    let es = c.self.inside.table.entries in
    on_err c.from_residual.result (sym (ap (λ (v : List (ℕ × Contact)). lookup (eqb c.args.address) v) c.self.view_is)
    ∙ view-lookup c.args.address es (addresses_in es c.self.inside.links.items c.self.inside.oldest)
    (c.self.invariant.tied.same c.args.address) ∙ c.in_err-at.ensures.absent)

-- the table and the round after the entry was heard and put last
heard_last : (g : Over) (c : goal.After-self-2-1 g)
    → IsHeardAt c.self.inside.table.entries c.hear_at-heard.new.table.entries c.self.inside.links.items
    c.put_last-self-inside.new.links c.self.inside.oldest c.put_last-self-inside.result c.args.address
    c.hear_at-heard.ensures.0 c.hear_at-heard.ensures.1
heard_last g c =
    let at = c.in_ok-at.at in
    let (before, after, there, step, now) = c.hear_at-heard.ensures in
    heard_at c.reach.new.table c.hear_at-heard.new.table c.self.inside.table.entries c.self.inside.links.items
    c.reach.new.links.items c.put_last-self-inside.new.links c.self.inside.oldest c.reach.new.oldest
    c.put_last-self-inside.result c.args.address at before after c.in_ok-at.ensures.ok there now
    (c.put_last-self-inside.ensures.order
    ∙ ap (λ l. others_than at (round l c.reach.new.oldest) ++ at ∷ []) c.deref_mut.ensures.value)

pub invariant_of-self-2 : goal.invariant_of-self-2
invariant_of-self-2 g c =
    let es = c.self.inside.table.entries in
    let ls = c.self.inside.links.items in
    let ks = c.reach.new.links in
    let ms = c.put_last-self-inside.new.links in
    let last = c.put_last-self-inside.result in
    let (before, after, there, step, now) = c.hear_at-heard.ensures in
    let heard = heard_last g c in
    subst (λ l. IsLinkedTable c.hear_at-heard.new.table.entries l last)
    (sym (written_back ms _ ks.len (sym c.deref_mut.ensures.len ∙ sym c.put_last-self-inside.ensures.len)))
    (record {
      tied = tied_at_end es c.hear_at-heard.new.table.entries ls ms c.self.inside.oldest last c.args.address after
          c.self.invariant.tied heard.updates heard.order (lookup (eqb c.args.address) es) refl heard.long;
      is_round = c.put_last-self-inside.ensures.round;
      few = still_few es c.hear_at-heard.new.table.entries _ heard.long
          (omega (
            arith,
            c.requires.room,
            ap length c.self.view_is,
            view-length es ls c.self.inside.oldest c.self.invariant.tied,
          ));
    })

pub returns-clause-ok : goal.returns-clause-ok
returns-clause-ok g c =
    let es = c.self.inside.table.entries in
    let ls = c.self.inside.links.items in
    let ks = c.reach.new.links in
    let ms = c.put_last-self-inside.new.links in
    let last = c.put_last-self-inside.result in
    let (before, after, there, step, now) = c.hear_at-heard.ensures in
    let heard = heard_last g c in
    let same : lookup (eqb c.args.address) es ≡ lookup (eqb c.args.address) c.args.self.now =
    sym (view-lookup c.args.address es (addresses_in es ls c.self.inside.oldest)
    (c.self.invariant.tied.same c.args.address))
    ∙ ap (λ (v : List (ℕ × Contact)). lookup (eqb c.args.address) v) c.self.view_is in (
      after,
      subst (λ x. IsContactHearing c.args.window_ms (option_copied c.args.site) c.args.moment c.args.squitter.now x
          c.hear_at-heard.result after) (heard.was ∙ ap (λ o. unwrap_or o blank_contact) same) step,
      ap (λ l. entries_in c.hear_at-heard.new.table.entries (addresses_in c.hear_at-heard.new.table.entries l last))
          (written_back ms _ ks.len (sym c.deref_mut.ensures.len ∙ sym c.put_last-self-inside.ensures.len))
          ∙ put_at_end es c.hear_at-heard.new.table.entries ls ms c.self.inside.oldest last c.args.address after
          c.self.invariant.tied heard.updates heard.order
          ∙ ap (λ (v : List (ℕ × Contact)). others_in c.args.address v ++ (c.args.address, after) ∷ []) c.self.view_is,
    )
