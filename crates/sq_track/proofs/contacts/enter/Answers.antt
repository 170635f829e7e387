use Rattle.std.proofs.Common.{◌≡◌, ◌++◌, ◌∷◌, [], ◌∙◌, ap, eqb, refl, subst, sym, take}
use Rattle.indexmap.proofs.CallerLemmas.{insert_entry-new}
use Rattle.sq_track.specs.Ring.{IsEntered, IsReached, round}
use Rattle.sq_track.specs.declared.links.Neighbours.{Neighbours}
use Rattle.sq_track.proofs.Table.LinkLemmas.{written_back}
use Rattle.sq_track.proofs.Table.PlaceLemmas.{entered, front_is, links-length, one_longer, reached_new}
use Rattle.sq_track.proofs.contacts.enter.Goals as goal

pub join-requires : goal.join-requires
join-requires g c =
    let es = c.args.table.now.entries in
    let ls = c.args.links.now.items in
    let at = c.len-at.result in
    let link : Neighbours = record { before = at; after = at } in
    subst (λ ms. IsEntered ms c.args.oldest.now at) (sym c.deref_mut.ensures.value)
    (entered es ls c.push.new.self.items link c.args.oldest.now at
    (c.len-at.ensures.len ∙ sym (links-length es ls c.args.oldest.now c.requires.linked)) c.in_ok-push.ensures.items
    c.requires.linked refl refl)

pub returns-in-Ok-clause-ok : goal.returns-in-Ok-clause-ok
returns-in-Ok-clause-ok g c =
    let es = c.args.table.now.entries in
    let fs = c.insert.new.self.entries in
    let ls = c.args.links.now.items in
    let at = c.len-at.result in
    let link : Neighbours = record { before = at; after = at } in
    let grown : fs ≡ es ++ (c.args.address, c.blank.result) ∷ [] = c.in-Ok.ensures.entries
    ∙ insert_entry-new eqb c.args.table.now c.args.address c.blank.result c.requires.absent in
    let front : take at c.deref_mut.result.now ≡ ls = front_is ls c.deref_mut.result.now link at
    (c.len-at.ensures.len ∙ sym (links-length es ls c.args.oldest.now c.requires.linked))
    (c.deref_mut.ensures.value ∙ c.in_ok-push.ensures.items) in
    subst (λ ms. IsReached c.args.address at es fs ls ms c.args.oldest.now c.join.result)
    (sym (written_back c.join.new.links _ c.push.new.self.len
    (sym c.deref_mut.ensures.len ∙ sym c.join.ensures.len)))
    (reached_new es fs ls c.join.new.links c.args.oldest.now c.join.result c.args.address at c.blank.result
    c.len-at.ensures.len grown c.requires.linked c.requires.absent c.in-Ok.ensures.updates.0 c.in-Ok.ensures.unique
    c.blank.ensures
    (c.join.ensures.len
    ∙ one_longer ls c.deref_mut.result.now link at
    (c.len-at.ensures.len ∙ sym (links-length es ls c.args.oldest.now c.requires.linked))
    (c.deref_mut.ensures.value ∙ c.in_ok-push.ensures.items)) c.join.ensures.round
    (c.join.ensures.order ∙ ap (λ l. round l c.args.oldest.now ++ at ∷ []) front))
