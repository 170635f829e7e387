use Rattle.std.proofs.Common.{◌<◌, ◌+◌, ℕ, List, arith, length, slice_get, subst, sym, ap, ◌∙◌}
use Rattle.std.proofs.lemmas.Bool.{false≢true}
use Rattle.sq_track.specs.Ring.{after_at}
use Rattle.sq_track.specs.declared.contact.Contact.{Contact}
use Rattle.sq_track.proofs.Table.PlaceLemmas.{links-length, place}
use Rattle.sq_track.proofs.Table.WalkLemmas.{behind, index_at, is_there}
use Rattle.sq_track.proofs.contacts.Contacts.entry_behind.Goals as goal

pub links_at-requires : goal.links_at-requires
links_at-requires g c =
    subst (λ l. c.in-Some.at < length l) (sym c.deref.ensures.value)
    (place c.self.inside.table.entries c.self.inside.links.items c.self.inside.oldest c.args.address c.in-Some.at
    c.self.invariant c.in-Some.ensures.unique c.in-Some.ensures.index (sym c.in-Some.ensures.found)).on_round.within

pub returns-in-Some : goal.returns-in-Some
returns-in-Some g c =
    let es = c.self.inside.table.entries in
    let ls = c.self.inside.links.items in
    let oldest = c.self.inside.oldest in
    let it = place es ls oldest c.args.address c.in-Some.at c.self.invariant c.in-Some.ensures.unique
    c.in-Some.ensures.index (sym c.in-Some.ensures.found) in
    let lt : c.in-Some.at < length es =
    omega (arith, it.on_round.within, links-length es ls oldest c.self.invariant) in
    let shown = ap (λ (v : List (ℕ × Contact)). slice_get v c.args.index) c.self.view_is ∙ c.requires.1 in
    behind es ls oldest c.args.index c.in-Some.at c.links_at.result.after c.entry_at.result c.self.invariant
    (index_at es ls oldest c.args.index c.in-Some.at c.args.address c.requires.0 c.self.invariant
    c.in-Some.ensures.unique lt it.is shown)
    (omega (arith, c.if-index-saturating_sub.false, c.saturating_sub.ensures, c.len.ensures.len)) lt
    (c.links_at.ensures.after ∙ ap (λ l. after_at l c.in-Some.at) c.deref.ensures.value) c.entry_at.ensures.entry
    c.entry_at.ensures.found
    ∙ ap (λ (v : List (ℕ × Contact)). slice_get v (c.args.index + 1)) c.self.view_is

pub returns-in-None : goal.returns-in-None
returns-in-None g c =
    let es = c.self.inside.table.entries in
    let shown = ap (λ (v : List (ℕ × Contact)). slice_get v c.args.index) c.self.view_is ∙ c.requires.1 in
    absurd (false≢true (c.in-None.ensures.found
    ∙ is_there es c.self.inside.links.items c.self.inside.oldest c.args.index c.args.address c.requires.0
    c.self.invariant shown))
