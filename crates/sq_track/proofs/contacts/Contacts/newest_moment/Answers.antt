use Rattle.std.proofs.Common.{◌≡◌, ℕ, List, IfSome, arith, length, slice_get, subst, sym, ap, ◌∙◌, refl}
use Rattle.sq_track.specs.Ordered.{moments_in}
use Rattle.sq_track.specs.Ring.{before_at}
use Rattle.sq_track.specs.declared.contact.Contact.{Contact}
use Rattle.sq_track.proofs.Table.PlaceLemmas.{view-length}
use Rattle.sq_track.proofs.Table.WalkLemmas.{newest}
use Rattle.sq_track.proofs.contacts.Contacts.newest_moment.Goals as goal

pub returns-in-Some-clause-last : goal.returns-in-Some-clause-last
returns-in-Some-clause-last g c = λ k long.
    let es = c.self.inside.table.entries in
    let ls = c.self.inside.links.items in
    let oldest = c.self.inside.oldest in
    subst (λ o. IfSome o (λ entry. c.in-Some.newest ≡ entry.1))
    (sym c.in-Some.is ∙ c.moment_at.ensures.entry
    ∙ newest es ls oldest k c.links_at.result.before c.self.invariant
    (omega (arith, long, ap length c.self.view_is, view-length es ls oldest c.self.invariant.tied))
    (c.links_at.ensures.before ∙ ap (λ l. before_at l oldest) c.deref-links.ensures.value) c.moment_at.ensures.found
    ∙ ap (λ (v : List (ℕ × Contact)). slice_get (moments_in v) k) c.self.view_is)
    refl

pub returns-in-None-clause-last : goal.returns-in-None-clause-last
returns-in-None-clause-last g c = λ k long.
    let es = c.self.inside.table.entries in
    let ls = c.self.inside.links.items in
    let oldest = c.self.inside.oldest in
    subst (λ o. IfSome o (λ entry. 0 ≡ entry.1))
    (sym c.in-None.is ∙ c.moment_at.ensures.entry
    ∙ newest es ls oldest k c.links_at.result.before c.self.invariant
    (omega (arith, long, ap length c.self.view_is, view-length es ls oldest c.self.invariant.tied))
    (c.links_at.ensures.before ∙ ap (λ l. before_at l oldest) c.deref-links.ensures.value) c.moment_at.ensures.found
    ∙ ap (λ (v : List (ℕ × Contact)). slice_get (moments_in v) k) c.self.view_is)
    tt
