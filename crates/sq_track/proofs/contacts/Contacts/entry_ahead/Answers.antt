use Rattle.std.proofs.Common.{◌≡◌, ◌<◌, ◌+◌, ◌-◌, ℕ, suc, List, Some, arith, length, reverse, slice_get, subst, sym, ap, ◌∙◌}
use Rattle.std.proofs.lemmas.Bool.{false≢true}
use Rattle.sq_track.specs.Ordered.{entries_in}
use Rattle.sq_track.specs.Ring.{addresses_in, before_at}
use Rattle.sq_track.specs.declared.contact.Contact.{Contact}
use Rattle.sq_track.proofs.Table.PlaceLemmas.{links-length, place, view-length}
use Rattle.sq_track.proofs.Table.WalkLemmas.{ahead, from_end, index_at, is_there}
use Rattle.sq_track.proofs.contacts.Contacts.entry_ahead.Goals as goal

pub links_at-requires : goal.links_at-requires
links_at-requires g c =
    subst (λ l. c.in-Some.at < length l) (sym c.deref.ensures.value)
    (place c.self.inside.table.entries c.self.inside.links.items c.self.inside.oldest c.args.address c.in-Some.at
    c.self.invariant c.in-Some.ensures.unique c.in-Some.ensures.index (sym c.in-Some.ensures.found)).on_round.within

-- the index of the entry, the longest silent first
there : (es : List (ℕ × Contact)) (v : List (ℕ × Contact)) (index : ℕ) (e : ℕ × Contact) → length v ≡ length es
    → index + 1 < length es → slice_get (reverse v) index ≡ Some e
    → slice_get v (suc (length es - 2 - index)) ≡ Some e
there es v index e long more is =
    sym (from_end v index (suc (length es - 2 - index)) (omega (arith, long, more))) ∙ is

pub returns-in-Some : goal.returns-in-Some
returns-in-Some g c =
    let es = c.self.inside.table.entries in
    let ls = c.self.inside.links.items in
    let oldest = c.self.inside.oldest in
    let it = place es ls oldest c.args.address c.in-Some.at c.self.invariant c.in-Some.ensures.unique
    c.in-Some.ensures.index (sym c.in-Some.ensures.found) in
    let lt : c.in-Some.at < length es =
    omega (arith, it.on_round.within, links-length es ls oldest c.self.invariant) in
    let long = view-length es ls oldest c.self.invariant.tied in
    let more : c.args.index + 1 < length es =
    omega (arith, c.if-index-saturating_sub.false, c.saturating_sub.ensures, c.len.ensures.len) in
    let shown = there es (entries_in es (addresses_in es ls oldest)) c.args.index (c.args.address, c.requires.0) long
    more (ap (λ (v : List (ℕ × Contact)). slice_get (reverse v) c.args.index) c.self.view_is ∙ c.requires.1) in
    let prior = length es - 2 - c.args.index in
    ahead es ls oldest prior c.in-Some.at c.links_at.result.before c.entry_at.result c.self.invariant
    (index_at es ls oldest (suc prior) c.in-Some.at c.args.address c.requires.0 c.self.invariant
    c.in-Some.ensures.unique lt it.is shown)
    (omega (arith, more)) lt
    (c.links_at.ensures.before ∙ ap (λ l. before_at l c.in-Some.at) c.deref.ensures.value) c.entry_at.ensures.entry
    c.entry_at.ensures.found
    ∙ sym (from_end (entries_in es (addresses_in es ls oldest)) (c.args.index + 1) prior (omega (arith, long, more)))
    ∙ ap (λ (v : List (ℕ × Contact)). slice_get (reverse v) (c.args.index + 1)) c.self.view_is

pub returns-in-None : goal.returns-in-None
returns-in-None g c =
    let es = c.self.inside.table.entries in
    let ls = c.self.inside.links.items in
    let oldest = c.self.inside.oldest in
    let long = view-length es ls oldest c.self.invariant.tied in
    let more : c.args.index + 1 < length es =
    omega (arith, c.if-index-saturating_sub.false, c.saturating_sub.ensures, c.len.ensures.len) in
    let shown = there es (entries_in es (addresses_in es ls oldest)) c.args.index (c.args.address, c.requires.0) long
    more (ap (λ (v : List (ℕ × Contact)). slice_get (reverse v) c.args.index) c.self.view_is ∙ c.requires.1) in
    absurd (false≢true (c.in-None.ensures.found
    ∙ is_there es ls oldest (suc (length es - 2 - c.args.index)) c.args.address c.requires.0 c.self.invariant shown))
