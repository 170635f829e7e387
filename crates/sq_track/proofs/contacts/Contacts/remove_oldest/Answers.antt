use Rattle.std.proofs.Common.{◌≡◌, ◌+◌, ◌-◌, ◌<◌, ℕ, List, arith, length, map, slice_get, sym, ap, ◌∙◌}
use Rattle.sq_track.specs.Ordered.{moments_in, others_in, others_than}
use Rattle.sq_track.specs.Ring.{address_at, addresses_in, round}
use Rattle.sq_track.specs.declared.contact.Contact.{Contact}
use Rattle.sq_track.proofs.Table.PlaceLemmas.{IsPlace, left_addresses, left_tied, left_view, links-length, oldest_first}
use Rattle.sq_track.proofs.Table.PlaceLemmas.{oldest_place, some_entries, view-length}
use Rattle.sq_track.proofs.contacts.Contacts.remove_oldest.Given.{Over}
use Rattle.sq_track.proofs.contacts.Contacts.remove_oldest.Goals as goal

pub take_out-self-inside-requires-clause-on_round : goal.take_out-self-inside-requires-clause-on_round
take_out-self-inside-requires-clause-on_round g c =
    (oldest_place c.self.inside.table.entries c.self.inside.links.items c.self.inside.oldest c.self.invariant
    c.len.ensures.unique (omega (arith, c.if-at-len.true, c.len.ensures.len))).on_round

pub take_out-self-inside-requires-clause-few : goal.take_out-self-inside-requires-clause-few
take_out-self-inside-requires-clause-few g c =
    omega (
      arith,
      c.self.invariant.few,
      links-length c.self.inside.table.entries c.self.inside.links.items c.self.inside.oldest c.self.invariant,
    )

-- the addresses after the entry was removed
left : (g : Over) (c : goal.After-remove_at g)
    → IsPlace c.self.inside.table.entries c.self.inside.links.items c.self.inside.oldest
    (address_at c.self.inside.table.entries c.self.inside.oldest) c.self.inside.oldest
    × (addresses_in c.remove_at.new.table.entries c.take_out-self-inside.new.links.items c.take_out-self-inside.result
    ≡ map (address_at c.self.inside.table.entries)
    (others_than c.self.inside.oldest (round c.self.inside.links.items c.self.inside.oldest)))
left g c =
    let es = c.self.inside.table.entries in
    let ls = c.self.inside.links.items in
    let oldest = c.self.inside.oldest in
    let at = oldest_place es ls oldest c.self.invariant c.len.ensures.unique
    (omega (arith, c.if-at-len.true, c.len.ensures.len)) in
    let long : length ls ≡ (length ls - 1) + 1 = omega (arith, at.on_round.within) in
    let (p, out) = c.remove_at.ensures.entries in (
      at,
      left_addresses es c.remove_at.new.table.entries ls c.take_out-self-inside.new.links.items oldest oldest
          (length ls - 1) c.take_out-self-inside.result p at.on_round long
          (sym (links-length es ls oldest c.self.invariant) ∙ long) out c.take_out-self-inside.ensures.order,
    )

pub invariant_of-self : goal.invariant_of-self
invariant_of-self g c =
    let es = c.self.inside.table.entries in
    let oldest = c.self.inside.oldest in
    let (at, order) = left g c in
    record {
      tied = left_tied es c.remove_at.new.table.entries c.self.inside.links.items
          c.take_out-self-inside.new.links.items oldest c.take_out-self-inside.result (address_at es oldest) oldest
          c.self.invariant.tied at order c.remove_at.ensures.len c.remove_at.ensures.contacts;
      is_round = c.take_out-self-inside.ensures.round;
      few = omega (arith, c.self.invariant.few, c.remove_at.ensures.len);
    }

pub returns-then-at-len : goal.returns-then-at-len
returns-then-at-len g c address newest first =
    let es = c.self.inside.table.entries in
    let ls = c.self.inside.links.items in
    let oldest = c.self.inside.oldest in
    let (at, order) = left g c in
    let is : address_at es oldest ≡ address = oldest_first es ls oldest address newest c.self.invariant
    (ap (λ (v : List (ℕ × Contact)). slice_get (moments_in v) 0) c.self.view_is ∙ first)
    (omega (arith, c.if-at-len.true, c.len.ensures.len)) in
    left_view es c.remove_at.new.table.entries ls c.take_out-self-inside.new.links.items oldest
    c.take_out-self-inside.result (address_at es oldest) oldest c.self.invariant.tied at order
    c.remove_at.ensures.len c.remove_at.ensures.contacts
    ∙ ap (λ (v : List (ℕ × Contact)). others_in (address_at es oldest) v) c.self.view_is
    ∙ ap (λ a. others_in a c.args.self.now) is

pub returns-else-at-len : goal.returns-else-at-len
returns-else-at-len g c address newest first =
    let es = c.self.inside.table.entries in
    let ls = c.self.inside.links.items in
    let oldest = c.self.inside.oldest in
    let some = some_entries c.args.self.now address newest first in
    let long : 0 < length es =
    omega (arith, some, ap length c.self.view_is, view-length es ls oldest c.self.invariant.tied) in
    let within = c.self.invariant.is_round.within (omega (arith, long, links-length es ls oldest c.self.invariant)) in
    absurd (omega (
      arith,
      within,
      c.if-at-len.false,
      c.len.ensures.len,
      links-length es ls oldest c.self.invariant,
    ))
