use Rattle.std.proofs.Common.{◌≡◌, ◌≤◌, ◌+◌, ◌-◌, ◌∙◌, ℕ, List, Some, None, ap, arith, drop, length, reverse, slice_get, sym}
use Rattle.std.specs.Prelude.{nat_le}
use Rattle.std.proofs.lemmas.List.{length-map, length-reverse}
use Rattle.std.proofs.lemmas.Option.{slice_get_within}
use Rattle.sq_track.specs.declared.contact.Contact.{Contact}
use Rattle.sq_track.specs.Held.{Held, heard_since, present_of}
use Rattle.sq_track.proofs.Lists.Filters.{length-filter_le}
use Rattle.squitter_c.proofs.Savings.{all_told, from_on, last_told, none_told, nothing_past, one_told, past_end}
use Rattle.squitter_c.proofs.tracker_present.write_present.Goals as goal

-- the end of the addresses, from an index on
ended : (present : List (ℕ × Contact)) (from at : ℕ) → slice_get present (from + at) ≡ None
    → at ≤ length present - from → at ≡ length present - from
ended present from at none le = omega (arith, le, past_end present (from + at) none)

start : (present : List (ℕ × Contact)) (from : ℕ) → slice_get present from ≡ slice_get present (from + 0)
start present from = let e : from ≡ from + 0 = omega arith in ap (slice_get present) e

step : (present : List (ℕ × Contact)) (from at : ℕ)
    → slice_get present (from + at + 1) ≡ slice_get present (from + (at + 1))
step present from at = let e : from + at + 1 ≡ from + (at + 1) = omega arith in ap (slice_get present) e

-- one more address fits, and has an index of 64 bits
within : (present : List (ℕ × Contact)) (from at : ℕ) (e : ℕ × Contact) → slice_get present (from + at) ≡ Some e
    → at + 1 ≤ length present - from
within present from at e is = omega (arith, slice_get_within present (from + at) e is)

few : (t : Held) (since : ℕ) → length (heard_since since t) ≤ length (present_of t)
few t since =
    omega (
      arith,
      length-filter_le (λ e. nat_le since e.1.moment) (reverse t.contacts),
      length-reverse t.contacts,
      length-map {B = ℕ × ℕ} t.contacts (λ (e : ℕ × Contact). (e.0, e.1.moment)),
    )

pub loop-at-init : goal.loop-at-init
loop-at-init g c =
    let present = heard_since c.args.since c.args.tracker.now in (
      c.present-next.ensures ∙ start present c.args.from,
      omega arith,
      none_told (drop c.args.from present) c.args.entries.now c.args.entries.now,
    )

pub returns-in_default-clause-count : goal.returns-in_default-clause-count
returns-in_default-clause-count g c =
    let present = heard_since c.args.since c.args.tracker.now in
    omega (
      arith,
      ended present c.args.from c.loop-at.at (sym c.loop-at.invariant.0 ∙ c.in_default.is) c.loop-at.invariant.1,
      c.loop-at-test.true,
      c.loop-at.auto.entries,
    )

pub returns-in_default-clause-told : goal.returns-in_default-clause-told
returns-in_default-clause-told g c =
    let present = drop c.args.from (heard_since c.args.since c.args.tracker.now) in
    let none = from_on c.args.from (heard_since c.args.since c.args.tracker.now) c.loop-at.at
    ∙ sym c.loop-at.invariant.0 ∙ c.in_default.is in
    last_told present c.args.entries.now c.loop-at.entries c.loop-at.at c.loop-at.invariant.2 none
    (nothing_past present c.loop-at.at none)

pub overflow_add-from : goal.overflow_add-from
overflow_add-from g c =
    let present = heard_since c.args.since c.args.tracker.now in
    let one = slice_get_within present (c.args.from + c.loop-at.at) (c.in-Some.address, c.in-Some.contact)
    (sym c.loop-at.invariant.0 ∙ c.in-Some.is) in
    omega (arith, one, few c.args.tracker.now c.args.since, c.len-len.ensures.len, c.len-len.auto)

pub present_behind-next-requires : goal.present_behind-next-requires
present_behind-next-requires g c = (c.in-Some.contact, sym c.loop-at.invariant.0 ∙ c.in-Some.is)

pub loop-at-preserved : goal.loop-at-preserved
loop-at-preserved g c =
    let present = heard_since c.args.since c.args.tracker.now in
    let here = sym c.loop-at.invariant.0 ∙ c.in-Some.is in (
      c.present_behind-next.ensures ∙ step present c.args.from c.loop-at.at,
      within present c.args.from c.loop-at.at (c.in-Some.address, c.in-Some.contact) here,
      one_told (drop c.args.from present) c.args.entries.now c.loop-at.entries c.loop-at.at
          (c.in-Some.address, c.in-Some.contact) c.plain_entry.result c.loop-at.invariant.2
          (omega (arith, c.loop-at-test.true, c.loop-at.auto.entries))
          (from_on c.args.from present c.loop-at.at ∙ here) c.plain_entry.ensures,
    )

pub returns-clause-count : goal.returns-clause-count
returns-clause-count g c =
    omega (arith, c.loop-at.invariant.1, c.loop-at-test.false, c.loop-at.auto.entries, c.loop-at.auto.at-end)

pub returns-clause-told : goal.returns-clause-told
returns-clause-told g c =
    let present = drop c.args.from (heard_since c.args.since c.args.tracker.now) in
    all_told present c.args.entries.now c.loop-at.entries c.loop-at.at c.loop-at.invariant.2
    (omega (arith, c.loop-at-test.false, c.loop-at.auto.entries))
