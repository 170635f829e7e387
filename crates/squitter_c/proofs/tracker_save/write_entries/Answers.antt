use Rattle.std.proofs.Common.{◌∙◌, arith, sym}
use Rattle.squitter_c.proofs.Savings.{all_told, last_told, none_told, nothing_past, one_told}
use Rattle.squitter_c.proofs.tracker_save.write_entries.Goals as goal

pub loop-at-init : goal.loop-at-init
loop-at-init g c =
    (c.entry-next.ensures, none_told c.args.tracker.now.contacts c.args.entries.now c.args.entries.now)

pub returns-in_default : goal.returns-in_default
returns-in_default g c =
    let none = sym c.loop-at.invariant.0 ∙ c.in_default.is in
    last_told c.args.tracker.now.contacts c.args.entries.now c.loop-at.entries c.loop-at.at c.loop-at.invariant.1 none
    (nothing_past c.args.tracker.now.contacts c.loop-at.at none)

pub entry_behind-next-requires : goal.entry_behind-next-requires
entry_behind-next-requires g c = (c.in-Some.contact, sym c.loop-at.invariant.0 ∙ c.in-Some.is)

pub loop-at-preserved : goal.loop-at-preserved
loop-at-preserved g c = (
  c.entry_behind-next.ensures,
  one_told c.args.tracker.now.contacts c.args.entries.now c.loop-at.entries c.loop-at.at
      (c.in-Some.address, c.in-Some.contact) c.plain_entry.result c.loop-at.invariant.1
      (omega (arith, c.loop-at-test.true, c.loop-at.auto.entries)) (sym c.loop-at.invariant.0 ∙ c.in-Some.is)
      c.plain_entry.ensures,
)

pub returns : goal.returns
returns g c =
    all_told c.args.tracker.now.contacts c.args.entries.now c.loop-at.entries c.loop-at.at c.loop-at.invariant.1
    (omega (arith, c.loop-at-test.false, c.loop-at.auto.entries))
