use Rattle.std.proofs.Common.{arith, refl}
use Rattle.sq_track.proofs.Table.LinkLemmas.{read_at}
use Rattle.sq_track.proofs.Table.PlaceLemmas.{first_at, next_at, past_all}
use Rattle.sq_track.proofs.contacts.nth.Goals as goal

pub returns-then-index-links-clause-index : goal.returns-then-index-links-clause-index
returns-then-index-links-clause-index c =
    past_all c.args.links.now c.args.oldest c.args.index (omega (arith, c.if-index-links.true))

pub loop-init : goal.loop-init
loop-init c =
    let two = first_at c.args.links.now c.args.oldest (omega (arith, c.if-index-links.false)) c.requires in
    (two.0, two.1, omega arith)

pub loop-preserved : goal.loop-preserved
loop-preserved c =
    let ls = c.args.links.now in
    let two = next_at ls c.args.oldest c.loop.counter c.loop.at _ c.requires c.loop.invariant.0
    (omega (arith, c.if-index-links.false, c.loop-test.true)) c.loop.invariant.1
    (read_at (λ l. l.after) ls c.loop.at (record { before = 0; after = 0 }) refl) in
    (two.0, two.1, omega (arith, c.loop-test.true))
