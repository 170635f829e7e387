use Rattle.std.proofs.Common.{◌≡◌, ◌++◌, ◌∷◌, [], ◌<◌, length, subst, sym, take}
use Rattle.sq_track.specs.Ring.{IsLinking, IsRound, round}
use Rattle.sq_track.proofs.Table.RoundLemmas.{last_of_new, last_of_one, newest_of_front}
use Rattle.sq_track.proofs.links.join.Goals as goal

pub returns-then-at-eq0-clause-round : goal.returns-then-at-eq0-clause-round
returns-then-at-eq0-clause-round c =
    (last_of_one c.args.links.now c.args.oldest c.args.at c.requires c.if-at-eq0.true).0

pub returns-then-at-eq0-clause-order : goal.returns-then-at-eq0-clause-order
returns-then-at-eq0-clause-order c =
    (last_of_one c.args.links.now c.args.oldest c.args.at c.requires c.if-at-eq0.true).1

pub link-requires-clause-from : goal.link-requires-clause-from
link-requires-clause-from c =
    subst (λ i. i < length c.args.links.now) (sym c.before-newest.ensures)
    (newest_of_front c.args.links.now c.args.oldest c.args.at c.requires c.if-at-eq0.false)

-- the round after both links
last : (c : goal.After-links-2-1) → IsRound c.link-2.new.links c.args.oldest
    × (round c.link-2.new.links c.args.oldest
    ≡ round (take c.args.at c.args.links.now) c.args.oldest ++ c.args.at ∷ [])
last c =
    let ls = c.args.links.now in
    last_of_new ls c.link.new.links c.link-2.new.links c.args.oldest c.args.at c.requires c.if-at-eq0.false
    (subst (λ i. IsLinking i c.args.at ls c.link.new.links) c.before-newest.ensures c.link.ensures)
    c.link-2.ensures

pub returns-clause-round : goal.returns-clause-round
returns-clause-round c = (last c).0

pub returns-clause-order : goal.returns-clause-order
returns-clause-order c = (last c).1
