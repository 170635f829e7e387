use Rattle.std.proofs.Common.{◌≡◌, ◌<◌, ◌++◌, ◌∷◌, [], arith, length, subst, subst₂, sym}
use Rattle.std.proofs.lemmas.Bool.{ne_eqb}
use Rattle.sq_track.specs.Ordered.{others_than}
use Rattle.sq_track.specs.Ring.{IsLinking, IsRound, before_at, round}
use Rattle.sq_track.proofs.Table.RoundLemmas.{already_last, before_within, last_of_oldest, last_of_other}
use Rattle.sq_track.proofs.links.put_last.Goals as goal

pub returns-then-own-oldest-clause-order : goal.returns-then-own-oldest-clause-order
returns-then-own-oldest-clause-order c =
    already_last c.args.links.now c.args.oldest c.args.at c.args.own.after c.requires.on_round c.if-own-oldest.true
    c.requires.after

pub returns-then-at-oldest-clause-round : goal.returns-then-at-oldest-clause-round
returns-then-at-oldest-clause-round c =
    (last_of_oldest c.args.links.now c.args.oldest c.args.at c.args.own.after c.requires.on_round c.if-at-oldest.true
    c.requires.after).0

pub returns-then-at-oldest-clause-order : goal.returns-then-at-oldest-clause-order
returns-then-at-oldest-clause-order c =
    (last_of_oldest c.args.links.now c.args.oldest c.args.at c.args.own.after c.requires.on_round c.if-at-oldest.true
    c.requires.after).1

pub link-requires-clause-from : goal.link-requires-clause-from
link-requires-clause-from c =
    subst (λ i. i < length c.args.links.now) (sym c.requires.before)
    (c.requires.on_round.is_round.backward.within c.args.at c.requires.on_round.within)

pub link-requires-clause-to : goal.link-requires-clause-to
link-requires-clause-to c =
    subst (λ i. i < length c.args.links.now) (sym c.requires.after)
    (c.requires.on_round.is_round.forward.within c.args.at c.requires.on_round.within)

pub link-requires-2-clause-from : goal.link-requires-2-clause-from
link-requires-2-clause-from c =
    let ls = c.args.links.now in
    let ms = c.link.new.links in
    let on = c.requires.on_round in
    let over = subst₂ (λ i j. IsLinking i j ls ms) c.requires.before c.requires.after c.link.ensures in
    let bound : before_at ms c.args.oldest < length ms = before_within ls ms c.args.at c.args.oldest on.within
    (on.is_round.within (omega (arith, on.within))) on.is_round.backward over in
    subst (λ i. i < length ms) (sym c.before-newest.ensures) bound

-- the round after all three links
last : (c : goal.After-links-3-1) → IsRound c.link-3.new.links c.args.oldest
    × (round c.link-3.new.links c.args.oldest
    ≡ others_than c.args.at (round c.args.links.now c.args.oldest) ++ c.args.at ∷ [])
last c =
    let ls = c.args.links.now in
    let ms = c.link.new.links in
    let over = subst₂ (λ i j. IsLinking i j ls ms) c.requires.before c.requires.after c.link.ensures in
    last_of_other ls ms c.link-2.new.links c.link-3.new.links c.args.oldest c.args.at c.requires.on_round
    (ne_eqb c.args.at c.args.oldest c.if-at-oldest.false) over
    (subst (λ i. IsLinking i c.args.at ms c.link-2.new.links) c.before-newest.ensures c.link-2.ensures)
    c.link-3.ensures

pub returns-clause-round : goal.returns-clause-round
returns-clause-round c = (last c).0

pub returns-clause-order : goal.returns-clause-order
returns-clause-order c = (last c).1
