use Rattle.std.proofs.Common.{◌≡◌, ◌∙◌, ◌+◌, ◌<◌, ◌≤◌, ◌++◌, ◌∷◌, [], length, take, ap, sym, subst, arith, rules}
use Rattle.std.proofs.lemmas.List.{take_all, take_more, take_more_set}
use Rattle.sq_track.specs.Held.{settings}
use Rattle.sq_track.specs.Replies.{Settings, AreReplies, IsReply, history_after_all}
use Rattle.sq_track.specs.ByEntries.{AreHeardByEntries}
use Rattle.sq_track.proofs.Table.EnteredLemmas.{entries_next}
use Rattle.sq_track.proofs.Table.Sequences.{replies_next, stands_next, true_in_slow_worlds}
use Rattle.sq_track.proofs.listening.hear_each.Goals as goal

pub loop-at-preserved : goal.loop-at-preserved
loop-at-preserved g c =
    let s = settings c.args.tracker.now in
    let xs = c.args.received.now in
    let rs = c.loop-at.heard in
    let at = c.loop-at.at in
    let x = c.index-received-at.result in
    let r = c.hear_into.new.slot in
    let i = c.loop-at.invariant in
    let below : at < length xs = search rules in
    let one_more : take (at + 1) xs ≡ take at xs ++ x ∷ [] =
    take_more xs at x below ∙ ap (λ y. take at xs ++ y ∷ []) (sym c.index-received-at.is) in
    let one_reply = take_more_set rs at r (omega (arith, below, i.1)) in (
      search rules,
      search rules,
      search rules,
      λ h st.
          let before = i.3 h st in
          let H = history_after_all h (take at xs) (take at rs) in
          let reply = subst (λ (o : Settings). IsReply o H x.moment x.squitter r) i.2
          (c.hear_into.ensures.reply H before.1) in (
            replies_next s h (take at xs) _ (take at rs) _ x r one_more one_reply before.0 reply,
            stands_next s c.hear_into.new.tracker h (take at xs) _ (take at rs) _ x r one_more one_reply before.0
                (c.hear_into.ensures.after H before.1),
          ),
      entries_next c.args.tracker.now c.loop-at.tracker c.hear_into.new.tracker (take at xs) _ (take at rs) _ x r
          one_more one_reply i.4 c.hear_into.ensures.entries,
    )

pub returns-clause-placed : goal.returns-clause-placed
returns-clause-placed g c =
    let s = settings c.args.tracker.now in
    let i = c.loop-at.invariant in
    let ended : length c.args.received.now ≤ c.loop-at.at = search rules in
    let whole_received = take_all c.loop-at.at c.args.received.now ended in
    let whole_heard = take_all c.loop-at.at c.loop-at.heard (omega (arith, ended, i.1)) in
    true_in_slow_worlds c.args.tracker.now c.args.received.now c.loop-at.heard (λ h st.
    subst (λ xs. AreReplies s h xs c.loop-at.heard) whole_received
    (subst (λ rs. AreReplies s h (take c.loop-at.at c.args.received.now) rs) whole_heard (i.3 h st).0))

pub returns-clause-entries : goal.returns-clause-entries
returns-clause-entries g c =
    let i = c.loop-at.invariant in
    let old = c.args.tracker.now in
    let new = c.loop-at.tracker in
    let ended : length c.args.received.now ≤ c.loop-at.at = search rules in
    let whole_received = take_all c.loop-at.at c.args.received.now ended in
    let whole_heard = take_all c.loop-at.at c.loop-at.heard (omega (arith, ended, i.1)) in
    subst (λ xs. AreHeardByEntries xs old new c.loop-at.heard) whole_received
    (subst (λ rs. AreHeardByEntries (take c.loop-at.at c.args.received.now) old new rs) whole_heard i.4)
