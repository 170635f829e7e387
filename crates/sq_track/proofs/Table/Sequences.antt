-- Replies in order.
use Rattle.std.proofs.Common.{◌≡◌, List, [], ◌∷◌, ◌++◌, Result, refl, sym, subst}
use Rattle.sq_message.specs.declared.received.Received.{Received}
use Rattle.sq_track.specs.declared.heard.Heard.{Heard}
use Rattle.sq_track.specs.declared.heard.TrackFault.{TrackFault}
use Rattle.sq_track.specs.History.{History}
use Rattle.sq_track.specs.Held.{Held, StandsFor, settings}
use Rattle.sq_track.specs.Replies.{Settings, IsReply, AreReplies, history_after, history_after_all}
use Rattle.sq_track.specs.Laws.{AreTrueInSlowWorlds}
use Rattle.sq_track.proofs.Worlds.TrueWorlds.{slow_replies_are_true}

abbrev Reply : Type 0
Reply = Result Heard TrackFault

-- one more reply
pub replies_more : (s : Settings) (h : History) (xs : List Received) (rs : List Reply) (x : Received) (r : Reply)
    → AreReplies s h xs rs
    → IsReply s (history_after_all h xs rs) x.moment x.squitter r → AreReplies s h (xs ++ x ∷ []) (rs ++ r ∷ [])
replies_more s h [] [] x r before reply = (reply, tt)
replies_more s h [] (q ∷ rs) x r before reply = absurd before
replies_more s h (y ∷ xs) [] x r before reply = absurd before
replies_more s h (y ∷ xs) (q ∷ rs) x r before reply =
    (before.0, replies_more s (history_after h y.moment y.squitter q) xs rs x r before.1 reply)

pub after_more : (s : Settings) (h : History) (xs : List Received) (rs : List Reply) (x : Received) (r : Reply)
    → AreReplies s h xs rs
    → history_after_all h (xs ++ x ∷ []) (rs ++ r ∷ [])
    ≡ history_after (history_after_all h xs rs) x.moment x.squitter r
after_more s h [] [] x r before = refl
after_more s h [] (q ∷ rs) x r before = absurd before
after_more s h (y ∷ xs) [] x r before = absurd before
after_more s h (y ∷ xs) (q ∷ rs) x r before = after_more s (history_after h y.moment y.squitter q) xs rs x r before.1

-- if each history of the tracker gives the replies, they are true in slow worlds
pub true_in_slow_worlds : (t : Held) (received : List Received) (replies : List Reply)
    → ((h : History) → StandsFor t h → AreReplies (settings t) h received replies)
    → AreTrueInSlowWorlds t received replies
true_in_slow_worlds t received replies each world arrivals h st arises slow follows among is =
    slow_replies_are_true (settings t) world arrivals h replies st.accepted arises slow follows among
    (subst (λ xs. AreReplies (settings t) h xs replies) (sym is) (each h st))

-- the replies to a list with one more squitter, in the slots of a list
pub replies_next : (s : Settings) (h : History) (xs xs' : List Received) (rs rs' : List Reply) (x : Received)
    (r : Reply)
    → xs' ≡ xs ++ x ∷ [] → rs' ≡ rs ++ r ∷ [] → AreReplies s h xs rs
    → IsReply s (history_after_all h xs rs) x.moment x.squitter r → AreReplies s h xs' rs'
replies_next s h xs xs' rs rs' x r xs_is rs_is before reply =
    subst (λ ys. AreReplies s h ys rs') (sym xs_is)
    (subst (λ qs. AreReplies s h (xs ++ x ∷ []) qs) (sym rs_is) (replies_more s h xs rs x r before reply))

pub stands_next : (s : Settings) (t : Held) (h : History) (xs xs' : List Received) (rs rs' : List Reply) (x : Received)
    (r : Reply)
    → xs' ≡ xs ++ x ∷ [] → rs' ≡ rs ++ r ∷ [] → AreReplies s h xs rs
    → StandsFor t (history_after (history_after_all h xs rs) x.moment x.squitter r)
    → StandsFor t (history_after_all h xs' rs')
stands_next s t h xs xs' rs rs' x r xs_is rs_is before stands =
    subst (λ ys. StandsFor t (history_after_all h ys rs')) (sym xs_is)
    (subst (λ qs. StandsFor t (history_after_all h (xs ++ x ∷ []) qs)) (sym rs_is)
    (subst (StandsFor t) (sym (after_more s h xs rs x r before)) stands))
