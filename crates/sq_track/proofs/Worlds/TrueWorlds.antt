-- In tame worlds, the results for the arrivals, in order, are true.
use Rattle.std.proofs.Common.{List, map, [], ◌∷◌, Result, Ok, Err, Contains, refl}
use Rattle.std.specs.List.{AllByRecursion, AllZip}
use Rattle.std.proofs.lemmas.List.Elements.{All-contains_itself, recursion_from_All}
use Rattle.sq_track.specs.declared.heard.Heard.{Heard}
use Rattle.sq_track.specs.declared.heard.TrackFault.{TrackFault}
use Rattle.sq_track.specs.History.{Entry, History}
use Rattle.sq_track.specs.Replies.{Settings, IsHistory, AreReplies}
use Rattle.sq_track.specs.Worlds.{Arrival, World, ArisesFrom, IsTrueFix, IsTruePlaceHeard, IfHeard, received_of}
use Rattle.sq_track.specs.Tame.{IsTame, IsTameForFollowing, IsSlow, IsSlowForFollowing}
use Rattle.sq_track.specs.Laws.{TameWorldsAreTrue, FollowedWorldsAreTrue}
use Rattle.sq_track.proofs.Lists.Found.{each_weaker}
use Rattle.sq_track.proofs.Worlds.SlowWorlds.{slow_worlds_are_tame, slow_for_following_is_tame}
use Rattle.sq_track.proofs.Histories.Entries.{Arrived, IsChain, chain_of, each_arrived}
use Rattle.sq_track.proofs.Histories.TrueHistories.{fix_is_true, IsPlacedEntry, place_heard_is_true, entry_is_placed}
use Rattle.sq_track.proofs.Histories.TrueHistories.{entries_are_placed}

module _ (s : Settings) (world : World) (tame : IsTame s.window s.site world) where
  replies_are_true : (later : World) (history : History) (replies : List (Result Heard TrackFault))
      → AllByRecursion (Contains world) later
      → IsChain s.window s.site history → AllByRecursion (Arrived world) history
      → AreReplies s history (map received_of later) replies → AllZip (IfHeard IsTrueFix) later replies
  replies_are_true [] history [] there accepted arrived h = tt
  replies_are_true [] history (reply ∷ replies) there accepted arrived h = absurd h
  replies_are_true (b ∷ later) history [] there accepted arrived h = absurd h
  replies_are_true (b ∷ later) history (Ok heard ∷ replies) there accepted arrived h =
      let reply = h.0 in (
        fix_is_true s.window s.site world tame history b heard accepted arrived reply.0.in_time there.0 reply.1,
        replies_are_true later (record { moment = b.moment; squitter = b.squitter; heard = heard }
            ∷ history) replies there.1
            (reply.0.in_time, reply.1, accepted) ((b, there.0, record { moment = refl; squitter = refl }), arrived) h.1,
      )
  replies_are_true (b ∷ later) history (Err fault ∷ replies) there accepted arrived h =
      (tt, replies_are_true later history replies there.1 accepted arrived h.1)

  module _ (following : IsTameForFollowing s.window world) where
    replies_are_placed : (later : World) (history : History) (replies : List (Result Heard TrackFault))
        → AllByRecursion (Contains world) later
        → IsChain s.window s.site history → AllByRecursion (Arrived world) history
        → AllByRecursion (IsPlacedEntry s.window s.site world tame following) history
        → AreReplies s history (map received_of later) replies → AllZip (IfHeard IsTruePlaceHeard) later replies
    replies_are_placed [] history [] there accepted arrived placed h = tt
    replies_are_placed [] history (reply ∷ replies) there accepted arrived placed h = absurd h
    replies_are_placed (b ∷ later) history [] there accepted arrived placed h = absurd h
    replies_are_placed (b ∷ later) history (Ok heard ∷ replies) there accepted arrived placed h =
        let reply = h.0 in
        let entry : Entry = record { moment = b.moment; squitter = b.squitter; heard = heard } in (
          place_heard_is_true s.window s.site world tame following history b heard accepted arrived placed
              reply.0.in_time there.0 reply.1,
          replies_are_placed later (entry ∷ history) replies there.1
              (reply.0.in_time, reply.1, accepted) ((b, there.0, record { moment = refl; squitter = refl }), arrived) (
                entry_is_placed s.window s.site world tame following history entry accepted arrived placed
                    reply.0.in_time reply.1,
                placed,
              ) h.1,
        )
    replies_are_placed (b ∷ later) history (Err fault ∷ replies) there accepted arrived placed h =
        (tt, replies_are_placed later history replies there.1 accepted arrived placed h.1)

each_there : (world : World) → AllByRecursion (Contains world) world
each_there world = recursion_from_All (Contains world) world (All-contains_itself world)

pub tame_worlds_are_true : TameWorldsAreTrue
tame_worlds_are_true s world replies tame h = replies_are_true s world tame world [] replies (each_there world) tt tt h

pub followed_worlds_are_true : FollowedWorldsAreTrue
followed_worlds_are_true s world replies tame following h =
    replies_are_placed s world tame following world [] replies (each_there world) tt tt tt h

-- replies are true from a history on that arose from a slow world
pub slow_replies_are_true : (s : Settings) (world arrivals : World) (history : History)
    (replies : List (Result Heard TrackFault))
    → IsHistory s history → ArisesFrom world history → IsSlow s.window s.site world → IsSlowForFollowing s.window world
    → ((arrival : Arrival) → Contains arrivals arrival → Contains world arrival)
    → AreReplies s history (map received_of arrivals) replies
    → AllZip (IfHeard IsTruePlaceHeard) arrivals replies
slow_replies_are_true s world arrivals history replies accepted arises slow follows among h =
    let tame = slow_worlds_are_tame s.window s.site world slow in
    let following = slow_for_following_is_tame s.window world follows in
    let chain = chain_of s history accepted in
    let arrived = each_arrived world history arises in
    replies_are_placed s world tame following arrivals history replies
    (each_weaker (Contains arrivals) (Contains world) arrivals among (each_there arrivals)) chain arrived
    (entries_are_placed s.window s.site world tame following history chain arrived) h
