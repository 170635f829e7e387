use Rattle.std.proofs.Common.{◌≡◌, ◌-◌, ◌≤◌, length, take}
use Rattle.sq_track.specs.ByEntries.{AreHeardByEntries}
use Rattle.sq_track.specs.History.{History}
use Rattle.sq_track.specs.Held.{StandsFor, settings}
use Rattle.sq_track.specs.Replies.{AreReplies, history_after_all}
use Rattle.sq_track.proofs.listening.hear_each.Given as goal

-- the first squitters have their replies, and the tracker is the one after them, by its history and by its entries
abbrev pub invariant-loop-at : goal.invariant-loop-at
invariant-loop-at g l =
    (l.at ≤ length l.received) × (length l.heard ≡ length l.received)
    × (settings l.tracker ≡ settings l.initial.tracker)
    × ((h : History) → StandsFor l.initial.tracker h
    → AreReplies (settings l.initial.tracker) h (take l.at l.received) (take l.at l.heard)
    × StandsFor l.tracker (history_after_all h (take l.at l.received) (take l.at l.heard)))
    × AreHeardByEntries (take l.at l.received) l.initial.tracker l.tracker (take l.at l.heard)

abbrev pub decreases-loop-at : goal.decreases-loop-at
decreases-loop-at g l = length l.received - l.at
