-- What C may hold, and what a seal owns.
use base.Fml.{Fml, ftrue}
use base.Stored.{Coded, coded⊎}
use mathlib.Core.Logic.{inl, inr}
use mir.Syntax.{Ty}
use denote.RawPtr.{Ptr}
use Rattle.std.specs.Prelude.{ℕ, ◌⊎◌, Option, Some, None}
use Rattle.std.specs.Box.Ownership.{box_owns}
use Rattle.sq_feed.specs.contracts.feed.Feed as Feed
use Rattle.squitter_c.specs.contracts.listener.Listener as Listener
use Rattle.squitter_c.specs.contracts.order_slot.Sorter as Sorter

-- a listener as proofs hold it
abbrev pub Kept : Type 0
Kept = Listener.the_row.Denot

-- a feed as proofs hold it
abbrev pub KeptFeed : Type 0
KeptFeed = Feed.the_row.Denot

-- an order in lent memory as proofs hold it
abbrev pub KeptSorter : Type 0
KeptSorter = Sorter.the_row.Denot

-- what a seal holds: a listener, a feed or a sorter
abbrev pub Content : Type 0
Content = Kept ⊎ (KeptFeed ⊎ KeptSorter)

abbrev pub a_listener : Kept → Content
a_listener x = inl x

abbrev pub a_feed : KeptFeed → Content
a_feed x = inr (inl x)

abbrev pub a_sorter : KeptSorter → Content
a_sorter x = inr (inr x)

-- the listener in a seal, if it holds one
abbrev pub listener_of : Option Content → Option Kept
listener_of (Some (inl x)) = Some x
listener_of (Some (inr _)) = None
listener_of None = None

-- the feed in a seal, if it holds one
abbrev pub feed_of : Option Content → Option KeptFeed
feed_of (Some (inl _)) = None
feed_of (Some (inr (inl x))) = Some x
feed_of (Some (inr (inr _))) = None
feed_of None = None

-- the sorter in a seal, if it holds one
abbrev pub sorter_of : Option Content → Option KeptSorter
sorter_of (Some (inl _)) = None
sorter_of (Some (inr (inl _))) = None
sorter_of (Some (inr (inr x))) = Some x
sorter_of None = None

-- a content as proofs hold it beside a pointer
abbrev pub content_coded : Coded Content
content_coded = coded⊎ Listener.the_row.coded (coded⊎ Feed.the_row.coded Sorter.the_row.coded)

-- the right to give a block of lent memory back, which is no right: such a block stays unused
abbrev pub may_free : Ty → Ptr → Fml
may_free _ _ = ftrue

-- what a box of the content owns, or nothing
abbrev pub seal_owns : Ptr → Option Content → Fml
seal_owns p (Some (inl x)) = box_owns may_free Listener.the_row p x
seal_owns p (Some (inr (inl x))) = box_owns may_free Feed.the_row p x
seal_owns p (Some (inr (inr x))) = box_owns may_free Sorter.the_row p x
seal_owns p None = ftrue

-- 1 for a value, 0 for none
abbrev pub flag : {A : Type 0} → Option A → ℕ
flag None = 0
flag (Some x) = 1
