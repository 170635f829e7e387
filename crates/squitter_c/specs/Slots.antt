-- What C holds in a slot.
use Rattle.std.specs.Prelude.{Option, option_map}
use Rattle.sq_feed.specs.Orders.{Sorting}
use Rattle.squitter_c.specs.declared.feed_slot.FeedSlot.{FeedSlot}
use Rattle.squitter_c.specs.declared.order_slot.OrderSlot.{OrderSlot}
use Rattle.squitter_c.specs.declared.slot.Slot.{Slot}
use Rattle.squitter_c.specs.Seal.{Kept, KeptFeed, feed_of, listener_of, sorter_of}

abbrev pub held_listener : Slot → Option Kept
held_listener slot = listener_of slot.seal.held

abbrev pub held_feed : FeedSlot → Option KeptFeed
held_feed slot = feed_of slot.seal.held

abbrev pub held_order : OrderSlot → Option Sorting
held_order slot = option_map (λ k. k.order) (sorter_of slot.seal.held)
