-- The ways in which a seal holds a listener, a feed and a sorter.
use Rattle.std.proofs.Common.{◌≡◌, refl, Option, Some, None, ap}
use Rattle.std.proofs.lemmas.Option.{none-some, same_Some}
use mathlib.Core.Logic.{inl, inr}
use denote.RawPtr.{Ptr}
use Rattle.std.specs.Box.Ownership.{box_owns}
use Rattle.sq_feed.specs.contracts.feed.Feed as Feed
use Rattle.sq_feed.proofs.feed.Feed.TheLaws as feed
use Rattle.squitter_c.specs.contracts.listener.Listener as Listener
use Rattle.squitter_c.proofs.listener.Listener.TheLaws as listener
use Rattle.squitter_c.specs.contracts.order_slot.Sorter as Sorter
use Rattle.squitter_c.proofs.order_slot.Sorter.TheLaws as sorter
use Rattle.squitter_c.specs.Seal.{Content, Kept, KeptFeed, KeptSorter, a_feed, a_listener, a_sorter, feed_of}
use Rattle.squitter_c.specs.Seal.{listener_of, may_free, sorter_of, seal_owns}
use Rattle.squitter_c.proofs.Sealing.{Kind}

pub listener_owned : (p : Ptr) (h : Option Content) (x : Kept) → listener_of h ≡ Some x
    → seal_owns p h ≡ box_owns may_free Listener.the_row p x
listener_owned p (Some (inl y)) x e = ap (box_owns may_free Listener.the_row p) (same_Some y x e)
listener_owned p (Some (inr y)) x e = absurd (none-some x e)
listener_owned p None x e = absurd (none-some x e)

abbrev pub of_listeners : Kind
of_listeners = record {
  row = Listener.the_row;
  laws = listener.the_row_laws;
  held = a_listener;
  found = listener_of;
  owned = listener_owned;
  same = λ x. refl;
}

pub feed_owned : (p : Ptr) (h : Option Content) (x : KeptFeed) → feed_of h ≡ Some x
    → seal_owns p h ≡ box_owns may_free Feed.the_row p x
feed_owned p (Some (inl y)) x e = absurd (none-some x e)
feed_owned p (Some (inr (inl y))) x e = ap (box_owns may_free Feed.the_row p) (same_Some y x e)
feed_owned p (Some (inr (inr y))) x e = absurd (none-some x e)
feed_owned p None x e = absurd (none-some x e)

abbrev pub of_feeds : Kind
of_feeds = record {
  row = Feed.the_row;
  laws = feed.the_row_laws;
  held = a_feed;
  found = feed_of;
  owned = feed_owned;
  same = λ x. refl;
}

pub sorter_owned : (p : Ptr) (h : Option Content) (x : KeptSorter) → sorter_of h ≡ Some x
    → seal_owns p h ≡ box_owns may_free Sorter.the_row p x
sorter_owned p (Some (inl y)) x e = absurd (none-some x e)
sorter_owned p (Some (inr (inl y))) x e = absurd (none-some x e)
sorter_owned p (Some (inr (inr y))) x e = ap (box_owns may_free Sorter.the_row p) (same_Some y x e)
sorter_owned p None x e = absurd (none-some x e)

abbrev pub of_sorters : Kind
of_sorters = record {
  row = Sorter.the_row;
  laws = sorter.the_row_laws;
  held = a_sorter;
  found = sorter_of;
  owned = sorter_owned;
  same = λ x. refl;
}
