use Rattle.sq_feed.proofs.Ordering.{counts_the_late, gives_all, gives_the_first, sorts_stably, sorts_the_whole}
use Rattle.sq_feed.proofs.Rising.{always_rises, counts_all, gives_at_once, gives_in_order, in_time_is_not_late}
use Rattle.sq_feed.proofs.laws.orders_keep_all.Goals as goal

pub returns-clause-rises : goal.returns-clause-rises
returns-clause-rises c = always_rises

pub returns-clause-counted : goal.returns-clause-counted
returns-clause-counted c = counts_all

pub returns-clause-all : goal.returns-clause-all
returns-clause-all c = gives_all

pub returns-clause-late : goal.returns-clause-late
returns-clause-late c = counts_the_late

pub returns-clause-sorted : goal.returns-clause-sorted
returns-clause-sorted c = gives_in_order

pub returns-clause-in_time : goal.returns-clause-in_time
returns-clause-in_time c = in_time_is_not_late

pub returns-clause-stable : goal.returns-clause-stable
returns-clause-stable c = sorts_stably

pub returns-clause-whole : goal.returns-clause-whole
returns-clause-whole c = sorts_the_whole

pub returns-clause-first : goal.returns-clause-first
returns-clause-first c = gives_the_first

pub returns-clause-at_once : goal.returns-clause-at_once
returns-clause-at_once c = gives_at_once
