use Rattle.std.proofs.Common.{◌≡◌, ◌+◌, ◌-◌, ◌^◌, ◌<◌, ◌≤◌, ℕ, List, arith, length, nat_eq, rules, subst, sym}
use Rattle.std.proofs.lemmas.Bool.{eqb-false, eqb-true, not-false, not-true}
use Rattle.sq_log.specs.Lines.{HasNoFeed, MarksFeeds}
use Rattle.sq_log.specs.Marked.{waiting_of}
use Rattle.sq_log.specs.Windows.{feed_place}
use Rattle.sq_log.proofs.FeedMarks.{first_place, none_marked}
use Rattle.sq_log.proofs.Feeds.{all_before, before_has_none}
use Rattle.sq_log.proofs.Windows.{length-between}
use Rattle.sq_log.proofs.marked_bytes.MarkedBytes.has_feed.Goals as goal

pub returns-clause-none : goal.returns-clause-none
returns-clause-none c is =
    let window = c.args.self.now in
    let waiting : List ℕ = waiting_of window in
    let long : length waiting ≡ 65 + window.count - window.at =
    length-between window.at (65 + window.count) window.bytes (search rules) (search rules) in
    let none : window.feeds ≡ 0 = eqb-true window.feeds 0 (not-false (nat_eq window.feeds 0) is) in
    let all : length waiting ≤ feed_place waiting =
    none_marked waiting (search rules) (subst (λ m. MarksFeeds m waiting) none window.marked) in
    subst HasNoFeed (all_before waiting all) (before_has_none waiting)

pub returns-clause-some : goal.returns-clause-some
returns-clause-some c is =
    let window = c.args.self.now in
    let waiting : List ℕ = waiting_of window in
    let long : length waiting ≡ 65 + window.count - window.at =
    length-between window.at (65 + window.count) window.bytes (search rules) (search rules) in
    let some : 0 < window.feeds = omega (arith, eqb-false window.feeds 0 (not-true (nat_eq window.feeds 0) is)) in
    let first = first_place waiting window.feeds some (search rules)
    (subst (λ n. window.feeds < 2 ^ n) (sym long) window.small) (search rules) window.marked in
    subst (λ n. n < length waiting) first.1 first.0
