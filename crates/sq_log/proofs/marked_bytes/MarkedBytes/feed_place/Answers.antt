use Rattle.std.proofs.Common.{◌≡◌, ◌+◌, ◌-◌, ◌^◌, ◌<◌, ◌≤◌, ℕ, List, arith, eq-zero-or-pos, inl, inr, length, rules, subst, sym}
use Rattle.sq_log.specs.Lines.{MarksFeeds}
use Rattle.sq_log.specs.Marked.{waiting_of}
use Rattle.sq_log.specs.Windows.{feed_place}
use Rattle.sq_log.proofs.FeedMarks.{first_place, none_marked}
use Rattle.sq_log.proofs.Windows.{length-between}
use Rattle.sq_log.proofs.marked_bytes.MarkedBytes.feed_place.Goals as goal

pub returns : goal.returns
returns c =
    let window = c.args.self.now in
    let waiting : List ℕ = waiting_of window in
    let long : length waiting ≡ 65 + window.count - window.at =
    length-between window.at (65 + window.count) window.bytes (search rules) (search rules) in
    let some : 0 < window.feeds = elim (eq-zero-or-pos window.feeds) [
      | inl none ↦
          let all : length waiting ≤ feed_place waiting =
          none_marked waiting (search rules) (subst (λ m. MarksFeeds m waiting) none window.marked) in
          absurd (omega (arith, all, c.requires))
      | inr some ↦ some
    ] in
    let first = first_place waiting window.feeds some (search rules)
    (subst (λ n. window.feeds < 2 ^ n) (sym long) window.small) (search rules) window.marked in
    record { first = first.1; there = first.0 }
