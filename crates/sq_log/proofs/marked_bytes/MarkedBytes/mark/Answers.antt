use Rattle.std.proofs.Common.{◌≡◌, ◌+◌, ◌-◌, ◌^◌, ◌<◌, ◌≤◌, ◌∙◌, ℕ, List, ap, arith, drop, length, subst, sym, take}
use Rattle.std.proofs.lemmas.List.{length-take}
use Rattle.sq_log.specs.Lines.{MarksFeeds}
use Rattle.sq_log.specs.Windows.{between}
use Rattle.sq_log.proofs.FeedMarks.{marks_same}
use Rattle.sq_log.proofs.Windows.{marks_part}
use Rattle.sq_log.proofs.marked_bytes.MarkedBytes.mark.Goals as goal

pub invariant_of-self-clause-marked : goal.invariant_of-self-clause-marked
invariant_of-self-clause-marked c =
    let count : ℕ = c.args.count in
    let bytes : List ℕ = c.args.self.now.bytes in
    let few : ℕ = c.front_marks-self.result in
    let long : length (between 65 (65 + count) bytes) ≤ count =
    omega (arith, length-take (65 + count - 65) (drop 65 bytes)) in
    subst (λ n. MarksFeeds few (between n (65 + count) bytes)) (sym c.requires.at)
    (marks_same (between 65 (65 + count) bytes) few c.feeds_of.result
    (λ k within. c.front_marks-self.ensures.same k (omega (arith, within, long)))
    (marks_part bytes count c.feeds_of.result c.requires.few c.feeds_of.ensures))

pub invariant_of-self-clause-small : goal.invariant_of-self-clause-small
invariant_of-self-clause-small c =
    let count : ℕ = c.args.count in
    let same : count ≡ 65 + count - 65 = omega arith in
    subst (λ n. c.front_marks-self.result < 2 ^ (65 + count - n)) (sym c.requires.at)
    (subst (λ n. c.front_marks-self.result < 2 ^ n) same c.front_marks-self.ensures.small)

pub returns-clause-waiting : goal.returns-clause-waiting
returns-clause-waiting c =
    let count : ℕ = c.args.count in
    let bytes : List ℕ = c.args.self.now.bytes in
    let same : 65 + count - 65 ≡ count = omega arith in
    ap (λ n. between n (65 + count) bytes) c.requires.at ∙ ap (λ n. take n (drop 65 bytes)) same
