use Rattle.std.proofs.Common.{◌≡◌, ◌+◌, ◌-◌, ◌^◌, ◌<◌, ◌≤◌, ◌/◌, ◌∙◌, ℕ, List, ap, arith, length, rules, subst, sym}
use Rattle.sq_log.specs.Marked.{waiting_of}
use Rattle.sq_log.specs.Windows.{between}
use Rattle.sq_log.proofs.FeedMarks.{shifted_small}
use Rattle.sq_log.proofs.Fronts.{part_none}
use Rattle.sq_log.proofs.Windows.{length-between, marks_on, waits_on}
use Rattle.sq_log.proofs.marked_bytes.MarkedBytes.pass.Goals as goal

pub invariant_of-self-clause-within : goal.invariant_of-self-clause-within
invariant_of-self-clause-within c =
    let window = c.args.self.now in
    let waiting : List ℕ = waiting_of window in
    let long : length waiting ≡ 65 + window.count - window.at =
    length-between window.at (65 + window.count) window.bytes (search rules) (search rules) in
    let here : ℕ = c.args.place in
    let next : window.at + (here + 1) ≤ 65 + window.count = omega (arith, c.requires.there, long, window.within) in
    omega (arith, next)

pub invariant_of-self-clause-marked : goal.invariant_of-self-clause-marked
invariant_of-self-clause-marked c =
    let window = c.args.self.now in
    let waiting : List ℕ = waiting_of window in
    let long : length waiting ≡ 65 + window.count - window.at =
    length-between window.at (65 + window.count) window.bytes (search rules) (search rules) in
    let here : ℕ = c.args.place in
    let next : window.at + (here + 1) ≤ 65 + window.count = omega (arith, c.requires.there, long, window.within) in
    (marks_on window.bytes window.at (65 + window.count) here window.feeds (omega (arith, next)) window.marked)

pub invariant_of-self-clause-small : goal.invariant_of-self-clause-small
invariant_of-self-clause-small c =
    let window = c.args.self.now in
    let waiting : List ℕ = waiting_of window in
    let long : length waiting ≡ 65 + window.count - window.at =
    length-between window.at (65 + window.count) window.bytes (search rules) (search rules) in
    let here : ℕ = c.args.place in
    let next : window.at + (here + 1) ≤ 65 + window.count = omega (arith, c.requires.there, long, window.within) in
    let left : 65 + window.count - window.at - (here + 1) ≡ 65 + window.count - (window.at + here + 1) = omega arith in
    subst (λ n. window.feeds / 2 ^ here / 2 < 2 ^ n) left
    (shifted_small window.feeds (65 + window.count - window.at) here (omega (arith, next, window.within)) window.small)

pub returns-clause-front : goal.returns-clause-front
returns-clause-front c = sym (part_none c.args.self.now.bytes (c.args.self.now.at + c.args.place + 1))

pub returns-clause-waiting : goal.returns-clause-waiting
returns-clause-waiting c =
    let window = c.args.self.now in
    let waiting : List ℕ = waiting_of window in
    let long : length waiting ≡ 65 + window.count - window.at =
    length-between window.at (65 + window.count) window.bytes (search rules) (search rules) in
    let here : ℕ = c.args.place in
    let next : window.at + (here + 1) ≤ 65 + window.count = omega (arith, c.requires.there, long, window.within) in
    let same : window.at + here + 1 ≡ window.at + (here + 1) = omega arith in
    ap (λ n. between n (65 + window.count) window.bytes) same
    ∙ waits_on window.bytes window.at (65 + window.count) (here + 1) next
