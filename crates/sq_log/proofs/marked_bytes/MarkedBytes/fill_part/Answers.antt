use Rattle.std.proofs.Common.{◌≡◌, ◌+◌, ◌-◌, ◌∙◌, ℕ, List, ap, arith, drop, length, rules, sym, take}
use borrow.Rule.Slice.PartMut.{put_mid}
use Rattle.sq_log.specs.Windows.{between}
use Rattle.sq_log.proofs.Windows.{behind_put, front_put}
use Rattle.sq_log.proofs.marked_bytes.MarkedBytes.fill_part.Goals as goal

pub returns-clause-waiting : goal.returns-clause-waiting
returns-clause-waiting c =
    let old : List ℕ = c.args.self.now.bytes in
    let count : ℕ = length c.args.piece.now in
    let put : List ℕ = c.copy_from_slice.new.self in
    let all : length old ≡ 129 = search rules in
    let same : count ≡ 65 + count - 65 = omega arith in
    c.mark.ensures.waiting ∙ ap (λ n. take n (drop 65 (put_mid 65 (65 + count - 65) old put))) same
    ∙ behind_put (65 + count - 65) count old put (omega (arith, all)) (search rules) ∙ search rules

pub returns-clause-front : goal.returns-clause-front
returns-clause-front c =
    let window = c.args.self.now in
    let old : List ℕ = window.bytes in
    let count : ℕ = length c.args.piece.now in
    let put : List ℕ = c.copy_from_slice.new.self in
    let all : length old ≡ 129 = search rules in
    c.mark.ensures.front
    ∙ ap (λ n. between window.begin n (put_mid 65 (65 + count - 65) old put)) c.requires.at
    ∙ front_put (65 + count - 65) window.begin old put (omega (arith, all)) (search rules)
    ∙ ap (λ n. between window.begin n old) (sym c.requires.at)
