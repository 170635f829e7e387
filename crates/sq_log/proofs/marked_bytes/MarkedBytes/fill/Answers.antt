use Rattle.std.proofs.Common.{◌≡◌, ◌∙◌, ℕ, List, ap, arith, length, rules, sym, take}
use Rattle.std.proofs.lemmas.List.{length-take}
use lib.Lanes.{chunk, put_chunk}
use borrow.Rule.Slice.PartMut.{mid_of, put_mid}
use Rattle.sq_log.specs.Windows.{between}
use Rattle.sq_log.proofs.Windows.{behind_put, front_put, whole_put}
use Rattle.sq_log.proofs.marked_bytes.MarkedBytes.fill.Goals as goal

pub returns-clause-waiting : goal.returns-clause-waiting
returns-clause-waiting c =
    let old : List ℕ = c.args.self.now.bytes in
    let piece : List ℕ = c.args.piece.now in
    let all : length old ≡ 129 = search rules in
    let put : List ℕ = put_chunk 0 (mid_of 65 64 old) (chunk 0 64 piece) in
    let is : put ≡ take 64 piece = whole_put old piece all c.requires.long in
    c.mark.ensures.waiting
    ∙ behind_put 64 64 old put (omega (arith, all))
    (omega (arith, ap length is, length-take 64 piece, c.requires.long)) ∙ is

pub returns-clause-front : goal.returns-clause-front
returns-clause-front c =
    let window = c.args.self.now in
    let old : List ℕ = window.bytes in
    let all : length old ≡ 129 = search rules in
    let put : List ℕ = put_chunk 0 (mid_of 65 64 old) (chunk 0 64 c.args.piece.now) in
    c.mark.ensures.front
    ∙ ap (λ n. between window.begin n (put_mid 65 64 old put)) c.requires.at
    ∙ front_put 64 window.begin old put (omega (arith, all)) (search rules)
    ∙ ap (λ n. between window.begin n old) (sym c.requires.at)
