-- Stores behind the front of a list.
use Rattle.std.proofs.Common.{◌≡◌, ℕ, ◌+◌, ◌<◌, ◌≤◌, List, [], ◌∷◌, ◌++◌, length, take, set, get_or, ap, sym, ◌∙◌}
use Rattle.std.proofs.Common.{subst, arith, append_assoc, length-take-le}
use Rattle.std.proofs.Math.Seq.{take-append-add}
use Rattle.std.proofs.lemmas.List.{take_more, take_more_set, take-take}

-- the bytes stored up to an index within the source
pub front_of : (new old source : List ℕ) (start count : ℕ) → start ≤ length old → count ≤ length source
    → take (start + length source) new ≡ take start old ++ source
    → take (start + count) new ≡ take start old ++ take count source
front_of new old source start count room within stored =
    let long : length (take start old) ≡ start = length-take-le start old room in
    let seam = take-append-add (take start old) source count in
    sym (take-take (start + count) (start + length source) new (omega arith))
    ∙ ap (λ t. take (start + count) t) stored
    ∙ ap (λ n. take (n + count) (take start old ++ source)) (sym long) ∙ seam
