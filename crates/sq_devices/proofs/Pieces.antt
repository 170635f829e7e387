-- Pieces and texts that are moved at once.
use Rattle.std.proofs.Common.{◌≡◌, ◌-◌, ◌≤◌, ◌++◌, ◌∙◌, ℕ, List, [], Bool, true, false, Option, Some, None}
use Rattle.std.proofs.Common.{length, take, drop, ap, sym, subst, arith, append-nil, take-append-drop, if◌then◌else◌}
use Rattle.std.proofs.lemmas.List.{drop_all, take_all, take-append-le, take-take, length-drop}
use Rattle.std.proofs.lemmas.Simd.{length-chunk, length-put_chunk, put_chunk_is, put_chunk_whole, take_more_put_chunk}
use Rattle.std.specs.Io.BufRead.{DropsConsumable}
use Rattle.std.specs.Io.KnownBytes.{Consumes, prepend_known}
use lib.Lanes.{chunk, put_chunk}

-- the first 32 bytes of a text and then its last 32 are the text
pub copied : (into text : List ℕ) → length into ≡ length text → 32 ≤ length text → length text ≤ 64
    → put_chunk (length text - 32) (put_chunk 0 into (chunk 0 32 text)) (chunk (length text - 32) 32 text) ≡ text
copied into text same least most =
    let at : ℕ = length text - 32 in
    let half : List ℕ = put_chunk 0 into (chunk 0 32 text) in
    let first : length (chunk 0 32 text) ≡ 32 = length-chunk 0 32 text (omega (arith, least)) in
    let last : length (chunk at 32 text) ≡ 32 = length-chunk at 32 text (omega (arith, least)) in
    let long : length half ≡ length text = length-put_chunk 0 into (chunk 0 32 text) ∙ same in
    let front : take at half ≡ take at text =
    sym (take-take at 32 half (omega (arith, most)))
    ∙ ap (take at) (take_more_put_chunk 0 into (chunk 0 32 text) 32 (omega (arith, first)) (omega (arith, same, least)))
    ∙ take-take at 32 text (omega (arith, most)) in
    let none : drop (length (chunk at 32 text)) (drop at half) ≡ [] =
    drop_all (length (chunk at 32 text)) (drop at half) (omega (arith, last, long, length-drop at half)) in
    put_chunk_is at half (chunk at 32 text) (omega (arith, last, long, least))
    ∙ ap (λ l. l ++ (chunk at 32 text ++ drop (length (chunk at 32 text)) (drop at half))) front
    ∙ ap (λ l. take at text ++ (chunk at 32 text ++ l)) none
    ∙ ap (λ l. take at text ++ l) (append-nil (chunk at 32 text))
    ∙ ap (λ l. take at text ++ l) (take_all 32 (drop at text) (omega (arith, length-drop at text)))
    ∙ take-append-drop at text

-- a piece into a place of its length
pub moved : (into bytes : List ℕ) → length into ≡ 64 → 64 ≤ length bytes
    → put_chunk 0 into (chunk 0 64 bytes) ≡ take 64 bytes
moved into bytes whole most =
    put_chunk_whole into (chunk 0 64 bytes) (omega (arith, whole, length-chunk 0 64 bytes (omega (arith, most))))

-- the first bytes of a buffer are the next ones to come
pub consumed : (none : Bool) (buffer : List ℕ) (known new : Option (List ℕ)) → 64 ≤ length buffer
    → DropsConsumable (if none then None else prepend_known buffer known) new (Some (length buffer)) 64
    → Consumes (if none then None else prepend_known buffer known) new (take 64 buffer)
consumed true buffer known new long drops = tt
consumed false buffer None new long drops = tt
consumed false buffer (Some after) new long drops =
    let front : take 64 (buffer ++ after) ≡ take 64 buffer = take-append-le 64 buffer after long in
    subst (λ n. Consumes (Some (buffer ++ after)) n (take 64 buffer)) (sym (drops long))
    (sym (take-append-drop 64 (buffer ++ after)) ∙ ap (λ l. l ++ drop 64 (buffer ++ after)) front)
