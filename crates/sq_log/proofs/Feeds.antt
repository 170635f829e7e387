-- The first line feed of a piece.
use Rattle.std.proofs.Common.{◌≡◌, ◌+◌, ◌<◌, ◌≤◌, ◌++◌, ◌∙◌, inl, inr, ℕ, List, [], ◌∷◌, length, take, get_or, Some}
use Rattle.std.proofs.Common.{None, ap, arith, cond}
use Rattle.std.specs.Prelude.{position}
use Rattle.std.specs.List.{position_or_len, before_first}
use Rattle.std.proofs.lemmas.Bool.{cases_lt, lt-ltb, eqb-true}
use Rattle.std.proofs.lemmas.List.{take_all, take_more, get_or-take, length-take-le}
use Rattle.std.proofs.lemmas.List.Sums.{prefix_len-le-length, fails_before_first, passes_at_first}
use Rattle.sq_log.specs.Lines.{is_feed, HasNoFeed}

abbrev place : List ℕ → ℕ
place piece = position_or_len is_feed piece

abbrev pub place-le : (piece : List ℕ) → place piece ≤ length piece
place-le piece = prefix_len-le-length _ piece

pub no_place : (piece : List ℕ) → position is_feed piece ≡ None → length piece ≡ place piece
no_place piece none =
    elim (cases_lt (place piece) (length piece)) [
      | inl there ↦
          let some : position is_feed piece ≡ Some (place piece) =
          ap (λ b. cond b (Some (place piece)) None) (lt-ltb _ _ there) in
          cc
      | inr past ↦ let within = place-le piece in omega arith
    ]

-- no line feed stands before the first
pub before_has_none : (piece : List ℕ) → HasNoFeed (before_first is_feed piece)
before_has_none piece k d here =
    let below : k < place piece = omega (arith, length-take-le (place piece) piece (place-le piece)) in
    ap is_feed (get_or-take (place piece) piece k d below) ∙ fails_before_first is_feed piece k d below

pub all_before : (piece : List ℕ) → length piece ≤ place piece → before_first is_feed piece ≡ piece
all_before piece past = take_all (place piece) piece past

pub through_first : (piece : List ℕ) → place piece < length piece
    → take (place piece + 1) piece ≡ before_first is_feed piece ++ 10 ∷ []
through_first piece there =
    take_more piece (place piece) 0 there
    ∙ ap (λ b. take (place piece) piece ++ b ∷ [])
    (eqb-true (get_or piece (place piece) 0) 10 (passes_at_first is_feed piece 0 there))
