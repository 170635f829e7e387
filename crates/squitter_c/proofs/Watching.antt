-- The watch of timestamps in arrays.
use Rattle.std.proofs.Common.{◌≡◌, ◌+◌, ◌<◌, ◌≤◌, ◌⊎◌, ◌∙◌, ℕ, List, [], ◌∷◌, arith, drop, get_or, inl, inr, length, min, refl}
use Rattle.std.proofs.Common.{ap₂}
use Rattle.std.proofs.lemmas.Bool.{cases_lt}
use Rattle.std.proofs.lemmas.List.{drop_all, drop_more}
use Rattle.sq_feed.specs.Units.{Watched, watched}
use Rattle.squitter_c.specs.Units.{watched_arrays}

arrays_done : (w : Watched) (ms xs : List ℕ) → (ms ≡ []) ⊎ (xs ≡ []) → watched_arrays w ms xs ≡ w
unfolding watched_arrays
arrays_done w [] xs done = refl
arrays_done w (m ∷ ms) [] done = refl
arrays_done w (m ∷ ms) (x ∷ xs) (inl is) = absurd (cc is)
arrays_done w (m ∷ ms) (x ∷ xs) (inr is) = absurd (cc is)

arrays_next : (w : Watched) (m x : ℕ) (ms xs : List ℕ)
    → watched_arrays w (m ∷ ms) (x ∷ xs) ≡ watched_arrays (watched w m x) ms xs
unfolding watched_arrays
arrays_next w m x ms xs = refl

-- one element more
pub arrays_more : (w : Watched) (ms xs : List ℕ) (at : ℕ) → at < length ms → at < length xs
    → watched_arrays w (drop at ms) (drop at xs)
    ≡ watched_arrays (watched w (get_or ms at 0) (get_or xs at 0)) (drop (at + 1) ms) (drop (at + 1) xs)
arrays_more w ms xs at p q =
    ap₂ (watched_arrays w) (drop_more ms at 0 p) (drop_more xs at 0 q)
    ∙ arrays_next w (get_or ms at 0) (get_or xs at 0) (drop (at + 1) ms) (drop (at + 1) xs)

-- the end of the shorter list
pub arrays_end : (w : Watched) (ms xs : List ℕ) (at : ℕ) → min (length ms) (length xs) ≤ at
    → watched_arrays w (drop at ms) (drop at xs) ≡ w
arrays_end w ms xs at p =
    elim (cases_lt at (length ms)) [
      | inl q ↦ arrays_done w (drop at ms) (drop at xs) (inr (drop_all at xs (omega (arith, p, q))))
      | inr q ↦ arrays_done w (drop at ms) (drop at xs) (inl (drop_all at ms q))
    ]
