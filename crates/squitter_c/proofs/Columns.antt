-- Squitters in two columns.
use Rattle.std.proofs.Common.{◌≡◌, ◌<◌, ◌++◌, ◌+◌, ◌∙◌, ℕ, List, [], ◌∷◌, ap, ap₂, arith, drop}
use Rattle.std.proofs.Common.{get_or, length, length-take, refl, set, take}
use Rattle.std.proofs.lemmas.Grind.{drop_more_same}
use Rattle.std.proofs.lemmas.List.{drop-set-lt, take_more, take_more_set}
use Rattle.sq_feed.specs.declared.message.Timed.{Timed}
use Rattle.squitter_c.specs.FeedCalls.{squitters_of}

pub squitters-append : (ms ns : List ℕ) (fs gs : List (List ℕ)) → length ms ≡ length fs
    → squitters_of (ms ++ ns) (fs ++ gs) ≡ squitters_of ms fs ++ squitters_of ns gs
squitters-append [] ns [] gs long = refl
squitters-append [] ns (f ∷ fs) gs long = absurd (omega (arith, long))
squitters-append (m ∷ ms) ns [] gs long = absurd (omega (arith, long))
squitters-append (m ∷ ms) ns (f ∷ fs) gs long =
    ap (λ l. record { moment = m; frame = f } ∷ l) (squitters-append ms ns fs gs (omega (arith, long)))

same_long : (ms : List ℕ) (fs : List (List ℕ)) (k : ℕ) → k < length ms → k < length fs
    → length (take k ms) ≡ length (take k fs)
same_long ms fs k fits fit = omega (arith, length-take k ms, length-take k fs)

pub squitters_more : (ms : List ℕ) (fs : List (List ℕ)) (k any : ℕ) (other : List ℕ) → k < length ms → k < length fs
    → squitters_of (take (k + 1) ms) (take (k + 1) fs)
    ≡ squitters_of (take k ms) (take k fs) ++ record { moment = get_or ms k any; frame = get_or fs k other } ∷ []
squitters_more ms fs k any other fits fit =
    ap₂ squitters_of (take_more ms k any fits) (take_more fs k other fit)
    ∙ squitters-append (take k ms) (get_or ms k any ∷ []) (take k fs) (get_or fs k other ∷ [])
    (same_long ms fs k fits fit)

pub squitters_set : (ms : List ℕ) (fs : List (List ℕ)) (k : ℕ) (one : Timed) → k < length ms → k < length fs
    → squitters_of (take (k + 1) (set ms k one.moment)) (take (k + 1) (set fs k one.frame))
    ≡ squitters_of (take k ms) (take k fs) ++ one ∷ []
squitters_set ms fs k one fits fit =
    ap₂ squitters_of (take_more_set ms k one.moment fits) (take_more_set fs k one.frame fit)
    ∙ squitters-append (take k ms) (one.moment ∷ []) (take k fs) (one.frame ∷ []) (same_long ms fs k fits fit)

-- the elements after the one that was written are unchanged
pub rest_set : {X : Type 0} (xs ys : List X) (k : ℕ) (x : X) → drop k xs ≡ drop k ys
    → drop (k + 1) (set xs k x) ≡ drop (k + 1) ys
rest_set xs ys k x same = drop-set-lt (k + 1) xs k x (omega arith) ∙ drop_more_same xs ys k same
