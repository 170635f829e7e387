-- The watch of the unit over several frames.
use Rattle.std.proofs.Common.{◌≡◌, ◌++◌, ◌∙◌, List, [], ◌∷◌, ap, refl, sym}
use Rattle.sq_feed.specs.Units.{Watched, watched_all, watched_one}
use Rattle.sq_feed.specs.declared.message.Timed.{Timed}

pub watched_none : (w : Watched) → watched_all w [] ≡ w
unfolding watched_all
watched_none w = refl

pub watched_more : (w : Watched) (xs ys : List Timed) → watched_all w (xs ++ ys) ≡ watched_all (watched_all w xs) ys
unfolding watched_all
watched_more w [] ys = refl
watched_more w (x ∷ xs) ys = watched_more (watched_one w x) xs ys

-- a squitter more
pub watched_on : (start old new : Watched) (before told : List Timed) (one : Timed) → old ≡ watched_all start before
    → new ≡ watched_one old one → one ∷ [] ≡ told → new ≡ watched_all start (before ++ told)
unfolding watched_all
watched_on start old new before told one is heard came =
    heard ∙ ap (λ w. watched_all w (one ∷ [])) is
    ∙ ap (λ l. watched_all (watched_all start before) l) came
    ∙ sym (watched_more start before told)
