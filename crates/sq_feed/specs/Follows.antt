-- Taking bytes in order.
use Rattle.std.specs.Prelude.{◌≡◌, ◌++◌, ℕ, List}
use Rattle.sq_feed.specs.declared.message.Found.{Found}

-- With any continuation, `old` gives these items for these bytes, and then those that `new` gives. Both map the bytes
-- to come to their items.
unfoldable pub Follows : (List ℕ → List Found) → List ℕ → List Found → (List ℕ → List Found) → Type 0
Follows old bytes found new = (more : List ℕ) → old (bytes ++ more) ≡ found ++ new more

-- How bytes are cut does not matter: bytes that are taken in two calls give the items of both.
abbrev pub FollowsMore : Type 0
FollowsMore = (old mid new : List ℕ → List Found) (a b : List ℕ) (xs ys : List Found)
    → Follows old a xs mid → Follows mid b ys new → Follows old (a ++ b) (xs ++ ys) new
