-- An array that was filled in two calls: its first elements, and then elements after these.
use Rattle.std.proofs.Common.{◌≡◌, ◌≤◌, ◌++◌, ◌+◌, ◌∙◌, ℕ, List, ap, ap₂, arith, drop, length, subst, sym, take}
use Rattle.std.proofs.Common.{length-append}
use Rattle.std.proofs.Math.Seq.{drop-append-add, take-append-add}
use Rattle.std.proofs.lemmas.List.{drop-drop, length-take-le, take-append-drop}
use Rattle.sq_feed.specs.declared.message.Timed.{Timed}
use Rattle.sq_feed.specs.Feeds.{lines_of}
use Rattle.sq_feed.proofs.Feeding.{lines_of-append}
use Rattle.squitter_c.specs.FeedCalls.{IsFilled, squitters_of}
use Rattle.squitter_c.proofs.Columns.{squitters-append}

module _ {X : Type 0} (was first second : List X) (w v : ℕ) (one : IsFilled was first w)
    (two : IsFilled (drop w first) second v) where
  abbrev pub joined : List X
  joined = take w first ++ second

  front : length (take w first) ≡ w
  front = length-take-le w first one.fits

  pub joined_take : take (w + v) joined ≡ take w first ++ take v second
  joined_take = subst (λ n. take (n + v) joined ≡ take w first ++ take v second) front
      (take-append-add (take w first) second v)

  pub joined_drop : drop (w + v) joined ≡ drop v second
  joined_drop = subst (λ n. drop (n + v) joined ≡ drop v second) front (drop-append-add (take w first) second v)

  pub joined_long : length joined ≡ length first
  joined_long =
      length-append (take w first) second ∙ ap (λ n. length (take w first) + n) two.long
      ∙ sym (length-append (take w first) (drop w first)) ∙ ap length (take-append-drop w first)

  pub joined_filled : IsFilled was joined (w + v)
  joined_filled = record {
    fits =
        let long = length-append (take w first) second in
        let fits = two.fits in omega (arith, long, front, fits);
    long = joined_long ∙ one.long;
    rest = joined_drop ∙ two.rest ∙ ap (drop v) one.rest ∙ drop-drop v w was;
  }

-- the squitters in two columns that were filled in two calls
pub joined_squitters : (ms ns : List ℕ) (fs gs : List (List ℕ)) (w v : ℕ) → w ≤ length ms → w ≤ length fs
    → squitters_of (take w ms ++ take v ns) (take w fs ++ take v gs)
    ≡ squitters_of (take w ms) (take w fs) ++ squitters_of (take v ns) (take v gs)
joined_squitters ms ns fs gs w v fits fit =
    squitters-append (take w ms) (take v ns) (take w fs) (take v gs)
    (length-take-le w ms fits ∙ sym (length-take-le w fs fit))

-- the lines of squitters that were given in two calls
pub joined_lines : (a b : List ℕ) (told more : List Timed) → a ≡ lines_of told → b ≡ lines_of more
    → a ++ b ≡ lines_of (told ++ more)
joined_lines a b told more p q = ap₂ (λ x y. x ++ y) p q ∙ sym (lines_of-append told more)
