-- A text splits into the parts of an angle in at most one way, and in no way if its parts are not valid.
use Rattle.std.proofs.Common.{◌≡◌, ◌≢◌, ℕ, ◌≤◌, Bool, true, false, List, [], ◌∷◌, ◌++◌, length, refl, ap₂, ◌∙◌, sym}
use Rattle.std.proofs.Common.{arith}
use Rattle.std.specs.Bool.{OnFalse}
use Rattle.std.specs.Char.{IsAsciiDigit}
use Rattle.std.specs.List.{AllByRecursion}
use Rattle.sq_angle.specs.Spelling.{Parts, IsSpelling, Spells, minus, fraction}
use Rattle.sq_angle.specs.Points.{HasNoPoint, EndsInPoint, StandsAroundPoint}
use Rattle.sq_angle.specs.Laws.{OneSpelling}

-- equal lists begin with equal elements
same_head : (x y : ℕ) (xs ys : List ℕ) → x ∷ xs ≡ y ∷ ys → x ≡ y
same_head x y xs ys e = cc

-- equal lists have equal tails
same_tail : (x y : ℕ) (xs ys : List ℕ) → x ∷ xs ≡ y ∷ ys → xs ≡ ys
same_tail x y xs ys e = cc

-- digits contain no point
no_point : (xs : List ℕ) → AllByRecursion IsAsciiDigit xs → HasNoPoint xs
no_point [] a = tt
no_point (x ∷ xs) a = (λ e. let low = a.0.0 in omega arith, no_point xs a.1)

-- a fraction does not begin with a character other than a point
no_start : (ds : List ℕ) (y : ℕ) (ys : List ℕ) → y ≢ 46 → fraction ds ≡ y ∷ ys → ⊥
no_start [] y ys h e = cc
no_start (d ∷ ds) y ys h e = h (sym (same_head 46 y (d ∷ ds) ys e))

-- a fraction has at most one list of decimals
same_fraction : (ds es : List ℕ) → fraction ds ≡ fraction es → ds ≡ es
same_fraction [] [] e = refl
same_fraction [] (x ∷ es) e = cc
same_fraction (d ∷ ds) [] e = cc
same_fraction (d ∷ ds) (x ∷ es) e = same_tail 46 46 (d ∷ ds) (x ∷ es) e

-- a text splits around its first point in at most one way
pub one_split : (xs ys ds es : List ℕ) → HasNoPoint xs → HasNoPoint ys → xs ++ fraction ds ≡ ys ++ fraction es
    → (xs ≡ ys) × (ds ≡ es)
one_split [] [] ds es a b e = (refl, same_fraction ds es e)
one_split [] (y ∷ ys) ds es a b e = absurd (no_start ds y (ys ++ fraction es) b.0 e)
one_split (x ∷ xs) [] ds es a b e = absurd (no_start es x (xs ++ fraction ds) a.0 (sym e))
one_split (x ∷ xs) (y ∷ ys) ds es a b e =
    let r = one_split xs ys ds es a.1 b.1 (same_tail x y (xs ++ fraction ds) (ys ++ fraction es) e) in
    (ap₂ (λ (z : ℕ) (zs : List ℕ). z ∷ zs) (same_head x y (xs ++ fraction ds) (ys ++ fraction es) e) r.0, r.1)

-- a point without decimals is not a fraction
bare_point : (es : List ℕ) → 46 ∷ [] ≡ fraction es → ⊥
bare_point [] e = cc
bare_point (d ∷ ds) e = let f = same_tail 46 46 [] (d ∷ ds) e in cc

-- a text that ends in its first point is neither one with decimals nor one without a point
no_point_last : (xs ys es : List ℕ) → HasNoPoint xs → HasNoPoint ys → xs ++ 46 ∷ [] ≡ ys ++ fraction es → ⊥
no_point_last [] [] es a b e = bare_point es e
no_point_last [] (y ∷ ys) es a b e = b.0 (sym (same_head 46 y [] (ys ++ fraction es) e))
no_point_last (x ∷ xs) [] es a b e = no_start es x (xs ++ 46 ∷ []) a.0 (sym e)
no_point_last (x ∷ xs) (y ∷ ys) es a b e =
    no_point_last xs ys es a.1 b.1 (same_tail x y (xs ++ 46 ∷ []) (ys ++ fraction es) e)

-- a text that begins with a digit does not begin with a minus
no_minus : (xs : List ℕ) (ts us : List ℕ) → 1 ≤ length xs → AllByRecursion IsAsciiDigit xs → xs ++ ts ≡ 45 ∷ us → ⊥
no_minus [] ts us p a e = omega arith
no_minus (x ∷ xs) ts us p a e = let f = same_head x 45 (xs ++ ts) us e in let low = a.0.0 in omega arith

-- the parts as one record
abbrev pub made : Bool → List ℕ → List ℕ → Parts
made negative whole decimals = record { negative = negative; whole = whole; decimals = decimals }

-- the sign of a text and the rest after it are those of its parts
same_rest : (s t : Bool) (rest xs ds : List ℕ) → OnFalse s ((us : List ℕ) → ¬ (minus s ++ rest ≡ 45 ∷ us))
    → IsSpelling (made t xs ds)
    → minus s ++ rest ≡ minus t ++ xs ++ fraction ds → (s ≡ t) × (rest ≡ xs ++ fraction ds)
same_rest true true rest xs ds h a e = (refl, same_tail 45 45 rest (xs ++ fraction ds) e)
same_rest false false rest xs ds h a e = (refl, e)
same_rest true false rest xs ds h a e = absurd (no_minus xs (fraction ds) rest a.one a.whole_digits (sym e))
same_rest false true rest xs ds h a e = absurd (h (xs ++ fraction ds) e)

-- the sign of a text, and the rest after it
pub record IsTakenApart (text : List ℕ) (negative : Bool) (rest : List ℕ) : Type 0 where
  pub parts : text ≡ minus negative ++ rest
  pub other : OnFalse negative ((us : List ℕ) → ¬ (text ≡ 45 ∷ us))

-- the sign that is split off a text, and the rest, are those of its parts
rest_of_spelling : (text : List ℕ) (negative : Bool) (rest : List ℕ) (p : Parts) → IsTakenApart text negative rest
    → Spells text p → (negative ≡ p.negative) × (rest ≡ p.whole ++ fraction p.decimals)
rest_of_spelling text negative rest p h s =
    same_rest negative p.negative rest p.whole p.decimals (rw h.parts at h.other) s.0 (sym h.parts ∙ s.1)

-- if the rest ends in its first point, the text is not that of an angle
pub point_last_refused : (text : List ℕ) (negative : Bool) (rest : List ℕ) → IsTakenApart text negative rest
    → EndsInPoint rest → (p : Parts) → ¬ Spells text p
point_last_refused text negative rest h (whole, none, e) p s =
    let same = rest_of_spelling text negative rest p h s in
    no_point_last whole p.whole p.decimals none (no_point p.whole s.0.whole_digits) (sym e ∙ same.1)

-- the parts of a text are those that are split off it
pub parts_of_spelling : (text : List ℕ) (negative : Bool) (rest whole decimals : List ℕ)
    → IsTakenApart text negative rest → StandsAroundPoint rest whole decimals
    → (p : Parts) → Spells text p → made negative whole decimals ≡ p
parts_of_spelling text negative rest whole decimals h k p s =
    let same = rest_of_spelling text negative rest p h s in
    let split = one_split whole p.whole decimals p.decimals k.0 (no_point p.whole s.0.whole_digits)
    (sym k.1 ∙ same.1) in
    ap₂ (λ (t : Bool) (xs : List ℕ). made t xs decimals) same.0 split.0
    ∙ ap₂ (λ (xs ds : List ℕ). made p.negative xs ds) refl split.1

-- a text splits into the sign and the rest of its own parts
own_parts : (text : List ℕ) (p : Parts) → Spells text p → IsTakenApart text p.negative (p.whole ++ fraction p.decimals)
own_parts text p s = by p.negative p.whole p.decimals s.0 s.1
  where
    by : (t : Bool) (xs ds : List ℕ) → IsSpelling (made t xs ds) → text ≡ minus t ++ xs ++ fraction ds
        → IsTakenApart text t (xs ++ fraction ds)
    by true xs ds a e = record { parts = e; other = tt }
    by false xs ds a e = record {
      parts = e;
      other = λ us f. no_minus xs (fraction ds) us a.one a.whole_digits (sym e ∙ f);
    }

-- two lists of parts of a text are equal
pub one_spelling : OneSpelling
one_spelling text p q a b =
    parts_of_spelling text p.negative (p.whole ++ fraction p.decimals) p.whole p.decimals (own_parts text p a)
    (no_point p.whole a.0.whole_digits, refl) q b
