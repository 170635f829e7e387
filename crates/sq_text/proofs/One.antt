-- A text has at most one result.
use Rattle.std.proofs.Common.{◌≡◌, ◌<◌, ℕ, List, [], ◌∷◌, ◌++◌, length, take, get_or, true, Result, Ok, Err}
use Rattle.std.proofs.Common.{MatchResult, refl, sym, ◌∙◌, ap, subst, arith, inl, inr}
use Rattle.std.proofs.lemmas.List.{same_from_push, length-take-le, get_or-take}
use Rattle.std.proofs.lemmas.Bool.{cases_order}
use Rattle.std.specs.Prelude.{slice_index}
use Rattle.hex.specs.Hex.{decode_of, is_hex_digit}
use Rattle.hex.proofs.HexLemmas.{decode_of-ok}
use Rattle.sq_bits.specs.declared.frame.Frame.{Frame}
use Rattle.sq_text.specs.declared.frame_text.TextFault.{TextFault}
use Rattle.sq_text.specs.declared.frame_text.TextFault.TheVariants.{Wrap, Short, Length, Digit}
use Rattle.sq_text.specs.FrameText.{IsBody, IsHalfWrapped, IsFrameText, IsTextFault, IsFirstBadDigit}

-- a text has at most one body
one_body : (text a b : List ℕ) → IsBody text a → IsBody text b → a ≡ b
one_body text a b (inl x) (inl y) =
    let same : a ++ 59 ∷ [] ≡ b ++ 59 ∷ [] = cc (sym x ∙ y) in
    (same_from_push a b 59 59 same).0
one_body text a b (inl x) (inr y) = absurd (y.0 (a ++ 59 ∷ [], x))
one_body text a b (inr x) (inl y) = absurd (x.0 (b ++ 59 ∷ [], y))
one_body text a b (inr x) (inr y) = sym x.2 ∙ y.2

-- a text with a body is not half wrapped
not_half : (text a : List ℕ) → IsBody text a → IsHalfWrapped text → ⊥
not_half text a (inl x) (inl h) = h.1 (42 ∷ a, x)
not_half text a (inl x) (inr h) = h.1 (a ++ 59 ∷ [], x)
not_half text a (inr x) (inl h) = x.0 h.0
not_half text a (inr x) (inr h) = x.1 h.0

-- a body that decodes has no bad digit
no_bad_digit : (body : List ℕ) (bytes : List ℕ) (k : ℕ) → decode_of body ≡ Ok bytes → IsFirstBadDigit body k → ⊥
no_bad_digit body bytes k gives bad =
    let all = (decode_of-ok body bytes gives).1 in
    let good : is_hex_digit (slice_index body k) ≡ true = all k 0 bad.0 in
    cc (sym good ∙ bad.1)

not_before : (body : List ℕ) (j k : ℕ) → IsFirstBadDigit body j → IsFirstBadDigit body k → j < k → ⊥
not_before body j k x y less =
    let long : length (take k body) ≡ k = length-take-le k body (omega arith) in
    let at : is_hex_digit (get_or (take k body) j 0) ≡ true = y.2 j 0 (omega arith) in
    let good : is_hex_digit (get_or body j 0) ≡ true =
    subst (λ x. is_hex_digit x ≡ true) (get_or-take k body j 0 less) at in
    cc (sym good ∙ x.1)

one_bad_digit : (body : List ℕ) (j k : ℕ) → IsFirstBadDigit body j → IsFirstBadDigit body k → j ≡ k
one_bad_digit body j k x y = elim (cases_order j k) [
  | inl same ↦ same
  | inr (inl less) ↦ absurd (not_before body j k x y less)
  | inr (inr more) ↦ absurd (not_before body k j y x more)
]

pub same_text : (text : List ℕ) (f g : Frame) → IsFrameText text f → IsFrameText text g → f ≡ g
same_text text f g (a, x, _, p) (b, y, _, q) =
    let body = one_body text a b x y in
    let bytes : f.0 ≡ g.0 = cc (sym p ∙ ap decode_of body ∙ q) in
    λ i. record { 0 = bytes i }

pub no_fault : (text : List ℕ) (f : Frame) (e : TextFault) → IsFrameText text f → IsTextFault text e → ⊥
no_fault text f Wrap (a, x, long, p) h = not_half text a x h
no_fault text f Short (a, x, long, p) (b, y, short) = let body = ap length (one_body text a b x y) in omega arith
no_fault text f (Length n) (a, x, long, p) (b, y, is, _, other) =
    let body = ap length (one_body text a b x y) in other (omega arith)
no_fault text f (Digit n) (a, x, long, p) (b, y, _, (k, _, bad)) =
    no_bad_digit b f.0 k (ap decode_of (sym (one_body text a b x y)) ∙ p) bad

pub same_fault : (text : List ℕ) (d e : TextFault) → IsTextFault text d → IsTextFault text e → d ≡ e
same_fault text Wrap Wrap x y = refl
same_fault text Wrap Short x (b, y, _) = absurd (not_half text b y x)
same_fault text Wrap (Length n) x (b, y, _, _, _) = absurd (not_half text b y x)
same_fault text Wrap (Digit n) x (b, y, _, _) = absurd (not_half text b y x)
same_fault text Short Wrap (a, x, _) y = absurd (not_half text a x y)
same_fault text Short Short x y = refl
same_fault text Short (Length n) (a, x, is) (b, y, long, other, _) =
    let body = ap length (one_body text a b x y) in absurd (other (omega arith))
same_fault text Short (Digit n) (a, x, is) (b, y, long, _) =
    let body = ap length (one_body text a b x y) in absurd (omega arith)
same_fault text (Length m) Wrap (a, x, _, _, _) y = absurd (not_half text a x y)
same_fault text (Length m) Short (a, x, is, other, _) (b, y, long) =
    let body = ap length (one_body text a b x y) in absurd (other (omega arith))
same_fault text (Length m) (Length n) (a, x, is, _, _) (b, y, long, _, _) =
    let body = ap length (one_body text a b x y) in ap Length (omega arith)
same_fault text (Length m) (Digit n) (a, x, is, _, other) (b, y, long, _) =
    let body = ap length (one_body text a b x y) in absurd (other (omega arith))
same_fault text (Digit m) Wrap (a, x, _, _) y = absurd (not_half text a x y)
same_fault text (Digit m) Short (a, x, is, _) (b, y, long) =
    let body = ap length (one_body text a b x y) in absurd (omega arith)
same_fault text (Digit m) (Length n) (a, x, is, _) (b, y, long, _, other) =
    let body = ap length (one_body text a b x y) in absurd (other (omega arith))
same_fault text (Digit m) (Digit n) (a, x, _, (j, is, bad)) (b, y, _, (k, is', bad')) =
    let place = one_bad_digit b j k (subst (λ c. IsFirstBadDigit c j) (one_body text a b x y) bad) bad' in
    ap Digit (omega arith)

-- a text has at most one result
pub one_answer : (text : List ℕ) (r s : Result Frame TextFault) → MatchResult r (IsFrameText text) (IsTextFault text)
    → MatchResult s (IsFrameText text) (IsTextFault text) → r ≡ s
one_answer text (Ok f) (Ok g) x y = ap Ok (same_text text f g x y)
one_answer text (Ok f) (Err e) x y = absurd (no_fault text f e x y)
one_answer text (Err d) (Ok g) x y = absurd (no_fault text g d y x)
one_answer text (Err d) (Err e) x y = ap Err (same_fault text d e x y)
