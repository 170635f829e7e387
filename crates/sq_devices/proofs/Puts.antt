-- A text that is put in several parts.
use Rattle.std.proofs.Common.{◌≡◌, ◌+◌, ◌-◌, ◌≤◌, ◌++◌, ◌∙◌, ℕ, List, [], ◌∷◌, Option, None, Some, length, take, drop}
use Rattle.std.proofs.Common.{ap, ap₂, sym, subst, refl, append-nil, take-append-drop}
use Rattle.std.proofs.lemmas.List.Folds.{concat-append}
use Rattle.std.proofs.Math.Seq.{take-add, take-append_seam}
use Rattle.std.proofs.lemmas.List.{take-take}
use Rattle.std.specs.Prelude.{◌↔◌}
use Rattle.std.specs.Io.KnownBytes.{Appends}
use Rattle.std.proofs.KnownBytes.{Appends-nil, Appends-trans}
use Rattle.sq_devices.specs.Calls.{Calls, HasPut}
use Rattle.sq_devices.specs.Device.{AppendsOrHides, KeepsOrHides, IsPrefixOf, WroteFront}
use Rattle.sq_devices.specs.declared.device.Sink.{Ghosts as SinkGhosts}

-- a prefix of the text, and then the first n bytes of the rest
pub take_front : (text : List ℕ) (at n : ℕ) → n ≤ length text - at
    → take at text ++ take n (take (length text - at) (drop at text)) ≡ take (at + n) text
take_front text at n fits =
    ap (λ part. take at text ++ part) (take-take n (length text - at) (drop at text) fits) ∙ sym (take-add at n text)

-- bytes that grew and then were kept or hidden
pub Appends-hidden : (a b c : Option (List ℕ)) (bs : List ℕ) → Appends a b bs → KeepsOrHides b c → AppendsOrHides a c bs
Appends-hidden None b c bs p q = tt
Appends-hidden (Some x) None c bs p q = absurd p
Appends-hidden (Some x) (Some y) None bs p q = tt
Appends-hidden (Some x) (Some y) (Some z) bs p q = q ∙ p

-- the put that fails leaves a prefix of the text
pub puts_part : (a b c : Option (List ℕ)) (text : List ℕ) (at : ℕ) → Appends a b (take at text) → KeepsOrHides b c
    → (part : List ℕ) × IsPrefixOf part text × AppendsOrHides a c part
puts_part a b c text at front kept =
    (take at text, (drop at text, sym (take-append-drop at text)), Appends-hidden a b c _ front kept)

-- a text begins with a part exactly if as many of its first bytes are that part
pub is_front : (part text : List ℕ) → IsPrefixOf part text ↔ (take (length part) text ≡ part)
is_front part text = (
  λ h. ap (take (length part)) h.1 ∙ take-append_seam part h.0,
  λ e. (
    drop (length part) text,
    sym (take-append-drop (length part) text) ∙ ap (λ xs. xs ++ drop (length part) text) e,
  ),
)

-- a prefix of a text that was appended is so many of its first bytes
pub wrote_front : (old new text : List ℕ) → WroteFront (Some old) (Some new) text
    ↔ ((count : ℕ) × (new ≡ old ++ take count text))
wrote_front old new text = (
  λ h. (length h.0, h.2 ∙ ap (λ xs. old ++ xs) (sym ((is_front h.0 text).0 h.1))),
  λ h. (take h.0 text, (drop h.0 text, sym (take-append-drop h.0 text)), h.1),
)

-- ---- calls, one after the other

pub calls_append : {D : Type 0} (One : D → List ℕ → D → Type 0) (a b c : D) (xs ys : List (List ℕ)) → Calls One a b xs
    → Calls One b c ys → Calls One a c (xs ++ ys)
calls_append One a b c [] ys first second = subst (λ d. Calls One d c ys) first second
calls_append One a b c (x ∷ xs) ys (next, one, first) second = (next, one, calls_append One next b c xs ys first second)

-- one call more
pub calls_more : {D : Type 0} (One : D → List ℕ → D → Type 0) (a b c : D) (xs : List (List ℕ)) (x : List ℕ)
    → Calls One a b xs → One b x c → Calls One a c (xs ++ x ∷ [])
calls_more One a b c xs x first one = calls_append One a b c xs (x ∷ []) first (c, one, refl)

-- nothing was put
pub HasPut-nil : {K : Type 0} (k : SinkGhosts K) (sink : K) → HasPut k sink sink []
HasPut-nil k sink = (Appends-nil (k.written sink), ([], refl, refl))

-- one text after the other
pub HasPut-trans : {K : Type 0} (k : SinkGhosts K) (a b c : K) (x y : List ℕ) → HasPut k a b x → HasPut k b c y
    → HasPut k a c (x ++ y)
HasPut-trans k a b c x y (first, (xs, put_x, is_x)) (second, (ys, put_y, is_y)) = (
  Appends-trans (k.written a) (k.written b) (k.written c) x y first second,
  (
    xs ++ ys,
    calls_append k.Took a b c xs ys put_x put_y,
    concat-append xs ys ∙ ap₂ (λ l m. l ++ m) is_x is_y,
  ),
)

-- one put
pub HasPut-one : {K : Type 0} (k : SinkGhosts K) (a b : K) (x : List ℕ) → Appends (k.written a) (k.written b) x
    → k.Took a x b → HasPut k a b x
HasPut-one k a b x grown took = (grown, (x ∷ [], (b, took, refl), append-nil x))

-- one more put makes the front longer
pub HasPut-more : {K : Type 0} (k : SinkGhosts K) (a b c : K) (text : List ℕ) (at n : ℕ) → n ≤ length text - at
    → HasPut k a b (take at text) → HasPut k b c (take n (take (length text - at) (drop at text)))
    → HasPut k a c (take (at + n) text)
HasPut-more k a b c text at n fits front part =
    subst (HasPut k a c) (take_front text at n fits) (HasPut-trans k a b c _ _ front part)

-- calls of two parts are one of each
pub two_calls : {D : Type 0} (One : D → List ℕ → D → Type 0) (a c : D) (x y : List ℕ)
    → Calls One a c (x ∷ y ∷ []) ↔ ((b : D) × One a x b × One b y c)
two_calls One a c x y = (
  λ calls. (calls.0, calls.1, subst (One calls.0 y) (sym calls.2.2) calls.2.1),
  λ both. (both.0, both.1, (c, both.2, refl)),
)
