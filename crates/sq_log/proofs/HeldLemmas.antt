-- What a cutter holds after more bytes of its line.
use Rattle.std.proofs.Common.{◌≡◌, ◌+◌, ◌-◌, ◌<◌, ◌≤◌, ◌++◌, ◌∙◌, inl, inr, ℕ, true, List, [], ◌∷◌, length, take, ap}
use Rattle.std.proofs.Common.{sym, subst, arith, append-nil, length-append, length-take-le}
use Rattle.std.proofs.lemmas.List.{take_all, take-append-le}
use Rattle.std.proofs.Math.Seq.{take-append-add}
use Rattle.std.proofs.lemmas.Bool.{cases_lt, lt-ltb, le-ltb}
use Rattle.sq_log.specs.Rests.{HeldLine, Holds}

-- the first part of a line that is longer than 64 bytes is full
full : (old : HeldLine) (line : List ℕ) → Holds old line → 64 < length line → length old.line ≡ 64
full old line h over = ap length h.front ∙ length-take-le 64 line (omega arith)

-- a line of at most 64 bytes is held whole
whole : (old : HeldLine) (line : List ℕ) → Holds old line → length line ≤ 64 → old.line ≡ line
whole old line h short = h.front ∙ take_all 64 line short

-- nothing is added
holds_same : (old new : HeldLine) (line : List ℕ) → Holds old line → new.line ≡ old.line ++ []
    → new.is_long ≡ old.is_long → Holds new (line ++ [])
holds_same old new line h grown same =
    subst (Holds new) (sym (append-nil line))
    (record { front = grown ∙ append-nil old.line ∙ h.front; more = same ∙ h.more })

holds_fitting_short : (old new : HeldLine) (line bytes : List ℕ) → Holds old line → length line ≤ 64
    → length bytes ≤ 64 - length old.line
    → new.line ≡ old.line ++ bytes → new.is_long ≡ old.is_long → Holds new (line ++ bytes)
holds_fitting_short old new line bytes h short fits grown same =
    let held = whole old line h short in
    let room : length (line ++ bytes) ≤ 64 = omega (arith, ap length held, length-append line bytes) in
    record {
      front = grown ∙ ap (λ l. l ++ bytes) held ∙ sym (take_all 64 (line ++ bytes) room);
      more = same ∙ h.more ∙ le-ltb 64 (length line) short ∙ sym (le-ltb 64 (length (line ++ bytes)) room);
    }

pub holds_fitting : (old new : HeldLine) (line bytes : List ℕ) → Holds old line → length bytes ≤ 64 - length old.line
    → new.line ≡ old.line ++ bytes → new.is_long ≡ old.is_long → Holds new (line ++ bytes)
holds_fitting old new line [] h fits grown same = holds_same old new line h grown same
holds_fitting old new line (b ∷ bs) h fits grown same =
    elim (cases_lt 64 (length line)) [
      | inl over ↦ let none : length old.line ≡ 64 = full old line h over in absurd (omega arith)
      | inr short ↦ holds_fitting_short old new line (b ∷ bs) h short fits grown same
    ]

pub holds_cut : (old new : HeldLine) (line bytes : List ℕ) → Holds old line → 64 - length old.line < length bytes
    → new.line ≡ old.line ++ take (64 - length old.line) bytes → new.is_long ≡ true → Holds new (line ++ bytes)
holds_cut old new line bytes h over grown long =
    elim (cases_lt 64 (length line)) [
      | inl past ↦
          let none : 64 - length old.line ≡ 0 = omega (arith, full old line h past) in
          record {
            front = grown ∙ ap (λ n. old.line ++ take n bytes) none ∙ append-nil old.line ∙ h.front
                ∙ sym (take-append-le 64 line bytes (omega arith));
            more = long ∙ sym (lt-ltb 64 (length (line ++ bytes)) (omega (arith, length-append line bytes)));
          }
      | inr short ↦
          let held = whole old line h short in
          let room : length line + (64 - length old.line) ≡ 64 = omega (arith, ap length held) in
          record {
            front = grown ∙ ap (λ l. l ++ take (64 - length old.line) bytes) held
                ∙ sym (take-append-add line bytes (64 - length old.line)) ∙ ap (λ n. take n (line ++ bytes)) room;
            more = long ∙ sym (lt-ltb 64 (length (line ++ bytes))
                (omega (arith, ap length held, length-append line bytes)));
          }
    ]
