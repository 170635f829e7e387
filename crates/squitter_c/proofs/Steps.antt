-- Many calls in one: one more call.
use Rattle.std.proofs.Common.{◌≡◌, ◌<◌, ◌≤◌, ◌+◌, ◌∙◌, ◌≢◌, ℕ, zero, suc, pos, add-one, List, length, get_or, set}
use Rattle.std.proofs.Common.{sym, subst, subst₂, arith, inl, inr, ◌⊎◌}
use Rattle.std.proofs.lemmas.List.{length-set, get_or-set_same, get_or-set_other, get_or_default}
use Rattle.squitter_c.specs.declared.heard.PlainHeard.{PlainHeard}
use Rattle.squitter_c.specs.declared.plain.PlainPosition.{PlainPosition}
use Rattle.squitter_c.specs.Calls.{AreAnswered, IsBelow, Leads}

-- an index below n + 1 is below n, or is n
below_next : (k n : ℕ) → k < n + 1 → (k < n) ⊎ (k ≡ n)
below_next k n h = grind arith

-- a property of an element that a list has does not depend on the default past its end
pub there : {A : Type 0} (P : A → Type 0) (xs : List A) (n : ℕ) (x₀ x : A) → n < length xs → P (get_or xs n x₀)
    → P (get_or xs n x)
there P xs n x₀ x has h = subst P (get_or_default xs n x₀ x has) h

module _ {B C : Type 0} (was is : List B) (before after : List C) where
  -- element n was written
  pub one_below : (n : ℕ) → IsBelow was is before after n → (y : B) (z : C)
      → IsBelow was (set is n y) before (set after n z) (n + 1)
  one_below n h y z = record {
    long = (length-set is n y ∙ h.long.0, length-set after n z ∙ h.long.1);
    rest = λ k past b c.
        let other : k ≢ n = λ same. absurd (omega (arith, past, same)) in (
          get_or-set_other is n k y b other ∙ (h.rest k (omega (arith, past)) b c).0,
          get_or-set_other after n k z c other ∙ (h.rest k (omega (arith, past)) b c).1,
        );
  }

module _ {B C : Type 0} (At : ℕ → B → B → C → Type 0) (was is : List B) (before after : List C) (n : ℕ) where
  -- call n has a result
  pub one_answered : AreAnswered At was is before after n → n < length is → n < length after
      → (b₀ y : B) (z : C) → At n (get_or is n b₀) y z
      → AreAnswered At was (set is n y) before (set after n z) (n + 1)
  one_answered h room slot b₀ y z answer = record {
    below = one_below was is before after n h.below y z;
    answered = λ k below b c. elim (below_next k n below) [
      | inl less ↦
          let other : k ≢ n = λ same. absurd (omega (arith, less, same)) in
          subst₂ (λ v w. At k (get_or was k b) v w)
          (sym (get_or-set_other is n k y b other)) (sym (get_or-set_other after n k z c other))
          (h.answered k less b c)
      | inr same ↦
          subst (λ j. At j (get_or was j b) (get_or (set is n y) j b) (get_or (set after n z) j c)) (sym same)
          (subst₂ (λ v w. At n (get_or was n b) v w)
          (sym (get_or-set_same is n y b room)) (sym (get_or-set_same after n z c slot))
          (subst (λ u. At n u y z) (get_or_default is n b₀ b room ∙ (h.below.rest n (omega arith) b c).0) answer))
    ];
  }

module _ {S B C : Type 0} (At : ℕ → S → S → B → B → C → Type 0) (first : S) (was is : List B)
    (before after : List C) where
  -- later writes do not change the earlier calls
  pub leads_still : (m : ℕ) (y : B) (z : C) (n : ℕ) (last : S) → n ≤ m → Leads At first was is after n last
      → Leads At first was (set is m y) (set after m z) n last
  leads_still m y z zero last low h = h
  leads_still m y z (suc n) last low h =
      let other : n ≢ m = λ same. absurd (omega (arith, low, same)) in (
        h.0,
        leads_still m y z n h.0 (omega (arith, low)) h.1,
        λ b c. subst₂ (λ v w. At n h.0 last (get_or was n b) v w)
            (sym (get_or-set_other is m n y b other)) (sym (get_or-set_other after m n z c other)) (h.2 b c),
      )

  -- one more call
  pub leads_on : (n : ℕ) (s t : S) → IsBelow was is before after n → Leads At first was is after n s
      → n < length is → n < length after → (b₀ y : B) (z : C) → At n s t (get_or is n b₀) y z
      → Leads At first was (set is n y) (set after n z) (n + 1) t
  leads_on n s t below h room slot b₀ y z called =
      subst (λ k. Leads At first was (set is n y) (set after n z) k t) (sym (add-one n)) (
        s,
        leads_still n y z n s (omega arith) h,
        λ b c. subst₂ (λ v w. At n s t (get_or was n b) v w)
            (sym (get_or-set_same is n y b room)) (sym (get_or-set_same after n z c slot))
            (subst (λ u. At n s t u y z) (get_or_default is n b₀ b room ∙ (below.rest n (omega arith) b c).0) called),
      )

-- values for reads past an end
abbrev pub no_place : PlainPosition
no_place = record { lat = record { num = pos 0; den = 0 }; lon = record { num = pos 0; den = 0 } }

abbrev pub no_heard : PlainHeard
no_heard = record { position = no_place; what = 0; even = 0; odd = 0 }
