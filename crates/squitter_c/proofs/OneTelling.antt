-- A result is reported in only one way.
use Rattle.std.proofs.Common.{◌≡◌, ◌∙◌, Result, Ok, Err, subst, sym}
use Rattle.squitter_c.specs.declared.faults.Fault.{Fault}
use Rattle.squitter_c.specs.declared.faults.Reason.{Reason}
use Rattle.squitter_c.specs.Faults.{Tells}

-- one result, reported twice
module _ {A B E : Type 0} (P : Result A E → Type 0) (Stands : A → B → Type 0) (named : E → Reason)
    (one : (r s : Result A E) → P r → P s → r ≡ s) (same : (a : A) (x y : B) → Stands a x → Stands a y → x ≡ y) where
  told_twice : (r : Result A E) (old x y : B) (f g : Fault) → Tells Stands named r old x f
      → Tells Stands named r old y g → (x ≡ y) × (f ≡ g)
  told_twice (Ok a) old x y f g h k = (same a x y h.0 k.0, h.1 ∙ sym k.1)
  told_twice (Err e) old x y f g h k = (h.0 ∙ sym k.0, h.1 ∙ sym k.1)

  pub one_telling : (old x y : B) (f g : Fault)
      → (r : Result A E) × P r × Tells Stands named r old x f → (r : Result A E) × P r × Tells Stands named r old y g
      → (x ≡ y) × (f ≡ g)
  one_telling old x y f g (r, p, h) (s, q, k) =
      told_twice r old x y f g h (subst (λ t. Tells Stands named t old y g) (sym (one r s p q)) k)
