-- Entries that are restored in order.
use Rattle.std.proofs.Common.{◌≡◌, ◌<◌, ◌+◌, ◌++◌, ◌∷◌, ◌⊎◌, ◌∙◌, [], ℕ, List, Option, length, get_or, take, drop, refl}
use Rattle.std.proofs.Common.{sym, ap, subst, subst₂, arith, inl, inr}
use Rattle.std.proofs.lemmas.List.{get_or_default, length-append, take_more}
use Rattle.sq_track.specs.declared.contact.Contact.{Contact}
use Rattle.sq_track.specs.Held.{Held}
use Rattle.sq_track.specs.Restoring.{CanBeRestored, CanFollow}
use Rattle.squitter_c.specs.declared.entry.PlainEntry.{PlainEntry}
use Rattle.squitter_c.specs.Entries.{AreEntriesOf, IsContactOf, IsEntryOf}
use Rattle.squitter_c.specs.Restoring.{IsRefusedAt, holding}

pub more_entries : (ps : List PlainEntry) (es : List (ℕ × Contact)) (p : PlainEntry) (e : ℕ × Contact)
    → AreEntriesOf ps es → IsEntryOf p e → AreEntriesOf (ps ++ p ∷ []) (es ++ e ∷ [])
more_entries [] [] p e all one = (one, tt)
more_entries [] (x ∷ es) p e all one = absurd all
more_entries (y ∷ ps) [] p e all one = absurd all
more_entries (y ∷ ps) (x ∷ es) p e all one = (all.0, more_entries ps es p e all.1 one)

pub nothing_held : (t : Held) (last : Option ℕ) → CanBeRestored (holding t last [])
nothing_held t last front back a c is =
    absurd (omega (arith, ap length is, length-append front ((a, c) ∷ back), longer (length back)))
  where
    longer : (n : ℕ) → 0 < n + 1
    longer n = omega arith

-- an element of a list with one more element is the last, or one before it
splits : {X : Type 0} (xs front back : List X) (x e : X) → xs ++ e ∷ [] ≡ front ++ x ∷ back
    → ((front ≡ xs) × (x ≡ e)) ⊎ ((rest : List X) × (xs ≡ front ++ x ∷ rest))
splits [] [] back x e is = inl (refl, ap (λ l. get_or l 0 x) (sym is))
splits [] (f ∷ front) back x e is =
    absurd (omega (arith, ap (λ l. length (drop 1 l)) is, length-append front (x ∷ back)))
splits (y ∷ xs) [] back x e is = inr (xs, ap (λ z. z ∷ xs) (ap (λ l. get_or l 0 x) is))
splits (y ∷ xs) (f ∷ front) back x e is = elim (splits xs front back x e (ap (drop 1) is)) [
  | inl last ↦ inl ((λ i. ap (λ l. get_or l 0 f) (sym is) i ∷ last.0 i), last.1)
  | inr before ↦ inr (before.0, (λ i. ap (λ l. get_or l 0 f) is i ∷ before.1 i))
]

pub restored_more : (t : Held) (last : Option ℕ) (es : List (ℕ × Contact)) (address : ℕ) (contact : Contact)
    → CanBeRestored (holding t last es) → CanFollow (holding t last es) address contact
    → CanBeRestored (holding t last (es ++ (address, contact) ∷ []))
restored_more t last es address contact held can front back a c is =
    elim (splits es front back (a, c) (address, contact) is) [
      | inl one ↦ subst (λ (l : List (ℕ × Contact)). CanFollow (holding t last l) a c) (sym one.0)
          (subst₂ (λ x y. CanFollow (holding t last es) x y) (sym (ap (λ (e : ℕ × Contact). e.0) one.1))
          (sym (ap (λ (e : ℕ × Contact). e.1) one.1)) can)
      | inr before ↦ held front before.0 a c before.1
    ]

module _ (t now : Held) (last : Option ℕ) (entries : List PlainEntry) (at : ℕ) (d : PlainEntry) (contact : Contact)
    (es : List (ℕ × Contact)) (stand : AreEntriesOf (take at entries) es) (held : CanBeRestored (holding t last es))
    (is : now ≡ holding t last es) (inside : at < length entries) (entry : IsContactOf (get_or entries at d) contact)
  where
    abbrev address : ℕ
    address = (get_or entries at d).address

    -- one more entry was restored
    pub one_more : (new : Held) → CanFollow now address contact
        → new ≡ record now { contacts = now.contacts ++ (address, contact) ∷ [] }
        → (xs : List (ℕ × Contact)) × AreEntriesOf (take (at + 1) entries) xs × CanBeRestored (holding t last xs)
        × (new ≡ holding t last xs)
    one_more new can more = (
      es ++ (address, contact) ∷ [],
      subst (λ ps. AreEntriesOf ps (es ++ (address, contact) ∷ [])) (sym (take_more entries at d inside))
          (more_entries (take at entries) es (get_or entries at d) (address, contact) stand (refl, entry)),
      restored_more t last es address contact held (subst (λ (v : Held). CanFollow v address contact) is can),
      more ∙ ap (λ (v : Held). record v { contacts = v.contacts ++ (address, contact) ∷ [] }) is,
    )

    -- the entry is refused
    pub refused_at : ¬ (CanFollow now address contact) → IsRefusedAt at t last entries
    refused_at never = record {
      inside = inside;
      front = es;
      before = stand;
      held = held;
      address = address;
      contact = contact;
      there = λ p. subst (λ x. IsEntryOf x (address, contact)) (get_or_default entries at d p inside) (refl, entry);
      refused = λ can. never (subst (λ (v : Held). CanFollow v address contact) (sym is) can);
    }
