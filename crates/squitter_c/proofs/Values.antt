-- The machine value of a seal, and what a seal owns.
use Rattle.std.proofs.Common.{◌≡◌, List, [], ◌∷◌, ◌++◌, refl, ◌∙◌, ap, Option, lit<}
use mir.Val.{Val, vstruct, vcons, vnil, of_list, has_ty, WT}
use mir.Syntax.{ty_ptr}
use lib.Dec.{T}
use seplogic.Ra.Ura.{Ura}
use types.Logic.{Logic}
use types.Kit.{Item, Goal, Seq, Step, step, ‵, ◌$◌, drop, fsplit, fjoin, fpick, fpack, feq_i, feq_l}
use denote.RattleType.{Valss}
use denote.Builtin.{RawPtr}
use denote.RawPtr.{Ptr, block_ptr, null_ptr, ptr_val}
use denote.Steps.{nothing}
use denote.Signature.{Slot, plain}
use denote.Struct.Struct.{within}
use denote.Struct.Owning.{shape}
use Rattle.squitter_c.specs.contracts.seal.Seal as Seal
use Rattle.squitter_c.specs.Seal.{Content, seal_owns}

abbrev pub FromSeal : Slot 0
FromSeal = plain (λ _. Seal.the_row)

abbrev pub IsHeld : Option Content → Option Content → Type 0
IsHeld held wanted = held ≡ wanted

abbrev pub one : Ptr → Val
one p = vstruct (vcons (ptr_val p) vnil)

module _ {M : Type 1} {𝓤 : Ura M} {𝓛 : Logic 𝓤} {K : Type 0} {Γ : List (Item 𝓤)} {G : Goal 𝓤 𝓛.H} where
  pub seal_out : K → (d : Seal.the_row.Denot) (vs : List Val)
      → (vs ≡ one d.at ∷ [] → Seq K 𝓛 (‵ (seal_owns d.at d.held) ∷ Γ) G)
      → Seq K 𝓛 (‵ (Seal.the_row.own_val d vs) ∷ Γ) G
  seal_out t d vs k =
      fsplit t $ fpick t (λ vss. fsplit t $ feq_l t (λ ev. fsplit t $ feq_l t (λ ep. drop t $
      k (ev ∙ ap (λ (ps : List Val). vstruct (of_list (ps ++ [])) ∷ []) ep))))

  pub seal_in : K → (p : Ptr) (h : Option Content)
      → Step K 𝓛 (‵ (Seal.the_row.own_val (record { at = p; held = h }) (one p ∷ [])) ∷ Γ) G (‵ (seal_owns p h) ∷ Γ) G
  seal_in t p h = step (λ s.
      nothing t $ feq_i t (List Val) (ptr_val p ∷ []) (ptr_val p ∷ []) refl $ fjoin t $
      feq_i t (List Val) (one p ∷ []) (one p ∷ []) refl $ fjoin t $
      fpack t (Valss (RawPtr ∷ [])) (within (shape Seal.the_type) (p, tt) (one p ∷ [])) (ptr_val p ∷ [], tt) $
      fjoin t $ s)

-- a pointer has the type of a pointer
pub ptr_typed : (p : Ptr) → T (has_ty ty_ptr (ptr_val p)) × WT (ptr_val p)
ptr_typed (block_ptr b o) = (tt, tt)
ptr_typed null_ptr = (tt, record { fits = lit< tt })
