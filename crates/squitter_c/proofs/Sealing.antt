-- Making a seal of the parts of a box, and opening it again, for any type that a seal can hold. Raw pointers name no
-- type. So the functions of `Seal` that differ only in types have the same code: `seals` and `opens`.
use Rattle.std.proofs.Common.{◌≡◌, List, [], ◌∷◌, ◌++◌, refl, sym, subst, Option, Some, None, IsSome, ap, ◌∙◌}
use Rattle.std.proofs.lemmas.Bool.{false≢true}
use mir.Syntax.{Fn, Callee, impl, tnil, dnil, local, value_local, ty_ptr, place, field, assign, aggregate, copy}
use mir.Syntax.{rv_opd, seq, return}
use mir.Raw.{raw as bare}
use mir.Val.{Val}
use base.Fml.{Fml, ftrue, fsep}
use base.Logic.{SProp, ent, emp, id⊢, never, fst∗}
use seplogic.Ra.Ura.{Ura}
use prog.Model.{Model}
use prog.Wp.{WpFn, Closed}
use types.Logic.{Logic, sem}
use contract.Monad.{fact, fact_i}
use contract.Notation.{connectives}
use contract.Running.{Running, tables}
use types.Kit.{Item, ‵, raw, ◌⊛◌, prop, ◌$◌, ◌∵◌, !, qed, by, move, keep, use0, use1, use2, split, fsplit, fjoin}
use types.Kit.{regoal, rewrite}
use types.Part.{whole, sub, agg}
use types.Run.{stop, fld, no_more, and_then, of_opd, returns, enter}
use types.ByLocal.{alloc_all, pass_all, free_all, look_at, get, get_in, sets}
use denote.Exit.{Kept, yes}
use denote.Param.Laws.{Laws}
use denote.Memory.{lone}
use denote.RattleType.{RattleType, owns}
use denote.RawPtr.{Ptr, block_ptr, in_a_block, null_ptr}
use denote.Signature.{Slot, plain, types_at, type_at}
use denote.Steps.{nothing, heard}
use denote.Struct.Tuple.{Tuple}
use denote.Triple.Clauses.{Ended, Clauses, closing}
use denote.Triple.Entry.{alive}
use denote.Triple.Spec.{Meets}
use denote.Triple.Walked.{Stays, stay_dropped, walk_of, Goes-dropped}
use Rattle.std.proofs.ResultValues.{and_tt}
use Rattle.std.proofs.raw_atomic.Walks.{proved_at, leaves}
use Rattle.std.proofs.alloc.Calls.{handle_tells}
use Rattle.std.specs.Box.Ownership.{box_owns}
use Rattle.std.proofs.BoxSteps.Form.{Bx, D, B, τ, handle, word, box_typed}
use Rattle.std.proofs.BoxSteps.Steps.{box_out, box_in}
use Rattle.sq_lent.proofs.Pairs.{pair_of, pair_val}
use Rattle.sq_lent.specs.contracts.lent.Lent as Lent
use Rattle.sq_lent.specs.contracts.lent.LentAllocator.TheImpl.{ghosts, dict}
use Rattle.sq_lent.proofs.lent.Lent.TheLaws as lent
use Rattle.squitter_c.specs.contracts.parts.Parts as Parts
use Rattle.squitter_c.specs.contracts.seal.Seal as Seal
use Rattle.squitter_c.specs.Seal.{Content, may_free, seal_owns}
use Rattle.squitter_c.proofs.Values.{IsHeld, one, seal_in, seal_out, FromSeal}

abbrev FromLent : Slot 0
FromLent = plain (λ _. Lent.the_row)

-- The row of a type that is one machine value: what a box of it owns computes.
abbrev pub solid : RattleType → RattleType
solid X = record {
  Denot = X.Denot;
  mir = lone X.mir ∷ [];
  written = X.written;
  reaches = X.reaches;
  lives = X.lives;
  own_val = X.own_val;
  exit = X.exit;
  coded = X.coded;
  shr_at = X.shr_at;
}

-- The way in which a seal holds the values of a type. A seal that holds a value owns what a box of the value owns.
pub record Kind : Type 2 where
  pub row : RattleType
  pub laws : Laws (solid row)
  pub held : row.Denot → Content
  pub found : Option Content → Option row.Denot
  pub owned : (p : Ptr) (h : Option Content) (x : row.Denot) → found h ≡ Some x
      → seal_owns p h ≡ box_owns may_free (solid row) p x
  pub same : (x : row.Denot) → found (Some (held x)) ≡ Some x

-- the value that an option holds
some_of : {X : Type 0} (o : Option X) → IsSome o → (x : X) × (o ≡ Some x)
some_of None h = absurd (false≢true h)
some_of (Some x) h = (x, refl)

module _ (K : Kind) where
  abbrev E : Bx
  E = record {
    row = solid K.row;
    laws = K.laws;
    al = record { row = Lent.the_row; laws = lent.the_row_laws; g = ghosts; d = dict; drops = impl [] tnil dnil };
  }

  abbrev Loose : RattleType
  Loose = Parts.the_row (solid K.row) Lent.the_row ghosts

  abbrev Sealed : RattleType
  Sealed = Tuple (Seal.the_row ∷ Lent.the_row ∷ [])

  -- ---- sealing
  abbrev seals : Fn
  seals = record {
    lifetimes = 0;
    outlives = [];
    ty_params = [];
    givens = 0;
    params = 1;
    locals = local (lone Sealed.mir) value_local ∷ local (lone Loose.mir) value_local ∷ local ty_ptr value_local
        ∷ local (lone (Lent.the_row).mir) value_local ∷ local ty_ptr value_local
        ∷ local (lone (Seal.the_row).mir) value_local ∷ [];
    body = seq (assign (place 2 []) (rv_opd (copy (place 1 (field 0 ∷ [])))))
        (seq (assign (place 3 []) (rv_opd (copy (place 1 (field 1 ∷ [])))))
        (seq (assign (place 4 []) (rv_opd (copy (place 2 []))))
        (seq (assign (place 5 []) (aggregate (copy (place 4 []) ∷ [])))
        (seq (assign (place 0 []) (aggregate (copy (place 5 []) ∷ copy (place 3 []) ∷ []))) return))));
  }

  module _ (kept : Kept) where
    abbrev sealing : Ended
    sealing = record {
      signature = record {
        lifetimes = 0;
        outlives = [];
        params = plain (λ _. Loose) ∷ [];
        result = plain (λ _. Sealed);
      };
      kept = (kept, tt);
    }

    module _ {M : Type 1} {𝓤 : Ura M} (𝓛 : Logic 𝓤) where
      abbrev sealed : Clauses 𝓤 sealing
      sealed κs args = record {
        ghost = Unit {0};
        requires = λ _. (connectives 𝓤).⊤ₛ;
        ensures = λ _ result end. fact 𝓤 (result.0.held ≡ Some (K.held args.0.value));
      }

      pub seals_spec : (𝓜 : Model 𝓤 𝓛.H) (𝓡 : Running 𝓤 𝓛.H 𝓜) (self : Callee)
          → Closed 𝓤 𝓛.H (tables 𝓤 𝓛.H 𝓜 𝓡 𝓡.env).C (tables 𝓤 𝓛.H 𝓜 𝓡 𝓡.env).Λ self seals
          → Meets 𝓛 sealing.signature ((tables 𝓤 𝓛.H 𝓜 𝓡 𝓡.env).C self) (closing 𝓛 sealing sealed)
      seals_spec 𝓜 𝓡 self closed =
          let H = 𝓛.H in let c = sealed in let FromParts : Slot 0 = plain (λ _. Loose) in
          let hs : Stays sealing.signature.params sealing.kept = (stay_dropped FromParts kept, tt) in
          let 𝓣 = tables 𝓤 H 𝓜 𝓡 𝓡.env in
          proved_at 𝓛 sealing hs c 𝓜 𝓡 (Goes-dropped 𝓛 0 FromParts kept (λ κs x f. refl), tt) self seals closed (
          λ z are.
          let Post : Val → SProp 𝓤 = (walk_of 𝓛 sealing hs c).post z in
          let v : D E = record { ptr = z.0.3.0.ptr; alloc = z.0.3.0.alloc; value = z.0.3.0.value } in
          qed 𝓛 ((‵ ftrue ⊛ ‵ (fsep ((B E).own_val v z.0.4.0) ftrue)) ∷ raw (emp 𝓤) ∷ []) ∵ split ! $ move ! (1 ∷ []) $
          fsplit ! $ box_out E ! v z.0.4.0 (λ b o hv e ws fa. fjoin ! $
          let w = word E hv b o in
          let held = Some (K.held v.value) in
          let Γ : List (Item 𝓤) = ‵ (box_owns may_free (solid K.row) (block_ptr b o) v.value)
          ∷ ‵ (handle E v.alloc hv) ∷ ‵ ftrue ∷ ‵ ftrue ∷ raw (emp 𝓤) ∷ [] in
          by ! (subst (λ (us : List Val). ent 𝓤 (types.Kit.⋆ 𝓛 Γ) (WpFn 𝓤 H 𝓣.C 𝓣.Λ seals (us ++ []) Post)) (sym ws)
          (qed 𝓛 Γ ∵ enter ! 𝓣.C 𝓣.Λ seals (w ∷ []) Post $
          alloc_all ! (λ l. pass_all ! refl (box_typed E hv b o fa, tt) $
          sets ! (of_opd ! (get_in ! (fld ! refl (stop !)) (sub ! 0 refl (whole !)))) refl (tt, tt) $
          sets ! (of_opd ! (get_in ! (fld ! refl (stop !)) (sub ! 1 refl (whole !)))) refl fa $
          sets ! (of_opd ! (get ! refl)) refl (tt, tt) $
          sets ! (agg ! (and_then ! (get ! refl) (no_more !))) refl (tt, (tt, tt)) $
          sets ! (agg ! (and_then ! (get ! refl) (and_then ! (get ! refl) (no_more !)))) refl (
            and_tt _ fa.0,
            ((tt, tt), (fa.1, tt)),
          ) $
          returns ! (look_at ! 0 refl) $ free_all ! refl $
          let seal : Seal.the_row.Denot = record { at = block_ptr b o; held = held } in
          rewrite ! 0 (λ (m : Fml). ‵ m) (sym (K.owned (block_ptr b o) held v.value (K.same v.value))) refl $
          seal_in ! (block_ptr b o) held $
          use2 𝓛 (‵ (Sealed.own_val (seal, v.alloc) (pair_val (one (block_ptr b o)) hv ∷ [])))
          (pair_of 𝓛 Seal.the_row Lent.the_row seal v.alloc (one (block_ptr b o)) hv) $
          use0 𝓛 (raw (fact 𝓤 (IsHeld held held))) (fact_i 𝓤 (IsHeld held held) (emp 𝓤) refl) $
          nothing ! $ nothing ! $ fjoin ! $ keep ! (3 ∷ 0 ∷ 2 ∷ 1 ∷ []) $
          by ! (leaves 𝓛 sealing hs c z (pair_val (one (block_ptr b o)) hv) (seal, v.alloc) (tt, tt) (tt, tt)))))))

  -- ---- opening
  abbrev opens : Fn
  opens = record {
    lifetimes = 0;
    outlives = [];
    ty_params = [];
    givens = 0;
    params = 2;
    locals = local (lone Loose.mir) value_local ∷ local (lone (Seal.the_row).mir) value_local
        ∷ local (lone (Lent.the_row).mir) value_local ∷ local ty_ptr value_local ∷ local ty_ptr value_local ∷ [];
    body = seq (assign (place 3 []) (rv_opd (copy (place 1 (field 0 ∷ [])))))
        (seq (assign (place 4 []) (rv_opd (copy (place 3 []))))
        (seq (assign (place 0 []) (aggregate (copy (place 4 []) ∷ copy (place 2 []) ∷ []))) return));
  }

  abbrev opening : Ended
  opening = record {
    signature = record {
      lifetimes = 0;
      outlives = [];
      params = FromSeal ∷ FromLent ∷ [];
      result = plain (λ _. Loose);
    };
    kept = (yes, (yes, tt));
  }

  module _ {M : Type 1} {𝓤 : Ura M} (𝓛 : Logic 𝓤) where
    abbrev opened : Clauses 𝓤 opening
    opened κs args = record {
      ghost = Unit {0};
      requires = λ _. fact 𝓤 (IsSome (K.found args.0.held));
      ensures = λ _ result end. fact 𝓤 (Some result.value ≡ K.found args.0.held);
    }

    pub opens_spec : (𝓜 : Model 𝓤 𝓛.H) (𝓡 : Running 𝓤 𝓛.H 𝓜) (self : Callee)
        → Closed 𝓤 𝓛.H (tables 𝓤 𝓛.H 𝓜 𝓡 𝓡.env).C (tables 𝓤 𝓛.H 𝓜 𝓡 𝓡.env).Λ self opens
        → Meets 𝓛 opening.signature ((tables 𝓤 𝓛.H 𝓜 𝓡 𝓡.env).C self) (closing 𝓛 opening opened)
    opens_spec 𝓜 𝓡 self closed =
        let H = 𝓛.H in let c = opened in
        let hs : Stays opening.signature.params opening.kept =
        (stay_dropped FromSeal yes, (stay_dropped FromLent yes, tt)) in
        let 𝓣 = tables 𝓤 H 𝓜 𝓡 𝓡.env in
        proved_at 𝓛 opening hs c 𝓜 𝓡 (
          Goes-dropped 𝓛 0 FromSeal yes (λ κs x f. refl),
          (Goes-dropped 𝓛 0 FromLent yes (λ κs x f. refl), tt),
        ) self opens closed (λ z are.
        let Post : Val → SProp 𝓤 = (walk_of 𝓛 opening hs c).post z in
        qed 𝓛 ((raw (alive 𝓛 opening.signature z.0.0 z.0.1)
        ⊛ ‵ (owns (types_at opening.signature.params z.0.0) z.0.3 z.0.4))
        ∷ raw (fact 𝓤 (IsSome (K.found z.0.3.0.held))) ∷ []) ∵
        move ! (1 ∷ []) $ heard ! (IsSome (K.found z.0.3.0.held)) (λ some.
        let (x, is) = some_of (K.found z.0.3.0.held) some in
        split ! $ move ! (1 ∷ []) $ fsplit ! $ seal_out ! z.0.3.0 z.0.4.0 (λ ws.
        rewrite ! 0 (λ (m : Fml). ‵ m) (K.owned z.0.3.0.at z.0.3.0.held x is) refl $
        in_a_block ! z.0.3.0.at (λ p. box_owns may_free (solid K.row) p x) (fst∗ 𝓤 (never 𝓤)
        (sem 𝓛 (may_free (bare (τ E)) null_ptr))) (λ b o e.
        move ! (1 ∷ []) $ fsplit ! $ handle_tells E.al ! z.0.3.1.0 z.0.4.1.0 (λ hv eh fa.
        let told : z.0.4.0 ≡ one (block_ptr b o) ∷ [] = ws ∙ ap (λ p. one p ∷ []) e in
        regoal ! (λ (us : List Val). prop (WpFn 𝓤 H 𝓣.C 𝓣.Λ opens us Post)) (λ i. told i ++ (eh i ++ [])) refl $
        enter ! 𝓣.C 𝓣.Λ opens (one (block_ptr b o) ∷ hv ∷ []) Post $
        alloc_all ! (λ l. pass_all ! refl ((tt, (tt, tt)), (fa, tt)) $
        sets ! (of_opd ! (get_in ! (fld ! refl (stop !)) (sub ! 0 refl (whole !)))) refl (tt, tt) $
        sets ! (of_opd ! (get ! refl)) refl (tt, tt) $
        sets ! (agg ! (and_then ! (get ! refl) (and_then ! (get ! refl) (no_more !)))) refl (box_typed E hv b o fa) $
        returns ! (look_at ! 0 refl) $ free_all ! refl $
        move ! (2 ∷ 0 ∷ []) $ fsplit ! $
        let d : D E = record { ptr = block_ptr b o; alloc = z.0.3.1.0; value = x } in
        let To = type_at (opening.signature).result tt in
        let made : To.Denot = record { ptr = block_ptr b o; alloc = z.0.3.1.0; value = x } in
        let Told : Type 0 = Some x ≡ K.found z.0.3.0.held in
        box_in E ! d b o x refl refl $ use1 𝓛 (‵ (To.own_val made (word E hv b o ∷ []))) (id⊢ 𝓤 _) $
        use0 𝓛 (raw (fact 𝓤 Told)) (fact_i 𝓤 Told (emp 𝓤) (sym is)) $
        nothing ! $ nothing ! $ fjoin ! $ nothing ! $ fjoin ! $ keep ! (4 ∷ 0 ∷ 2 ∷ 1 ∷ []) $
        by ! (leaves 𝓛 opening hs c z (word E hv b o) made (tt, (tt, tt)) (tt, (tt, tt)))))))))
