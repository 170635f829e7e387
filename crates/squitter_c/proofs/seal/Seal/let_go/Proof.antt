-- `let_go` drops a pointer that owns nothing.
use Rattle.std.proofs.Common.{List, [], ◌∷◌, ◌++◌, refl, None}
use mir.Val.{Val, vunit}
use base.Logic.{SProp}
use prog.Wp.{WpFn}
use contract.Monad.{fact}
use contract.Running.{tables}
use types.Kit.{‵, raw, ◌⊛◌, prop, ◌$◌, ◌∵◌, !, qed, by, move, keep, drop, split, fsplit, fjoin, regoal, rewrite, feq_i}
use types.Part.{whole, sub}
use types.Run.{stop, fld, of_opd, unit_lit, returns, enter}
use types.ByLocal.{alloc_all, pass_all, free_all, look_at, get_in, sets}
use denote.Exit.{yes}
use denote.RattleType.{owns}
use denote.Signature.{types_at}
use denote.Steps.{nothing, heard}
use denote.Triple.Entry.{alive}
use denote.Triple.Walked.{Stays, stay_dropped, walk_of, Goes-dropped}
use Rattle.std.proofs.raw_atomic.Walks.{proved_at, leaves}
use Rattle.squitter_c.proofs.Values.{IsHeld, one, ptr_typed, seal_out, FromSeal}
use Rattle.std.proofs.ResultValues.{and_tt}
use Rattle.squitter_c.specs.Seal.{seal_owns}
use Rattle.squitter_c.specs.contracts.seal.Seal.let_go.{ended, clauses}
use Rattle.squitter_c.specs.contracts.seal.Seal.let_go.Key.{name as #self}
use Rattle.squitter_c.proofs.seal.Seal.let_go.Statement.{statement}
use Rattle.squitter_c.proofs.seal.Seal.let_go.Code as code

pub let_go_spec : {M : Type 1} → statement M
let_go_spec 𝓤 𝓛 𝓜 𝓡 wired =
    let H = 𝓛.H in let c = clauses 𝓛 𝓜.mem 𝓡.returns in let hs : Stays ended.signature.params ended.kept =
    (stay_dropped FromSeal yes, tt) in
    let 𝓣 = tables 𝓤 H 𝓜 𝓡 𝓡.env in
    proved_at 𝓛 ended hs c 𝓜 𝓡 (
      Goes-dropped 𝓛 0 FromSeal yes (λ κs x f. refl),
      tt,
    ) #self code.function (code.unfolded 𝓤 H 𝓜 𝓡 wired) (λ z are.
    let Post : Val → SProp 𝓤 = (walk_of 𝓛 ended hs c).post z in
    qed 𝓛 ((raw (alive 𝓛 ended.signature z.0.0 z.0.1) ⊛ ‵ (owns (types_at ended.signature.params z.0.0) z.0.3 z.0.4))
    ∷ raw (fact 𝓤 (IsHeld z.0.3.0.held None)) ∷ []) ∵
    move ! (1 ∷ []) $ heard ! (IsHeld z.0.3.0.held None) (λ is. split ! $ move ! (1 ∷ []) $ fsplit ! $
    seal_out ! z.0.3.0 z.0.4.0 (λ ws. rewrite ! 0 (λ h. ‵ (seal_owns z.0.3.0.at h)) is refl $ drop ! $
    regoal ! (λ (us : List Val). prop (WpFn 𝓤 H 𝓣.C 𝓣.Λ code.function us Post)) (λ i. ws i ++ []) refl $
    enter ! 𝓣.C 𝓣.Λ code.function (one z.0.3.0.at ∷ []) Post $
    alloc_all ! (λ l. pass_all ! refl ((and_tt _ ((ptr_typed z.0.3.0.at).0), ((ptr_typed z.0.3.0.at).1, tt)), tt) $
    sets ! (of_opd ! (get_in ! (fld ! refl (stop !)) (sub ! 0 refl (whole !)))) refl (ptr_typed z.0.3.0.at) $
    sets ! (of_opd ! (unit_lit !)) refl (tt, tt) $ returns ! (look_at ! 0 refl) $ free_all ! refl $
    feq_i ! (List Val) (vunit ∷ []) (vunit ∷ []) refl $ nothing ! $ nothing ! $ fjoin ! $ keep ! (3 ∷ 0 ∷ 1 ∷ 2 ∷ []) $
    by ! (leaves 𝓛 ended hs c z vunit tt (tt, tt) (tt, tt))))))
