-- What was got from a source, after one get more.
use Rattle.std.proofs.Common.{◌≡◌, ◌+◌, ◌<◌, ◌≤◌, ◌++◌, ◌∙◌, ℕ, List, [], ◌∷◌, Option, None, Some, length, ap}
use Rattle.std.proofs.Common.{append-nil, arith, refl, sym, subst}
use Rattle.std.specs.Io.KnownBytes.{Consumes}
use Rattle.std.specs.List.{concat}
use Rattle.std.proofs.KnownBytes.{Consumes-trans}
use Rattle.std.proofs.lemmas.List.{length-append, length_push}
use Rattle.std.proofs.lemmas.List.Elements.{All-nil, All-push}
use Rattle.std.proofs.lemmas.List.Folds.{concat-append}
use Rattle.sq_devices.proofs.Puts.{calls_more}
use Rattle.sq_devices.specs.declared.device.Source.{Ghosts as SourceGhosts}
use Rattle.sq_devices.specs.Changes.{GotUpToEnd, Taken, taken_from}
use Rattle.sq_devices.specs.Device.{ConsumesOrHides, KeepsOrHides}
use Rattle.sq_log.specs.Runs.{HasGot, IsMadeOf}

pub consumes_hidden : (a b c : Option (List ℕ)) (bs : List ℕ) → Consumes a b bs → KeepsOrHides b c
    → ConsumesOrHides a c bs
consumes_hidden None b c bs p q = tt
consumes_hidden (Some x) None c bs p q = absurd p
consumes_hidden (Some x) (Some y) None bs p q = (y, p)
consumes_hidden (Some x) (Some y) (Some z) bs p q = p ∙ ap (λ l. bs ++ l) (sym q)

-- one more piece, by one get
pub got_on : (old_input input : Taken) (more : ℕ) (read piece : List ℕ) → HasGot old_input 0 read
    → old_input.before ≡ input.before → old_input.gets_before ≡ input.gets_before → input.gets + 1 ≡ old_input.gets
    → Consumes old_input.after input.after piece → 1 ≤ length piece + more → HasGot input more (read ++ piece)
got_on old_input input more read piece h same_before same_gets one consumed some = record {
  consumed = subst (λ (b : Option (List ℕ)). Consumes b input.after (read ++ piece)) same_before
      (Consumes-trans old_input.before old_input.after input.after read piece h.consumed consumed);
  few = omega (arith, h.few, one, some, same_gets, length-append read piece);
  back = omega (arith, h.back, one, same_gets);
}

-- ---- the pieces

-- no get so far
pub made_of_nothing : {S : Type 0} (s : SourceGhosts S) (source : S) → IsMadeOf (taken_from s source source) []
made_of_nothing s source = record {
  pieces = [];
  whole = refl;
  gave = refl;
  some = All-nil (λ piece. 0 < length piece);
  each = omega arith;
}

-- one get more, of a piece that is not empty
pub made_of_more : {S : Type 0} (s : SourceGhosts S) (first old new : S) (read piece : List ℕ)
    → IsMadeOf (taken_from s first old) read → s.Gave old piece new → s.gets_left new + 1 ≡ s.gets_left old
    → 0 < length piece → IsMadeOf (taken_from s first new) (read ++ piece)
made_of_more s first old new read piece m gave one some = record {
  pieces = m.pieces ++ piece ∷ [];
  whole = ap (λ l. l ++ piece) m.whole ∙ ap (λ l. concat m.pieces ++ l) (sym (append-nil piece))
      ∙ sym (concat-append m.pieces (piece ∷ []));
  gave = calls_more s.Gave first old new m.pieces piece m.gave gave;
  some = All-push (λ p. 0 < length p) m.pieces piece m.some some;
  each = omega (arith, m.each, one, length_push m.pieces piece);
}

-- one get more, of no bytes: the pieces before it are all
pub got_up_to_end : {S : Type 0} (s : SourceGhosts S) (first old new : S) (read piece : List ℕ)
    (m : IsMadeOf (taken_from s first old) read) → s.Gave old piece new → s.gets_left new + 1 ≡ s.gets_left old
    → length piece ≡ 0 → GotUpToEnd (taken_from s first new) m.pieces
got_up_to_end s first old new read [] m gave one none =
    (calls_more s.Gave first old new m.pieces [] m.gave gave, m.some, omega (arith, m.each, one))
got_up_to_end s first old new read (b ∷ bs) m gave one none = absurd (omega (arith, none))
