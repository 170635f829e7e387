use Rattle.std.proofs.Common.{◌≡◌, ◌≢◌, ◌∙◌, ◌++◌, ◌<◌, ℕ, zero, suc, List, [], ◌∷◌, ap, get_or, length, refl, rules, subst, sym, take, arith}
use Rattle.std.specs.Prelude.{Some}
use Rattle.std.proofs.lemmas.List.{get_or-take, length-take}
use Rattle.sq_feed.specs.declared.message.Kind.TheVariants.{Message}
use Rattle.sq_feed.specs.Begun.{Begun, HoldWithRest, rest_of}
use Rattle.sq_feed.specs.Stream.{escape}
use Rattle.sq_feed.proofs.Steps.{hold_nothing, plain_run}
use Rattle.sq_feed.proofs.beast.Beast.take_run.Goals as goal

pub returns-then-self-clause-held : goal.returns-then-self-clause-held
returns-then-self-clause-held c = hold_nothing (rest_of c.args.self.now)

pub returns-in_default-clause-held : goal.returns-in_default-clause-held
returns-in_default-clause-held c = hold_nothing (rest_of c.args.self.now)

-- the bytes that are taken are the front of the piece
front_is : (n m : ℕ) (piece : List ℕ) → take (length (take n (take m piece))) piece ≡ take n (take m piece)
front_is zero m piece = refl
front_is (suc n) zero piece = refl
front_is (suc n) (suc m) [] = refl
front_is (suc n) (suc m) (x ∷ piece) = ap (λ l. x ∷ l) (front_is n m piece)

plain_front : (n : ℕ) (near : List ℕ) → ((k : ℕ) → k < n → get_or near k 0 ≢ escape)
    → (k : ℕ) → k < length (take n near) → get_or (take n near) k 0 ≢ escape
plain_front n near first k within same =
    let less : k < n = omega (arith, length-take n near, within) in
    first k less (sym (get_or-take n near k 0 less) ∙ same)

pub returns-clause-held : goal.returns-clause-held
returns-clause-held c =
    let piece = c.args.piece.now in
    let near = take c.min.result piece in
    let is : c.self.inside.kind ≡ Some (Message c.in-Some-Message.size) = search rules in
    let was = sym (ap (λ (v : Begun). v.kind) c.self.view_is) ∙ is in
    let calm = sym (ap (λ (v : Begun). v.is_escaped) c.self.view_is) ∙ c.if-self.false in
    let new : Begun = record {
      kind = c.self.inside.kind;
      held = c.try_extend_from_slice.new.self.items;
      is_escaped = c.self.inside.is_escaped;
    } in
    let more : new.held ≡ c.self.inside.held.items ++ take c.position_of.result near = search rules in
    let held = more ∙ ap (λ (v : Begun). v.held ++ take c.position_of.result near) c.self.view_is in
    subst (λ bs. HoldWithRest (rest_of c.args.self.now ++ bs) [] (rest_of new))
    (sym (front_is c.position_of.result c.min.result piece))
    (plain_run c.args.self.now new c.in-Some-Message.size (take c.position_of.result near) was is calm c.if-self.false
    held (plain_front c.position_of.result near c.position_of.ensures.first))
