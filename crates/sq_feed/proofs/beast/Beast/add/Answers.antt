use Rattle.std.proofs.Common.{◌≡◌, ◌∙◌, ◌<◌, [], ◌∷◌, ◌++◌, ap, sym, subst, refl, length, rules, arith, length-append}
use Rattle.std.specs.Prelude.{Option, Some}
use Rattle.sq_feed.specs.declared.message.Kind.{Kind}
use Rattle.sq_feed.specs.declared.message.Kind.TheVariants.{Message, Status, ReceiverId, Unknown}
use Rattle.sq_feed.specs.Begun.{Begun, IsUnfinished}
use Rattle.sq_feed.specs.Kinds.{message_len, message_of}
use Rattle.sq_feed.proofs.Steps.{last_gives, more_gives, more_id, more_status, more_unknown, stray_gives}
use Rattle.sq_feed.proofs.beast.Beast.add.Goals as goal

pub returns-in-Some-Status-clause-gives : goal.returns-in-Some-Status-clause-gives
returns-in-Some-Status-clause-gives c =
    let is : c.self.inside.kind ≡ Some Status = search rules in
    let was = sym (ap (λ (v : Begun). v.kind) c.self.view_is) ∙ is in
    more_status c.args.self.now c.args.self.now c.args.byte was was

pub returns-in-Some-ReceiverId-clause-gives : goal.returns-in-Some-ReceiverId-clause-gives
returns-in-Some-ReceiverId-clause-gives c =
    let is : c.self.inside.kind ≡ Some ReceiverId = search rules in
    let was = sym (ap (λ (v : Begun). v.kind) c.self.view_is) ∙ is in
    more_id c.args.self.now c.args.self.now c.args.byte was was

pub returns-in-Some-Unknown-clause-gives : goal.returns-in-Some-Unknown-clause-gives
returns-in-Some-Unknown-clause-gives c =
    let is : c.self.inside.kind ≡ Some Unknown = search rules in
    let was = sym (ap (λ (v : Begun). v.kind) c.self.view_is) ∙ is in
    more_unknown c.args.self.now c.args.self.now c.args.byte was was

pub returns-in-None-clause-gives : goal.returns-in-None-clause-gives
returns-in-None-clause-gives c =
    stray_gives c.args.self.now _ c.args.byte (sym (ap (λ (v : Begun). v.kind) c.self.view_is) ∙ c.in-None.is) refl

pub returns-then-len-message_len-clause-gives : goal.returns-then-len-message_len-clause-gives
returns-then-len-message_len-clause-gives c =
    let is : c.self.inside.kind ≡ Some (Message c.in-Some-Message.size) = search rules in
    more_gives c.args.self.now _ c.in-Some-Message.size c.args.byte
    (sym (ap (λ (v : Begun). v.kind) c.self.view_is) ∙ is) is
    (c.push.ensures.items ∙ ap (λ (v : Begun). v.held ++ c.args.byte ∷ []) c.self.view_is)

pub returns-clause-gives : goal.returns-clause-gives
returns-clause-gives c =
    let size = c.in-Some-Message.size in
    let held = c.args.self.now.held in
    let is : c.self.inside.kind ≡ Some (Message c.in-Some-Message.size) = search rules in
    let was = sym (ap (λ (v : Begun). v.kind) c.self.view_is) ∙ is in
    let few : length held < message_len size =
    subst (λ (k : Option Kind). IsUnfinished k held) was
    (subst (λ (v : Begun). IsUnfinished v.kind v.held) c.self.view_is c.self.invariant) in
    let now : c.push.new.self.items ≡ held ++ c.args.byte ∷ [] =
    c.push.ensures.items ∙ ap (λ (v : Begun). v.held ++ c.args.byte ∷ []) c.self.view_is in
    let full : length (held ++ c.args.byte ∷ []) ≡ message_len size =
    omega (arith, c.len.ensures.value, ap length now, length-append held (c.args.byte ∷ []), c.message_len.ensures) in
    last_gives c.args.self.now _ size c.args.byte c.message_of-message.result was refl full
    (c.message_of-message.ensures ∙ ap (message_of size) (c.as_slice.ensures.value ∙ now))
