use Rattle.std.proofs.Common.{◌∙◌, ◌++◌, ◌∷◌, [], ap, sym, refl, arith, length}
use Rattle.sq_feed.specs.Avr.{BegunWord}
use Rattle.sq_feed.proofs.AvrLemmas.{bad_digit, digit_room, no_room, still_bad}
use Rattle.sq_feed.proofs.avr.Avr.add.Goals as goal

pub returns-then-self-clause-follows : goal.returns-then-self-clause-follows
returns-then-self-clause-follows c =
    let was = sym (ap (λ (v : BegunWord). v.is_bad) c.self.view_is) ∙ c.if-self.true in
    still_bad c.args.self.now c.args.self.now c.args.byte c.requires was refl was

pub returns-then-not-is_hex-clause-follows : goal.returns-then-not-is_hex-clause-follows
returns-then-not-is_hex-clause-follows c =
    bad_digit c.args.self.now _ c.args.byte c.requires
    (sym (ap (λ (v : BegunWord). v.is_bad) c.self.view_is) ∙ c.if-self.false)
    (sym c.is_hex.ensures ∙ c.if-not-is_hex.true) (ap (λ (v : BegunWord). v.opener) c.self.view_is) refl

pub returns-then-len-lt-MOST-clause-follows : goal.returns-then-len-lt-MOST-clause-follows
returns-then-len-lt-MOST-clause-follows c =
    digit_room c.args.self.now _ c.args.byte c.requires
    (sym (ap (λ (v : BegunWord). v.is_bad) c.self.view_is) ∙ c.if-self.false)
    (ap (λ (v : BegunWord). v.opener) c.self.view_is)
    (c.push.ensures.items ∙ ap (λ (v : BegunWord). v.digits ++ c.args.byte ∷ []) c.self.view_is)
    (ap (λ (v : BegunWord). v.is_bad) c.self.view_is)

pub returns-else-len-lt-MOST-clause-follows : goal.returns-else-len-lt-MOST-clause-follows
returns-else-len-lt-MOST-clause-follows c =
    no_room c.args.self.now _ c.args.byte c.requires
    (sym (ap (λ (v : BegunWord). v.is_bad) c.self.view_is) ∙ c.if-self.false)
    (omega (
      arith,
      c.len.ensures.value,
      c.if-len-lt-MOST.false,
      ap (λ
          (v : BegunWord). length v.digits) c.self.view_is,
    ))
    (ap (λ (v : BegunWord). v.opener) c.self.view_is) refl
