use Rattle.std.proofs.Common.{◌∙◌, ap, subst, sym}
use Rattle.sq_feed.specs.declared.message.Found.TheVariants.{Whole}
use Rattle.sq_feed.specs.Avr.{AreHex, BegunWord, avr_message, bytes_of, size_of}
use Rattle.std.proofs.Common.{length}
use Rattle.sq_feed.proofs.AvrLemmas.{item_bad, item_whole}
use Rattle.sq_feed.proofs.avr.Avr.item_of.Goals as goal

pub returns-then-self : goal.returns-then-self
returns-then-self c =
    item_bad c.args.mark c.args.self.now.digits c.args.self.now.is_bad
    (sym (ap (λ (v : BegunWord). v.is_bad) c.self.view_is) ∙ c.if-self.true)

pub returns-in-Some : goal.returns-in-Some
returns-in-Some c =
    let same = ap (λ (v : BegunWord). v.digits) c.self.view_is in
    ap Whole (c.message_of.ensures
    ∙ ap (avr_message c.args.mark c.in-Some.size) (c.as_slice-in-Some.ensures.value ∙ c.bytes_of-bytes.ensures
    ∙ ap bytes_of (c.as_slice.ensures.value ∙ same)))
    ∙ item_whole c.args.mark c.args.self.now.digits c.args.self.now.is_bad c.in-Some.size
    (sym (ap (λ (v : BegunWord). v.is_bad) c.self.view_is) ∙ c.if-self.false)
    (subst (λ (v : BegunWord). AreHex v.digits) c.self.view_is c.self.invariant)
    (sym (ap (λ d. size_of c.args.mark (length d)) same)
    ∙ sym (ap (size_of c.args.mark) c.len.ensures.value) ∙ sym c.size_of.ensures ∙ c.in-Some.is)
