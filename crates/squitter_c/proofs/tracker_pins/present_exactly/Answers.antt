use Rattle.std.proofs.Common.{◌∙◌, ◌-◌, ap, arith, drop, length, min, slice_get, slice_index_or, subst}
use Rattle.squitter_c.specs.Present.{present_since}
use Rattle.squitter_c.specs.Restoring.{IsToldAt}
use Rattle.squitter_c.proofs.tracker_pins.present_exactly.Goals as goal

pub returns : goal.returns
returns c held since from old new count is = (
  λ none. omega (arith, is.written ∙ ap (λ h. min (length (present_since since h) - from) (length old)) none),
  λ k some. is.written ∙ ap (λ h. min (length (present_since since h) - from) (length old)) some,
  λ k n e p some inside at.
      subst (λ o. IsToldAt o (slice_index_or old n p) (slice_index_or new n p))
      (ap (λ h. slice_get (drop from (present_since since h)) n) some ∙ at) (is.told.each n inside p),
)
