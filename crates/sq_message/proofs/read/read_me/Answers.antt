use Rattle.std.proofs.Common.{◌≡◌, ℕ, ◌^◌, ◌/◌, arith, ◌∙◌, sym, ap}
use Rattle.sq_bits.proofs.Spelled.{leading_field}
use Rattle.sq_message.specs.TypeCodes.{IsOtherCode}
use Rattle.sq_message.proofs.read.read_me.Goals as goal
use Rattle.sq_message.proofs.read.read_me.Goals.{in_default-via-then-part-lt5}
use Rattle.sq_message.proofs.read.read_me.Goals.{in_default-via-else-part-lt5+else-this-lt9+else-this-lt19+then-this-lt20}
use Rattle.sq_message.proofs.read.read_me.Goals.{in_default-via-else-part-lt5+else-this-lt9+else-this-lt19+else-this-lt20+else-this-lt23}

pub invariant_of-result-clause-type_code_in : goal.invariant_of-result-clause-type_code_in
invariant_of-result-clause-type_code_in c =
    let me : ℕ = c.field-me.result in
    let is : me / 2 ^ 51 ≡ c.part.result
    = ap (λ x. x / 2 ^ 51) c.field-me.ensures.value ∙ leading_field c.args.frame.now 33 5 51
    ∙ sym c.part.ensures.value in
    let other : IsOtherCode c.part.result = elim c.in_default.branch [
      | in_default-via-then-part-lt5 w ↦ (λ air. omega arith, λ surface. omega arith)
      | in_default-via-else-part-lt5+else-this-lt9+else-this-lt19+then-this-lt20 w ↦
          (λ air. omega arith, λ surface. omega arith)
      | in_default-via-else-part-lt5+else-this-lt9+else-this-lt19+else-this-lt20+else-this-lt23 w ↦
          (λ air. omega arith, λ surface. omega arith)
    ] in
    rw is other
