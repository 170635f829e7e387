use Rattle.std.proofs.Common.{ℕ, ℤ, SFits, w64, to_z-of_z, ap₂, ◌∙◌, arith, rules}
use Rattle.sq_angle.specs.Fraction.{IsWithin}
use Rattle.sq_angle.specs.Spelling.{Parts, value_of}
use Rattle.sq_angle.proofs.Texts.{magnitude_small, value_read, angle_within, power_positive, less_than_64}
use Rattle.sq_angle.proofs.angle.Angle.read.Goals as goal

pub overflow_mul-magnitude : goal.overflow_mul-magnitude
overflow_mul-magnitude c =
    let small = magnitude_small c.number_of.result 0 c.pow-den.result _ _ c.in-Some.ensures.0.three
    c.if-spelling-gt-MAX_DECIMALS.false c.number_of.ensures.small c.pow-den.ensures (power_positive _) in
    search (rules, less_than_64 _ small.0)

pub overflow_add-magnitude : goal.overflow_add-magnitude
overflow_add-magnitude c =
    let small = magnitude_small c.number_of.result c.number_of-2.result c.pow-den.result _ _ c.in-Some.ensures.0.three
    c.if-spelling-gt-MAX_DECIMALS.false c.number_of.ensures.small c.pow-den.ensures c.number_of-2.ensures.small in
    search (rules, less_than_64 _ small.1)

pub signed-requires : goal.signed-requires
signed-requires c =
    let small = magnitude_small c.number_of.result c.number_of-2.result c.pow-den.result _ _ c.in-Some.ensures.0.three
    c.if-spelling-gt-MAX_DECIMALS.false c.number_of.ensures.small c.pow-den.ensures c.number_of-2.ensures.small in
    omega arith

pub returns-in-Some-new : goal.returns-in-Some-new
returns-in-Some-new c =
    let s = c.in-Some.spelling in
    let p : Parts = record { negative = s.negative; whole = s.whole.now; decimals = s.decimals.now } in
    let value = value_read p c.number_of.result c.number_of-2.result c.pow-den.result c.signed.result
    c.number_of.ensures.value c.number_of-2.ensures.value c.pow-den.ensures c.signed.ensures in
    let fits : SFits w64 c.signed.result = record { sfits = c.signed.type_inv } in (
      p,
      c.in-Some.ensures,
      c.if-spelling-gt-MAX_DECIMALS.false,
      c.in-Some-new.ensures.value ∙ ap₂ (λ (n : ℤ) (d : ℕ). record { num = n; den = d })
          (to_z-of_z fits ∙ value.0) value.1,
    )

pub returns-in-None : goal.returns-in-None
returns-in-None c =
    let s = c.in-Some.spelling in
    let p : Parts = record { negative = s.negative; whole = s.whole.now; decimals = s.decimals.now } in
    let value = value_read p c.number_of.result c.number_of-2.result c.pow-den.result c.signed.result
    c.number_of.ensures.value c.number_of-2.ensures.value c.pow-den.ensures c.signed.ensures in
    let fits : SFits w64 c.signed.result = record { sfits = c.signed.type_inv } in (
      p,
      c.in-Some.ensures,
      c.if-spelling-gt-MAX_DECIMALS.false,
      λ (w : IsWithin 360 (value_of p)).
          let angle = angle_within p c.if-spelling-gt-MAX_DECIMALS.false w in
          let none = c.in-None.ensures.variant.1 (rw (to_z-of_z fits, value.0, value.1) angle) in
          absurd (cc none),
    )
