use Rattle.std.proofs.Common.{◌≡◌, ℕ, ◌+◌, ◌*◌, ◌/◌, ◌%◌, ◌-◌, ◌^◌, ◌<◌, ◌≤◌, ◌∙◌, ap, sym, arith, refl}
use Rattle.std.proofs.lemmas.Nat.{one_shl}
use Rattle.sq_bits.specs.Frames.{frame_number}
use Rattle.sq_bits.proofs.Spelled.{quotient_is}
use Rattle.sq_bits.proofs.Quotient.{quotient_of, field_at}
use Rattle.sq_bits.proofs.Fields.{replaced, written, replaced-field, replaced-apart}
use Rattle.sq_bits.proofs.frame.Frame.with_field.Goals as goal

-- The field that the code removes from a number.
abbrev held : (first count n : ℕ) → ℕ
held first count n = n / 2 ^ (113 - first - count) % (1 * 2 ^ count % 2 ^ 128)

-- The step of the code over its number.
step : (n m first count value new : ℕ) → n < 2 ^ 112 → n ≡ m → 1 ≤ first → count ≤ 56 → first + count ≤ 113
    → value < 2 ^ count → new ≡ value
    → (held first count n * 2 ^ (113 - first - count) % 2 ^ 128 ≤ n)
    × (n - held first count n * 2 ^ (113 - first - count) % 2 ^ 128 + new * 2 ^ (113 - first - count) % 2 ^ 128
    ≡ replaced m (113 - first - count) count value)
    × (replaced m (113 - first - count) count value < 2 ^ 112)
unfolding quotient_of
step n m first count value new short is begins few within small same =
    let is_written = written n (113 - first - count) count value short (omega arith) small in
    let one : 1 * 2 ^ count % 2 ^ 128 ≡ 2 ^ count = one_shl count 128 (omega arith) in
    let old : held first count n ≡ field_at m first count =
    ap (λ x. n / 2 ^ (113 - first - count) % x) one ∙ ap (λ x. field_at x first count) is in
    rw (old, same, ← is) is_written

pub overflow_sub-number : goal.overflow_sub-number
overflow_sub-number c =
    (step c.number_by_words-number.result (frame_number c.args.self.now) c.args.first c.args.count c.args.value
    c.args.value c.number_by_words-number.ensures.small c.number_by_words-number.ensures.value c.requires.begins
    c.requires.short c.requires.within c.requires.fits refl).0

pub overflow_add-number : goal.overflow_add-number
overflow_add-number c =
    let done = step c.number_by_words-number.result (frame_number c.args.self.now) c.args.first c.args.count
    c.args.value c.from.result c.number_by_words-number.ensures.small c.number_by_words-number.ensures.value
    c.requires.begins c.requires.short c.requires.within c.requires.fits c.from.ensures in
    omega arith

pub from_number-requires : goal.from_number-requires
from_number-requires c =
    let done = step c.number_by_words-number.result (frame_number c.args.self.now) c.args.first c.args.count
    c.args.value c.from.result c.number_by_words-number.ensures.small c.number_by_words-number.ensures.value
    c.requires.begins c.requires.short c.requires.within c.requires.fits c.from.ensures in
    omega arith

pub returns-clause-value : goal.returns-clause-value
unfolding quotient_of
returns-clause-value c =
    let done = step c.number_by_words-number.result (frame_number c.args.self.now) c.args.first c.args.count
    c.args.value c.from.result c.number_by_words-number.ensures.small c.number_by_words-number.ensures.value
    c.requires.begins c.requires.short c.requires.within c.requires.fits c.from.ensures in
    sym (quotient_is c.from_number.result c.args.first c.args.count c.from_number.ensures.frame c.requires.begins
    c.requires.within)
    ∙ ap (λ x. field_at x c.args.first c.args.count) (c.from_number.ensures.value ∙ done.1)
    ∙ replaced-field (frame_number c.args.self.now)
    (113 - c.args.first - c.args.count) c.args.count c.args.value c.requires.fits

pub returns-clause-kept : goal.returns-clause-kept
unfolding quotient_of
returns-clause-kept c start len apart =
    let done = step c.number_by_words-number.result (frame_number c.args.self.now) c.args.first c.args.count
    c.args.value c.from.result c.number_by_words-number.ensures.small c.number_by_words-number.ensures.value
    c.requires.begins c.requires.short c.requires.within c.requires.fits c.from.ensures in
    sym (quotient_is c.from_number.result start len c.from_number.ensures.frame apart.0 apart.1)
    ∙ ap (λ x. field_at x start len) (c.from_number.ensures.value ∙ done.1)
    ∙ replaced-apart (frame_number c.args.self.now) c.args.value c.args.first c.args.count start len c.requires.fits
    c.requires.begins c.requires.within apart
    ∙ quotient_is c.args.self.now start len c.number_by_words-number.ensures.frame apart.0 apart.1
