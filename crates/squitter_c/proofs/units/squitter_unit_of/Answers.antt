use Rattle.std.proofs.Common.{◌+◌, ◌<◌, ◌≤◌, ◌∙◌, ℕ, ap, arith, drop, false, length, min, sym}
use Rattle.std.specs.Prelude.{◌==◌, not}
use Rattle.sq_feed.specs.Units.{unit_of}
use Rattle.squitter_c.specs.Units.{unit_number, watched_arrays}
use Rattle.squitter_c.proofs.Watching.{arrays_end, arrays_more}
use Rattle.squitter_c.proofs.units.squitter_unit_of.Goals as goal

pub loop-at-preserved : goal.loop-at-preserved
loop-at-preserved c =
    let i = c.loop-at.invariant in
    let ms = c.args.moments.now in
    let xs = c.args.addresses.now in
    let at = c.loop-at.at in
    let p : at < length ms = omega (arith, c.loop-at-test.true, i.0) in
    let q : at < length xs = omega (arith, c.loop-at-test.true, i.1) in (
      i.0,
      i.1,
      ap (λ w. watched_arrays w (drop (at + 1) ms) (drop (at + 1) xs)) c.hear.ensures
          ∙ sym (arrays_more c.loop-at.units ms xs at p q) ∙ i.2,
    )

pub returns : goal.returns
returns c =
    let ms = c.args.moments.now in
    let xs = c.args.addresses.now in
    let at : ℕ = c.loop-at.at in
    let done : min (length ms) (length xs) ≤ at = omega (arith, c.loop-at-test.false, c.min-count.ensures) in
    let all = sym (arrays_end c.loop-at.units ms xs at done) ∙ c.loop-at.invariant.2 in
    c.unit_number.ensures ∙ ap unit_number (c.unit.ensures ∙ ap (unit_of (not (c.args.clocked == 0)) false) all)
