use Rattle.std.proofs.Common.{◌∙◌, ◌+◌, ◌*◌, ◌++◌, [], ◌∷◌, ap₂, sym, arith}
use Rattle.std.proofs.lemmas.List.FromFn.{map-range_with_len_more}
use Rattle.sq_feed.specs.Avr.{byte_at}
use Rattle.sq_feed.proofs.avr.bytes_of.Goals as goal

pub loop-k-preserved : goal.loop-k-preserved
loop-k-preserved c =
    let k = c.loop-k.k in
    let digits = c.args.digits.now in (
      c.push.ensures.items
          ∙ ap₂ (λ xs b. xs ++ b ∷ []) c.loop-k.invariant.0
          (ap₂ (λ x y. 16 * x + y) c.value_of.ensures.value c.value_of-in-loop-k.ensures.value)
          ∙ sym (map-range_with_len_more (byte_at digits) 0 k k (omega arith)),
      omega (arith, c.push.ensures.len, c.loop-k.invariant.1),
    )
