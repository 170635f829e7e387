use Rattle.std.proofs.Common.{◌≡◌, ◌∙◌, ap, eqb, length, map, sym, take, arith, w8}
use Rattle.std.specs.Simd.Lanes.{mask_l}
use Rattle.std.proofs.lemmas.List.{take_all}
use Rattle.std.proofs.lemmas.Bool.{eqb-true}
use Rattle.std.proofs.lemmas.Simd.{bitmask_splat}
use Rattle.sq_feed.proofs.Lanes.{plain_lanes}
use Rattle.sq_feed.proofs.beast.are_plain.Goals as goal

pub returns : goal.returns
returns c none =
    let bytes = c.args.bytes.now in
    let whole : take 16 bytes ≡ bytes = take_all 16 bytes (omega (arith, c.requires)) in
    plain_lanes bytes (ap (λ bs. mask_l (map (λ x. eqb x 26) bs)) (sym whole)
    ∙ sym (bitmask_splat w8 eqb (take 16 bytes) 16 26 (ap length whole ∙ c.requires) (omega arith))
    ∙ eqb-true _ _ none)
