use Rattle.std.proofs.Common.{◌≡◌, eqb, length, take, arith, w8}
use Rattle.std.proofs.lemmas.List.{length-take-le}
use Rattle.std.proofs.lemmas.Simd.{bitmask_splat}
use Rattle.sq_feed.proofs.Positions.{none_set, some_set}
use Rattle.sq_feed.proofs.cells.position_in_16.Goals as goal

pub returns-then-mask-eq0 : goal.returns-then-mask-eq0
returns-then-mask-eq0 c =
    let bytes = take 16 c.args.text.now in
    let long : length bytes ≡ 16 = length-take-le 16 c.args.text.now c.requires in
    none_set c.args.byte _ bytes long (bitmask_splat w8 eqb bytes 16 c.args.byte long (omega arith)) c.if-mask-eq0.true

pub returns : goal.returns
returns c =
    let bytes = take 16 c.args.text.now in
    let long : length bytes ≡ 16 = length-take-le 16 c.args.text.now c.requires in
    some_set c.args.byte _ bytes long (bitmask_splat w8 eqb bytes 16 c.args.byte long
    (omega arith)) c.if-mask-eq0.false
