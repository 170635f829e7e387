use Rattle.std.proofs.Common.{ap, get_or, refl, ◌∙◌}
use Rattle.std.proofs.lemmas.Nat.{le_bytes_8}
use Rattle.sq_digits.proofs.HexLanes.{joined, joined_is, joined_small}
use Rattle.sq_digits.proofs.hex_lanes.bytes_of.Goals as goal

pub returns : goal.returns
returns c =
    let vs = c.args.values in
    let same = c.to_le_bytes.ensures
    ∙ le_bytes_8 (joined vs) c.from_le_bytes.result refl (joined_small vs c.fits-values.0 c.fits-values.1)
    c.from_le_bytes.ensures in
    λ place small high low. ap (λ l. get_or l place 0) same ∙ joined_is vs c.fits-values.0 place small high low
