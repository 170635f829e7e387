use Rattle.std.proofs.Common.{sym}
use Rattle.std.proofs.lemmas.List.{length-take-le}
use Rattle.sq_feed.proofs.plain_rows.frame_at.Goals as goal

pub slice_bounds-decode_28-end : goal.slice_bounds-decode_28-end
slice_bounds-decode_28-end c = sym (length-take-le 28 c.args.text.now c.requires)

pub decode_28-requires : goal.decode_28-requires
decode_28-requires c = length-take-le 28 c.args.text.now c.requires
