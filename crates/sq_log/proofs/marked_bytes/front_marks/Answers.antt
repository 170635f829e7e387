use Rattle.std.proofs.Common.{◌-◌, ◌<◌, ◌∙◌, ap, rules}
use Rattle.std.specs.Int.{bit_at}
use Rattle.std.specs.Int.Bits.{bit_and}
use Rattle.sq_log.proofs.FeedMarks.{front_bit, shifted_one}
use Rattle.sq_log.proofs.marked_bytes.front_marks.Goals as goal

pub returns-clause-same : goal.returns-clause-same
returns-clause-same c k within =
    let few : c.args.count < 64 = search rules in
    ap (λ m. bit_at (bit_and c.args.feeds (m - 1)) k) (shifted_one c.args.count few)
    ∙ front_bit c.args.feeds c.args.count k within
