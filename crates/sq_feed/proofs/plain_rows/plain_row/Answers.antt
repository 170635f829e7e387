use Rattle.std.proofs.Common.{◌+◌, ◌-◌, arith, drop, length, take}
use Rattle.std.proofs.lemmas.List.{length-drop, take_all}
use Rattle.sq_feed.proofs.PlainRows.{row_at}
use Rattle.sq_feed.proofs.plain_rows.plain_row.Goals as goal

pub returns : goal.returns
returns c =
    let piece = c.args.piece.now in
    let decimals = c.in_ok-decimals.decimals in
    let comma = c.in_ok-comma.comma in
    let after = take (length piece - 11) (drop 11 piece) in
    let cell = take (length after - (decimals + 1)) (drop (decimals + 1) after) in
    let rest = take (length cell - (comma + 1)) (drop (comma + 1) cell) in
    row_at piece after cell rest c.in_ok-frame.frame decimals comma c.seconds_at.result c.thousandths.result
    c.in_ok-ends.ends (omega (arith, c.if-piece-lt-NEAR.false))
    (take_all (length piece - 11) (drop 11 piece) (omega (arith, length-drop 11 piece)))
    (take_all (length after - (decimals + 1)) (drop (decimals + 1) after) (omega
    (arith, length-drop (decimals + 1) after)))
    (take_all (length cell - (comma + 1)) (drop (comma + 1) cell) (omega (arith, length-drop (comma + 1) cell)))
    (c.has_seconds.ensures.digits c.if-not-has_seconds.false) (c.has_seconds.ensures.point c.if-not-has_seconds.false)
    c.seconds_at.ensures.value
    c.in_ok-decimals.ensures.digits c.in_ok-decimals.ensures.comma c.in_ok-decimals.ensures.few
    c.thousandths.ensures.value c.in_ok-comma.ensures.comma c.in_ok-comma.ensures.before c.in_ok-comma.ensures.few
    c.in_ok-comma.ensures.bare
    c.in_ok-frame.ensures c.in_ok-ends.ensures
