use Rattle.std.proofs.Common.{◌≡◌, ◌-◌, length, take, drop, subst, arith, rules}
use Rattle.std.proofs.lemmas.List.{take_all, length-drop}
use Rattle.sq_feed.specs.Stream.{IsPlain}
use Rattle.sq_feed.proofs.Lanes.{plain_halves}
use Rattle.sq_feed.proofs.beast.is_plain.Goals as goal

pub returns-then-are_plain : goal.returns-then-are_plain
returns-then-are_plain c is =
    let bytes = c.args.bytes.now in
    let back : take (length bytes - 5) (drop 5 bytes) ≡ drop 5 bytes =
    take_all (length bytes - 5) (drop 5 bytes) (omega (arith, length-drop 5 bytes)) in
    plain_halves bytes c.if-bytes-eq-LONGEST.true (c.are_plain.ensures (search rules))
    (subst IsPlain back (c.are_plain-then-are_plain.ensures is))
