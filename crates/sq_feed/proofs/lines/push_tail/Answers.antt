use Rattle.std.proofs.Common.{◌≡◌, ◌∙◌, ◌++◌, ap, subst, sym, length, arith, rules}
use Rattle.std.proofs.lemmas.List.{take_all}
use Rattle.std.specs.Str.{IsAscii}
use Rattle.sq_feed.proofs.Digits.{ascii_tail, tail_is}
use Rattle.sq_feed.proofs.lines.push_tail.Goals as goal

pub push_front-requires : goal.push_front-requires
push_front-requires g c =
    let long : length c.as_bytes.result.now ≡ g.row.LEN =
    omega (
      arith,
      ap length c.as_bytes.ensures.value,
      c.push-2.ensures.len,
      c.loop-byte.invariant.len,
      c.loop-byte-test.false,
      c.loop-byte.auto,
      c.requires.all,
    ) in (
      search rules,
      (
        subst IsAscii (sym (tail_is c.args.bytes.now c.as_bytes.result.now c.loop-byte.tail.bytes _
            c.loop-byte.byte-index
            (search rules) c.as_bytes.ensures.value c.push-2.ensures.bytes c.loop-byte.invariant.bytes))
            (ascii_tail c.args.bytes.now),
        (omega (arith, long), omega (arith, long, c.requires.room)),
      ),
    )

pub returns-clause-bytes : goal.returns-clause-bytes
returns-clause-bytes g c =
    c.push_front.ensures.bytes
    ∙ ap (λ t. c.args.text.now.bytes ++ t) (take_all g.row.LEN c.as_bytes.result.now (search rules)
    ∙ tail_is c.args.bytes.now c.as_bytes.result.now c.loop-byte.tail.bytes _ c.loop-byte.byte-index (search rules)
    c.as_bytes.ensures.value c.push-2.ensures.bytes c.loop-byte.invariant.bytes)
