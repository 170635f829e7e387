use Rattle.std.proofs.Common.{◌≡◌, ◌-◌, ◌∙◌, true, false, length, take, sym, refl, rules, arith}
use Rattle.std.specs.Prelude.{◌==◌}
use Rattle.std.specs.Io.BufRead.{strip_last}
use Rattle.std.proofs.lemmas.Bool.Decides.{nat_tests}
use Rattle.sq_log.proofs.Contents.{content-over, content-within}
use Rattle.sq_log.proofs.lines.content_in.Goals as goal

pub returns-then-line-gt-LINE_LIMIT : goal.returns-then-line-gt-LINE_LIMIT
returns-then-line-gt-LINE_LIMIT c = sym (content-over c.args.line.now (search rules))

pub returns-in-empty : goal.returns-in-empty
returns-in-empty c =
    let line = c.args.line.now in
    let own : line ≡ strip_last 13 line = search rules in
    sym (content-within line line true c.if-line-gt-LINE_LIMIT.false own
    (grind (arith, nat_tests, c.in-empty.len_below)))

pub returns-in-13 : goal.returns-in-13
returns-in-13 c =
    let line = c.args.line.now in
    let front = take (length line - 1) line in
    let own : front ≡ strip_last 13 line = search rules in
    c.text_of.ensures ∙ sym (content-within line front (length front == 0) c.if-line-gt-LINE_LIMIT.false own refl)

pub returns-in_default : goal.returns-in_default
returns-in_default c =
    let line = c.args.line.now in
    let own : line ≡ strip_last 13 line = search rules in
    sym (content-within line line false c.if-line-gt-LINE_LIMIT.false own
    (grind (arith, nat_tests, c.in_default.len_at_least)))
