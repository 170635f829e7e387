use Rattle.std.proofs.Common.{◌≡◌, ◌∙◌, ◌<◌, ◌≤◌, ◌+◌, ◌++◌, ℕ, List, [], length, drop, ap, append-nil, arith, sym}
use Rattle.std.proofs.lemmas.List.{drop_all}
use Rattle.sq_commands.specs.Summary.{format_texts, rest_of}
use Rattle.sq_commands.proofs.Summaries.{rest_all, rest_none, texts_more, texts_none}
use Rattle.sq_commands.proofs.summary.push_formats.Goals as goal

pub loop-format-init : goal.loop-format-init
loop-format-init c = record {
  within = omega arith;
  bytes = ap (λ l. c.args.text.now.bytes ++ l) (rest_all (format_texts 0 c.args.formats.now));
  len = omega arith;
}

pub loop-format-preserved : goal.loop-format-preserved
loop-format-preserved c =
    let i = c.loop-format.invariant in
    let counts : List ℕ = c.args.formats.now in
    let at : ℕ = c.loop-format.format in
    let within : at < length counts = omega (arith, c.told-formats, c.loop-format-test.true) in
    record {
      within = omega (arith, c.loop-format-test.true);
      bytes = c.push_format-is_first.ensures.bytes (format_texts (at + 1) (drop (at + 1) counts))
          ∙ ap (λ l. c.loop-format.text.bytes ++ rest_of c.loop-format.is_first l) (sym (texts_more counts at within))
          ∙ i.bytes;
      len = omega (arith, i.len, c.push_format-is_first.ensures.len);
    }

pub returns-clause-bytes : goal.returns-clause-bytes
returns-clause-bytes c =
    let i = c.loop-format.invariant in
    let counts : List ℕ = c.args.formats.now in
    let at : ℕ = c.loop-format.format in
    let text : List ℕ = c.loop-format.text.bytes in
    let first = c.loop-format.is_first in
    let all : length counts ≤ at = omega (arith, c.told-formats, c.loop-format-test.false) in
    let none : format_texts at (drop at counts) ≡ [] = ap (format_texts at) (drop_all at counts all) ∙ texts_none at in
    sym (ap (λ l. text ++ rest_of first l) none ∙ ap (λ l. text ++ l) (rest_none first) ∙ append-nil text) ∙ i.bytes
