use Rattle.std.proofs.Common.{◌≡◌, ◌+◌, ◌-◌, ◌*◌, ◌≤◌, ◌++◌, drop}
use Rattle.sq_digits.specs.Buffer.{text_len}
use Rattle.sq_commands.specs.Summary.{format_texts, joined, rest_of}
use Rattle.sq_commands.proofs.summary.push_formats.Given as goal

-- the text, with the formats to come, is the whole
abbrev pub invariant-loop-format : goal.invariant-loop-format
invariant-loop-format l = record {
  within : l.format ≤ 25;
  bytes : l.text.bytes ++ rest_of l.is_first (format_texts l.format (drop l.format l.formats))
      ≡ l.initial.text.bytes ++ joined (format_texts 0 l.formats);
  len : text_len l.text ≤ text_len l.initial.text + 45 * l.format;
}

abbrev pub decreases-loop-format : goal.decreases-loop-format
decreases-loop-format l = 25 - l.format
