use Rattle.std.proofs.Common.{ap}
use Rattle.std.specs.Prelude.{codes, decimal}
use Rattle.sq_digits.specs.Digits.{hexadecimal}
use Rattle.sq_commands.proofs.HeardLemmas.{pushed}
use Rattle.sq_commands.proofs.answer_lines.push_split.Goals as goal

pub returns-clause-bytes : goal.returns-clause-bytes
returns-clause-bytes c =
    pushed c.args.text.now.bytes (codes "split ") (hexadecimal 6 c.args.address) (decimal c.from.result) (decimal c.from-2.result) _ _
    c.push_address.new.text.bytes c.push_str.new.self.bytes c.push_decimal.new.text.bytes c.push_str-2.new.self.bytes
    c.push_decimal-2.new.text.bytes
    c.push_address.ensures.bytes c.push_str.ensures.bytes c.push_decimal.ensures.bytes c.push_str-2.ensures.bytes
    c.push_decimal-2.ensures.bytes
    (ap decimal c.from.ensures) (ap decimal c.from-2.ensures)
