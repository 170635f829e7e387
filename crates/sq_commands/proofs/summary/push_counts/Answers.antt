use Rattle.std.proofs.Common.{◌∙◌, ◌++◌, ap, ap₂, ℕ, List}
use Rattle.std.specs.Prelude.{codes, decimal}
use Rattle.sq_commands.specs.Summary.{other_formats, part}
use Rattle.sq_commands.proofs.Summaries.{counts_pushed}
use Rattle.sq_commands.proofs.summary.push_counts.Goals as goal

pub returns-clause-bytes : goal.returns-clause-bytes
returns-clause-bytes c =
    let tally = c.args.counts.now in
    let more : List ℕ → List ℕ → ℕ → List ℕ = λ name front count. front ++ part count name in
    let one = c.push_decimal.ensures.bytes
    ∙ ap (λ n. c.args.text.now.bytes ++ decimal n) c.written.ensures in
    let two = c.push_str.ensures.bytes ∙ ap (λ l. l ++ codes " written") one in
    let three = c.push_others.ensures.bytes ∙ ap (λ l. l ++ other_formats tally.formats) two in
    let four = c.push_part.ensures.bytes ∙ ap₂ (more (codes " of Mode A/C")) three c.mode_ac.ensures in
    let five = c.push_part-2.ensures.bytes ∙ ap₂ (more (codes " multilaterated")) four c.multilaterated.ensures in
    let six = c.push_part-3.ensures.bytes ∙ ap₂ (more (codes " receiver ids")) five c.receiver_ids.ensures in
    let seven = c.push_part-4.ensures.bytes ∙ ap₂ (more (codes " set aside")) six c.aside.ensures in
    let eight = c.push_part-5.ensures.bytes ∙ ap₂ (more (codes " damaged")) seven c.damaged.ensures in
    eight ∙ counts_pushed c.args.text.now.bytes tally
