use Rattle.std.proofs.Common.{◌∙◌, ap}
use Rattle.std.proofs.lemmas.Str.Ascii.{trim_ascii_is}
use Rattle.sq_feed.specs.Cells.{unquoted, without_front}
use Rattle.std.proofs.Common.{refl}
use Rattle.sq_feed.proofs.cells.content_of.Goals as goal

pub returns : goal.returns
returns c =
    c.unquoted.ensures
    ∙ ap unquoted (trim_ascii_is c.args.cell.now c.trim_ascii.result.now (without_front c.args.cell.now) refl
    c.trim_ascii.ensures.value)
