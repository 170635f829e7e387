-- How places and altitudes are written.
use Rattle.sq_angle.proofs.SomeText.{writer}
use Rattle.sq_text.proofs.Altitudes.{altitudes}
use Rattle.sq_commands.specs.Formats.{Writers}

pub some_writers : Writers
some_writers = record { decimals = writer; altitudes = altitudes }
