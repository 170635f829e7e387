use Rattle.std.proofs.Common.{true, ap}
use Rattle.clap.specs.Words.{App}
use Rattle.sq_words.proofs.command_line.program.Goals as goal

-- a command line records only that there is a version
pub returns-clause-app : goal.returns-clause-app
returns-clause-app c =
    let versioned : App → App = λ a.
    record a { top = record a.top { has_version = true; subcommand_required = true } } in
    rw c.subcommand_required.ensures (rw c.version.ensures (ap versioned c.command.ensures.app))

pub returns-clause-own : goal.returns-clause-own
returns-clause-own c = rw c.subcommand_required.ensures (rw c.version.ensures c.command.ensures.own)
