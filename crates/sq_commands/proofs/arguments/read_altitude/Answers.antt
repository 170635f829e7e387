use Rattle.std.specs.Prelude.{ℕ, OnErr, option_copied}
use Rattle.std.proofs.Common.{subst, sym}
use Rattle.sq_commands.specs.Encode.{IsAltitudeOf}
use Rattle.sq_commands.specs.declared.arguments.Kind.TheVariants.{Air}
use Rattle.sq_commands.proofs.arguments.read_altitude.Goals as goal

pub returns-in-Air-Some-clause-err : goal.returns-in-Air-Some-clause-err
returns-in-Air-Some-clause-err c =
    let here = subst (λ feet. OnErr c.read_feet.result ((a : ℕ) → ¬ IsAltitudeOf Air (option_copied feet) a))
    (sym c.in-Air-Some.is-1) c.read_feet.ensures.err in
    subst (λ kind. OnErr c.read_feet.result ((a : ℕ) → ¬ IsAltitudeOf kind (option_copied c.args.feet) a))
    (sym c.in-Air-Some.is-0) here
