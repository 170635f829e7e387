use Rattle.std.proofs.Common.{inr, refl}
use Rattle.std.proofs.KnownBytes.{Appends-nil}
use Rattle.sq_commands.proofs.check.check.Goals as goal

-- both devices are untouched
pub returns-in-Err : goal.returns-in-Err
returns-in-Err g c =
    inr (
      c.in-Err.ensures.err,
      (
        (refl, refl, refl),
        (Appends-nil (g.K.Sink.written c.args.output.now), refl),
        rw c.in-Err.ensures.fault at c.refuse_argument.ensures,
      ),
    )
