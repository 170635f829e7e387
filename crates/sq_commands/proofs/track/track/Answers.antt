use Rattle.std.proofs.Common.{inr, refl}
use Rattle.std.proofs.KnownBytes.{Appends-nil}
use Rattle.sq_commands.proofs.track.track.Goals as goal

-- both devices are untouched
pub returns-in-Err : goal.returns-in-Err
returns-in-Err g c =
    inr (
      c.in-Err.fault,
      c.in-Err.ensures,
      ((refl, refl, refl), (Appends-nil (g.K.Sink.written c.args.output.now), refl), c.refuse_argument.ensures),
    )
