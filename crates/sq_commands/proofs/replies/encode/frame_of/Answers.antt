use Rattle.std.specs.Prelude.{option_copied}
use Rattle.std.proofs.Common.{◌∙◌, ap, inl, inr, subst, sym}
use Rattle.std.proofs.lemmas.Result.{err_from_is_err_and}
use Rattle.sq_commands.specs.Arguments.{IsPositionFault, kind_name}
use Rattle.sq_commands.specs.Encode.{IsAltitudeOf}
use Rattle.sq_commands.specs.declared.arguments.Kind.TheVariants.{Air, Ground}
use Rattle.sq_commands.proofs.replies.encode.frame_of.Goals as goal

pub returns-in-Air : goal.returns-in-Air
returns-in-Air c = (
  record {
    kind = Air;
    parity = c.in_ok-parity.parity;
    address = c.in_ok-address.address;
    altitude = c.in_ok-altitude.altitude;
    position = c.in_ok-position.position;
  },
  record {
    kind = c.in_ok-kind.ensures.ok ∙ ap kind_name c.in-Air.is;
    parity = c.in_ok-parity.ensures.ok;
    address = c.in_ok-address.ensures.ok;
    altitude = subst (λ kind. IsAltitudeOf kind
        (option_copied c.args.words.now.feet) c.in_ok-altitude.altitude) c.in-Air.is c.in_ok-altitude.ensures.ok;
    position = c.in_ok-position.ensures;
  },
  c.air_frame.ensures,
)

pub returns-in-Ground : goal.returns-in-Ground
returns-in-Ground c = (
  record {
    kind = Ground;
    parity = c.in_ok-parity.parity;
    address = c.in_ok-address.address;
    altitude = c.in_ok-altitude.altitude;
    position = c.in_ok-position.position;
  },
  record {
    kind = c.in_ok-kind.ensures.ok ∙ ap kind_name c.in-Ground.is;
    parity = c.in_ok-parity.ensures.ok;
    address = c.in_ok-address.ensures.ok;
    altitude = subst (λ kind. IsAltitudeOf kind
        (option_copied c.args.words.now.feet) c.in_ok-altitude.altitude) c.in-Ground.is c.in_ok-altitude.ensures.ok;
    position = c.in_ok-position.ensures;
  },
  c.ground_frame.ensures,
)

pub returns-in_err-address : goal.returns-in_err-address
returns-in_err-address c =
    let p = err_from_is_err_and c.from_residual-in_err-address.result c.from_residual-in_err-address.ensures.1 in
    rw p.1
    (inr (
      (c.in_ok-kind.kind, c.in_ok-kind.ensures.ok),
      inr (
        (c.in_ok-parity.parity, c.in_ok-parity.ensures.ok),
        inl (p.2 ∙ c.in_err-address.ensures.fault, λ good. c.in_err-address.ensures.err good.0 good.1),
      ),
    ))

pub returns-in_err-position : goal.returns-in_err-position
returns-in_err-position c =
    let p = err_from_is_err_and c.from_residual-in_err-position.result c.from_residual-in_err-position.ensures.1 in
    let why = subst (IsPositionFault c.args.words.now.lat.now c.args.words.now.lon.now)
    (sym p.2) c.in_err-position.ensures in
    rw p.1
    (inr (
      (c.in_ok-kind.kind, c.in_ok-kind.ensures.ok),
      inr (
        (c.in_ok-parity.parity, c.in_ok-parity.ensures.ok),
        inr (
          (c.in_ok-address.address, c.in_ok-address.ensures.ok),
          inr (
            (c.in_ok-kind.kind, c.in_ok-kind.ensures.ok, (c.in_ok-altitude.altitude, c.in_ok-altitude.ensures.ok)),
            why,
          ),
        ),
      ),
    ))
