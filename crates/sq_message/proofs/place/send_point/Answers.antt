use Rattle.std.proofs.Common.{subst}
use Rattle.sq_message.specs.Kinds.{HeadParts, InAir, OnGround}
use Rattle.sq_message.specs.Parts.{squitter_parts}
use Rattle.sq_message.specs.Sending.{IsSquitterOf}
use Rattle.sq_message.proofs.place.send_point.Goals.{in_default-via-in-Airborne+in_default}
use Rattle.sq_message.proofs.place.send_point.Goals.{in_default-via-in-Surface+in_default, in_default-via-in_default}
use Rattle.sq_message.proofs.place.send_point.Goals as goal

pub returns-in-Airborne-Air : goal.returns-in-Airborne-Air
returns-in-Airborne-Air c =
    let case = c.in-Airborne-Air in
    rw case.is-1 (
      case.own,
      case.is-0,
      subst (λ (h : HeadParts InAir). IsSquitterOf InAir h case.point (squitter_parts c.send_at.result)) c.head.ensures
          c.send_at.ensures,
    )

pub returns-in-Surface-Ground : goal.returns-in-Surface-Ground
returns-in-Surface-Ground c =
    let case = c.in-Surface-Ground in
    let sent = c.send_at-in-Surface-Ground in
    rw case.is-1 (
      case.own,
      case.is-0,
      subst (λ (h : HeadParts OnGround). IsSquitterOf OnGround h case.point (squitter_parts sent.result))
          c.head-in-Surface-Ground.ensures sent.ensures,
    )

pub returns-in_default : goal.returns-in_default
returns-in_default c = elim c.in_default.branch [
  | in_default-via-in-Airborne+in_default w ↦ absurd (rw (w.in_default.is-0, w.in_default.is-1) at c.requires)
  | in_default-via-in-Surface+in_default w ↦ absurd (rw (w.in_default.is-0, w.in_default.is-1) at c.requires)
  | in_default-via-in_default w ↦ absurd (rw w.in_default.is-0 at c.requires)
]
