use Rattle.std.proofs.Common.{◌∙◌, ap}
use Rattle.sq_zones.specs.declared.parity.Parity.{Parity}
use Rattle.sq_message.specs.Kinds.{head_of, squitter_of}
use Rattle.sq_message.specs.Parts.{squitter_parts}
use Rattle.sq_message.proofs.Exact.{squitter_of_exactly}
use Rattle.sq_message.proofs.place.send_at.Goals as goal

pub returns : goal.returns
returns g c =
    let kind = g.F.Kind.kind in
    let head = head_of kind g.F.Kind.fields c.args.head in
    let code = c.code.result in
    let is = c.send_code.ensures ∙ ap (λ (p : Parity). squitter_of kind head p code) c.parity.ensures.value in
    (squitter_of_exactly kind head c.args.point.now (squitter_parts c.send_code.result)).1 (code, is, c.code.ensures)
