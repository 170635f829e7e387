use Rattle.std.proofs.Common.{◌∙◌, ap, sym, subst}
use Rattle.sq_zones.specs.declared.parity.Parity.{Parity}
use Rattle.sq_cpr.specs.Rounds.{PositionRoundsTo}
use Rattle.sq_cpr.specs.Span.{Span}
use Rattle.sq_message.specs.Kinds.{head_of, squitter_of}
use Rattle.sq_message.specs.Parts.{squitter_parts}
use Rattle.sq_message.proofs.Exact.{squitter_of_exactly}
use Rattle.sq_message.proofs.send.send_position.Goals as goal

pub returns-clause-of_each : goal.returns-clause-of_each
returns-clause-of_each g c = λ point same rounds.
    let kind = g.F.Kind.kind in
    let head = head_of kind g.F.Kind.fields c.args.head in
    let code = c.encode-code.result in
    let there = subst (λ (s : Span). PositionRoundsTo s c.args.position.now point) (sym g.met.F.Kind.spans) rounds in
    let is = c.send_code.ensures ∙ ap (λ (p : Parity). squitter_of kind head p code) (sym same) in
    (squitter_of_exactly kind head point (squitter_parts c.send_code.result)).1
    (code, is, c.encode-code.ensures.only point same there)

pub returns-clause-sent : goal.returns-clause-sent
returns-clause-sent g c =
    let (point, same, rounds, code) = c.encode-code.ensures.code in
    let there = subst (λ (s : Span). PositionRoundsTo s c.args.position.now point) g.met.F.Kind.spans rounds in
    (point, same, there, returns-clause-of_each g c point same there)
