use Rattle.std.proofs.Common.{[], arith, subst}
use Rattle.squitter_c.specs.LogCalls.{HasGoneOn}
use Rattle.squitter_c.proofs.LogSteps.{has_ended}
use Rattle.squitter_c.proofs.LogGoing.{ends_all, stops, writes_all}
use Rattle.squitter_c.proofs.log_loop.finish_some.Goals as goal

pub write_some-requires-clause-few : goal.write_some-requires-clause-few
write_some-requires-clause-few g c =
    omega (
      arith,
      c.end.ensures.short,
      c.end.ensures.number,
      c.requires.few,
      c.requires.short,
      c.write_some-end.ensures.goes_on.number,
    )

pub returns-in-Fed-clause-gone : goal.returns-in-Fed-clause-gone
returns-in-Fed-clause-gone g c =
    ends_all c.in-Fed.is c.write_some-end.ensures.goes_on
    (subst (λ f. HasGoneOn (g.F.Form.As f) c.write_some.result.1 c.end.new.self c.write_some.new.log []
    c.write_some-end.new.out c.write_some.new.out c.write_some-end.result.0.written c.write_some.result.0)
    c.write_some-end.ensures.form c.write_some.ensures.goes_on)
    (has_ended c.write_some-end.new.log c.end.new.self c.end.ensures.ended)

pub returns-in-Fed-clause-written : goal.returns-in-Fed-clause-written
returns-in-Fed-clause-written g c =
    let one = c.write_some-end.ensures in
    let two = c.write_some.ensures in
    writes_all c.in-Fed.is one.goes_on
    (subst (λ f. HasGoneOn (g.F.Form.As f) c.write_some.result.1 c.end.new.self c.write_some.new.log []
    c.write_some-end.new.out c.write_some.new.out c.write_some-end.result.0.written c.write_some.result.0)
    one.form two.goes_on) one.long two.long

pub returns-in-Full-clause-gone : goal.returns-in-Full-clause-gone
returns-in-Full-clause-gone g c =
    stops c.in-Full.is c.write_some-end.ensures.goes_on (λ is. absurd (cc is))

pub returns-in-NoMemory-clause-gone : goal.returns-in-NoMemory-clause-gone
returns-in-NoMemory-clause-gone g c =
    stops c.in-NoMemory.is c.write_some-end.ensures.goes_on (λ is. absurd (cc is))
