use Rattle.std.proofs.Common.{[], ap, rules, subst₂, sym, take}
use Rattle.sq_log.specs.declared.log.Log.{Log}
use Rattle.sq_log.specs.States.{with_job}
use Rattle.sq_track.specs.Held.{Held}
use Rattle.squitter_c.specs.LogCalls.{GoesToTheEnd, held_by}
use Rattle.squitter_c.proofs.log_loop.finish_with.Goals as goal

pub returns-clause-gone : goal.returns-clause-gone
returns-clause-gone g c =
    let As = g.F.Form.As c.args.form.now in
    let told = c.finish_some-told in
    let end = told.result.1 in
    let written = take told.result.0.written told.new.out in
    let gone = subst₂ (λ (old new : Log Held). GoesToTheEnd As end old new [] written)
    (ap held_by c.resume-log.ensures.log) (sym (ap held_by c.state.ensures)) told.ensures.gone in
    subst₂ (λ (first last : Held). GoesToTheEnd As end (with_job first c.args.state.now)
    (with_job last c.state.result) [] written) (ap (λ tracker. tracker.now) c.hear_as.ensures) (search rules) gone
