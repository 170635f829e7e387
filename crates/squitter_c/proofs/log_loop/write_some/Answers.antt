use Rattle.std.proofs.Common.{◌-◌, ◌++◌, ◌∷◌, ◌∙◌, List, [], arith, drop, length, refl, subst, take}
use Rattle.sq_commands.specs.declared.answers.HeardSquitter.{HeardSquitter}
use Rattle.sq_log.specs.declared.log.Answer.{Answer as Told}
use Rattle.squitter_c.proofs.LogSteps.{all_taken, on_answered, rest_further}
use Rattle.squitter_c.proofs.LogGoing.{goes_on, is_fed, passes, runs_out, smaller, starts}
use Rattle.squitter_c.proofs.log_loop.write_some.Goals as goal

pub loop-out-init : goal.loop-out-init
loop-out-init g c = record {
  going = starts (g.F.Form.As c.args.form.now) c.args.log.now c.args.piece.now c.args.out.now c.args.from
      c.requires.from;
  form = refl;
  long = refl;
}

pub slice_bounds-step-count : goal.slice_bounds-step-count
slice_bounds-step-count g c = c.loop-out.invariant.going.on.taken

pub slice_bounds-step-start : goal.slice_bounds-step-start
slice_bounds-step-start g c = search (arith, c.loop-out.invariant.going.on.taken)

pub step-requires : goal.step-requires
step-requires g c = omega (arith, c.loop-out.invariant.going.room, c.requires.few)

pub returns-in-Fed-clause-goes_on : goal.returns-in-Fed-clause-goes_on
returns-in-Fed-clause-goes_on g c =
    let step = c.in-Fed.ensures in
    is_fed c.loop-out.invariant.going c.step.new.self step.number step.lasting step.stepped

pub returns-in-Fed-clause-end : goal.returns-in-Fed-clause-end
returns-in-Fed-clause-end g c =
    all_taken c.args.piece.now c.loop-out.taken c.loop-out.invariant.going.on.taken c.in-Fed.ensures.within

pub loop-out-smaller-in-Passed : goal.loop-out-smaller-in-Passed
loop-out-smaller-in-Passed g c =
    let step = c.in-Passed.ensures in
    smaller c.loop-out.invariant.going c.step.new.self step.number step.lasting c.in-Passed.count step.within
    step.progress

pub loop-out-preserved-in-Passed : goal.loop-out-preserved-in-Passed
loop-out-preserved-in-Passed g c =
    let step = c.in-Passed.ensures in
    let is = c.loop-out.invariant in
    record {
      going = passes is.going c.step.new.self step.number step.lasting c.in-Passed.count step.stepped step.within
          step.progress;
      form = is.form;
      long = is.long;
    }

pub loop-out-smaller : goal.loop-out-smaller
loop-out-smaller g c =
    let step = c.in-Answered.ensures in
    smaller c.loop-out.invariant.going c.step.new.self step.number step.lasting c.in-Answered.count step.within
    step.progress

pub loop-out-preserved : goal.loop-out-preserved
loop-out-preserved g c =
    let l = c.loop-out in
    let step = c.in-Answered.ensures in
    let As = g.F.Form.As c.args.form.now in
    let new = c.step.new.self in
    let count = c.in-Answered.count in
    let rest = take (length c.args.piece.now - l.taken) (drop l.taken c.args.piece.now) in
    let out = c.put-written.new.out in
    let place = c.put-written.result in
    let told = subst (λ form. (told : List (Told HeardSquitter)) → g.F.Form.As form told (take l.written l.out)
    → g.F.Form.As form (told ++ c.in-Answered.answer ∷ []) (take place out)) l.invariant.form
    c.put-written.ensures.put in
    record {
      going = goes_on l.invariant.going new step.number step.lasting out count place step.within
          (on_answered As l.log new rest count c.in-Answered.answer (take l.written l.out) (take place out) step.stepped
          told) c.put-written.ensures.rest.0 c.put-written.ensures.fits.0
          (c.put-written.ensures.rest.1 ∙ rest_further l.out c.args.out.now l.written place c.put-written.ensures.rest.0
          l.invariant.going.on.rest) step.progress;
      form = c.put-written.ensures.same ∙ l.invariant.form;
      long = c.put-written.ensures.fits.1 ∙ l.invariant.long;
    }

pub put-written-requires : goal.put-written-requires
put-written-requires g c = search (arith, c.loop-out-test.true, c.loop-out.invariant.going.on.written.1)

pub overflow_sub-out : goal.overflow_sub-out
overflow_sub-out g c = c.loop-out.invariant.going.on.written.1

pub returns-in-NoMemory-clause-goes_on : goal.returns-in-NoMemory-clause-goes_on
returns-in-NoMemory-clause-goes_on g c =
    let step = c.in-NoMemory.ensures in
    runs_out c.loop-out.invariant.going c.step.new.self step.number step.lasting c.in-NoMemory.count step.stepped
    step.within

pub returns-clause-goes_on : goal.returns-clause-goes_on
returns-clause-goes_on g c = c.loop-out.invariant.going.on
