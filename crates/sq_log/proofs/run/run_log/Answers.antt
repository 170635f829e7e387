use Rattle.std.proofs.Common.{◌≡◌, ◌+◌, ◌<◌, ◌++◌, ◌∷◌, ◌∙◌, [], ℕ, Bool, List, Ok, Err, ap, append-nil, arith, inl, inr}
use Rattle.std.proofs.Common.{false, true, length, nat_eq, refl, subst, sym}
use Rattle.std.specs.Io.KnownBytes.{Consumes}
use Rattle.std.specs.List.{concat}
use Rattle.std.proofs.KnownBytes.{Consumes-nil}
use Rattle.std.proofs.lemmas.Bool.{eqb-true, eqb-false}
use Rattle.std.proofs.lemmas.List.{length-append}
use Rattle.sq_devices.specs.Changes.{taken_from, written_on}
use Rattle.sq_devices.proofs.Puts.{HasPut-nil}
use Rattle.sq_devices.specs.Device.{IsPrefixOf}
use Rattle.sq_log.specs.Answers.{WantsAt}
use Rattle.sq_log.specs.Lines.{ended_lines, lines_of, with_next}
use Rattle.sq_log.specs.Logs.{HasHeard}
use Rattle.sq_log.specs.declared.run.RunFault.TheVariants.{Read}
use Rattle.sq_log.specs.Runs.{HasGot, HasToldBy, fed}
use Rattle.sq_log.proofs.Gets.{consumes_hidden, got_on, got_up_to_end, made_of_more, made_of_nothing}
use Rattle.sq_log.proofs.Windows.{passed_all, passed_first, passed_to_end}
use Rattle.sq_log.proofs.Running.{fed_not, no_feeds, no_more, nothing_given, of_fed, pumped_answered, pumped_passed}
use Rattle.sq_log.proofs.Running.{run_reported, told_behind, told_header, told_part, told_sent}
use Rattle.sq_log.proofs.Running.{told_unfinished, told_wrote}
use Rattle.sq_log.proofs.run.run_log.Goals as goal

pub steps-init : goal.steps-init
steps-init g c =
    let log = c.args.log.now in
    let none : length log.window.waiting ≡ 0 =
    omega (arith, ap length c.requires.kept.whole, length-append c.requires.kept.read log.window.waiting) in
    record {
      room = omega (arith, none, c.requires.number, g.met.S.Source.few_gets c.args.source.now);
      unfinished = refl;
      lasting = refl;
      read = [];
      pumped = record {
        lines = [];
        answers = [];
        heard = c.requires;
        put = λ past. HasPut-nil g.K.Sink c.put_header.new.sink;
      };
      got = record {
        consumed = Consumes-nil (g.S.Source.to_come c.args.source.now);
        few = omega arith;
        back = omega arith;
      };
      running = λ e. omega arith;
      made = λ e. made_of_nothing g.S.Source c.args.source.now;
      made_all = λ e. absurd (cc e);
      at_end = λ e. absurd (cc e);
    }

pub steps-preserved-in-Passed : goal.steps-preserved-in-Passed
steps-preserved-in-Passed g c =
    let i = c.steps.invariant in
    let how = g.J.Job.how in
    let text = g.J.Telling.text in
    let k = g.K.Sink in
    let start = c.args.log.now.job in
    let before = c.args.sink.now in
    let first = c.put_header.new.sink in
    let header = g.J.Telling.front in
    let new = c.step.new.self in
    let given : List ℕ = fed c.steps.ended i.read in
    let taken : ℕ = c.in-Passed.field-0 in
    let on = c.in-Passed.ensures.stepped start given i.pumped.lines i.pumped.answers i.pumped.heard in
    let same = nothing_given given taken c.in-Passed.ensures.within in
    record {
      room = omega (
        arith,
        c.in-Passed.ensures.within,
        c.in-Passed.ensures.number,
        c.in-Passed.ensures.progress,
        i.room,
      );
      unfinished = i.unfinished;
      lasting = c.in-Passed.ensures.lasting ∙ i.lasting;
      read = i.read;
      pumped = pumped_passed how text start k first c.steps.sink c.steps.log new given given i.pumped
          (on.0, subst (λ l. HasHeard how start new l (i.pumped.lines ++ on.0) i.pumped.answers) same on.1);
      got = i.got;
      running = i.running;
      made = i.made;
      made_all = i.made_all;
      at_end = i.at_end;
    }

pub steps-preserved-in-Ok-put_answer : goal.steps-preserved-in-Ok-put_answer
steps-preserved-in-Ok-put_answer g c =
    let i = c.steps.invariant in
    let how = g.J.Job.how in
    let text = g.J.Telling.text in
    let k = g.K.Sink in
    let start = c.args.log.now.job in
    let before = c.args.sink.now in
    let first = c.put_header.new.sink in
    let header = g.J.Telling.front in
    let new = c.step.new.self in
    let given : List ℕ = fed c.steps.ended i.read in
    let taken : ℕ = c.in-Answered.field-0 in
    let answer = c.in-Answered.answer in
    let on = c.in-Answered.ensures.stepped start given i.pumped.lines i.pumped.answers i.pumped.heard in
    let same = nothing_given given taken c.in-Answered.ensures.within in
    record {
      room = omega (
        arith,
        c.in-Answered.ensures.within,
        c.in-Answered.ensures.number,
        c.in-Answered.ensures.progress,
        i.room,
      );
      unfinished = c.put_answer.ensures.unfinished ∙ i.unfinished;
      lasting = c.in-Answered.ensures.lasting ∙ i.lasting;
      read = i.read;
      pumped = pumped_answered how text start k first c.steps.sink c.put_answer.new.sink c.steps.log
          new given given answer i.pumped (
            on.0,
            subst (λ l. HasHeard how start new l (i.pumped.lines ++ on.0 ∷ [])
                (i.pumped.answers ++ answer ∷ [])) same on.1,
          )
          c.in-Ok-put_answer.ensures.put;
      got = i.got;
      running = i.running;
      made = i.made;
      made_all = i.made_all;
      at_end = i.at_end;
    }

pub returns-in-Err-put_answer-clause-ran : goal.returns-in-Err-put_answer-clause-ran
returns-in-Err-put_answer-clause-ran g c =
    let i = c.steps.invariant in
    let how = g.J.Job.how in
    let text = g.J.Telling.text in
    let k = g.K.Sink in
    let start = c.args.log.now.job in
    let before = c.args.sink.now in
    let first = c.put_header.new.sink in
    let header = g.J.Telling.front in
    let new = c.step.new.self in
    let given : List ℕ = fed c.steps.ended i.read in
    let answer = c.in-Answered.answer in
    let on = c.in-Answered.ensures.stepped start given i.pumped.lines i.pumped.answers i.pumped.heard in
    let lines = i.pumped.lines ++ on.0 ∷ [] in
    let same = nothing_given given c.in-Answered.field-0 c.in-Answered.ensures.within in
    let heard = subst (λ l. HasHeard how start new l lines (i.pumped.answers ++ answer ∷ [])) same on.1 in
    let prefix = passed_first new.window.line new.window.waiting given lines heard.kept in (
      (
        c.in-Err-put_answer.ensures.failed,
        c.put_answer.ensures.unfinished ∙ i.unfinished ∙ c.put_header.ensures.unfinished,
      ),
      (
        lines,
        (
          i.read,
          i.got.consumed,
          i.got.few,
          of_fed (taken_from g.S.Source c.args.source.now c.steps.source) c.steps.ended i.read (IsPrefixOf lines)
              i.at_end prefix,
        ),
        told_part how text start k first header before c.in-Ok.ensures.put c.steps.sink c.put_answer.new.sink
            c.steps.log new given given answer i.pumped (on.0, heard) c.in-Err-put_answer.ensures.part,
      ),
    )

pub returns-in-NoMemory-clause-ran : goal.returns-in-NoMemory-clause-ran
returns-in-NoMemory-clause-ran g c =
    let i = c.steps.invariant in
    let how = g.J.Job.how in
    let text = g.J.Telling.text in
    let k = g.K.Sink in
    let start = c.args.log.now.job in
    let before = c.args.sink.now in
    let first = c.put_header.new.sink in
    let header = g.J.Telling.front in
    let now = c.step.new.self.job in
    let lines = i.pumped.lines in
    let given : List ℕ = fed c.steps.ended i.read in
    let stop = c.in-NoMemory.ensures.stepped start given lines i.pumped.answers i.pumped.heard in
    let same = nothing_given given c.in-NoMemory.field-0 c.in-NoMemory.ensures.within in
    let prefix = subst (λ l. IsPrefixOf (with_next lines stop.1.0) (ended_lines l)) same stop.1.1 in
    let told = told_behind how text start k first header before c.in-Ok.ensures.put c.steps.sink now
    c.step.new.self.tally lines i.pumped.answers i.pumped.put stop.0.told in (
      i.unfinished ∙ c.put_header.ensures.unfinished,
      (
        lines,
        (
          i.read,
          i.got.consumed,
          i.got.few,
          of_fed (taken_from g.S.Source c.args.source.now c.steps.source) c.steps.ended i.read
              (λ complete. (next : List ℕ) × IsPrefixOf (with_next lines next) complete × WantsAt how now next)
              i.at_end (stop.1.0, prefix, stop.1.2),
        ),
        told_wrote how text start k first header before c.in-Ok.ensures.put c.steps.sink now c.step.new.self.tally
            lines told,
      ),
    )

pub returns-in_default-clause-ran : goal.returns-in_default-clause-ran
returns-in_default-clause-ran g c =
    let i = c.steps.invariant in
    let how = g.J.Job.how in
    let text = g.J.Telling.text in
    let k = g.K.Sink in
    let start = c.args.log.now.job in
    let before = c.args.sink.now in
    let first = c.put_header.new.sink in
    let header = g.J.Telling.front in
    let new = c.step.new.self in
    let lines = i.pumped.lines in
    let given : List ℕ = fed c.steps.ended i.read in
    let fed_all = c.in-Fed.ensures.stepped start given lines i.pumped.answers i.pumped.heard in
    let given_is : given ≡ i.read = fed_not c.steps.ended i.read c.if-ended.false in
    let all : lines ≡ ended_lines given =
    passed_all new.window.line new.window.waiting given lines fed_all.1.kept fed_all.2 in
    let told = told_behind how text start k first header before c.in-Ok.ensures.put c.steps.sink new.job new.tally
    lines i.pumped.answers i.pumped.put fed_all.1.told in (
      i.unfinished ∙ c.put_header.ensures.unfinished,
      (
        lines,
        (
          c.in_default.ensures.err.failed,
          (
            i.read,
            consumes_hidden _ _ _ i.read i.got.consumed c.in_default.ensures.err.kept,
            omega (arith, i.running c.if-ended.false, c.in_default.ensures.err.unused),
            all ∙ ap ended_lines given_is,
          ),
        ),
        subst (λ job. HasToldBy header text how start job (Err Read) (written_on k before c.steps.sink) lines)
            (sym c.get_from.ensures.job)
            (told_wrote how text start k first header before c.in-Ok.ensures.put c.steps.sink new.job new.tally lines
            told),
      ),
    )

pub steps-preserved : goal.steps-preserved
steps-preserved g c =
    let i = c.steps.invariant in
    let how = g.J.Job.how in
    let text = g.J.Telling.text in
    let k = g.K.Sink in
    let start = c.args.log.now.job in
    let before = c.args.sink.now in
    let first = c.put_header.new.sink in
    let header = g.J.Telling.front in
    let new = c.step.new.self in
    let more : ℕ = c.in-Ok-get_from.count in
    let got = c.in-Ok-get_from.ensures in
    let piece : List ℕ = c.get_from.new.self.window.waiting in
    let ended : Bool = nat_eq more 0 in
    let long : length piece ≡ more = got.count in
    let given : List ℕ = fed c.steps.ended i.read in
    let fed_all = c.in-Fed.ensures.stepped start given i.pumped.lines i.pumped.answers i.pumped.heard in
    let given_is : given ≡ i.read = fed_not c.steps.ended i.read c.if-ended.false in
    let heard = subst (λ l. HasHeard how start new l i.pumped.lines i.pumped.answers) given_is fed_all.1 in
    let none : ended ≡ true → length piece ≡ 0 = λ e. omega (arith, eqb-true more 0 e, long) in
    let some : ended ≡ false → 0 < length piece = λ e. omega (arith, eqb-false more 0 e, long) in
    let old_input = taken_from g.S.Source c.args.source.now c.steps.source in
    let input = taken_from g.S.Source c.args.source.now c.get_from.new.source in
    let got_now : HasGot old_input 0 i.read =
    record { consumed = i.got.consumed; few = i.running c.if-ended.false; back = i.got.back } in
    record {
      room = omega (
        arith,
        i.room,
        got.ok.used,
        got.number,
        got.short,
        c.in-Fed.ensures.number,
        c.end_if.ensures.number,
        c.end_if.ensures.short got.short,
      );
      unfinished = i.unfinished;
      lasting = c.end_if.ensures.lasting ∙ ap g.J.Job.lasting got.job ∙ c.in-Fed.ensures.lasting ∙ i.lasting;
      read = i.read ++ piece;
      pumped = record {
        lines = i.pumped.lines;
        answers = i.pumped.answers;
        heard = c.end_if.ensures.heard start (i.read ++ piece) i.pumped.lines i.pumped.answers
            (got.got start i.read i.pumped.lines i.pumped.answers heard fed_all.2) (λ e. no_feeds piece (none e));
        put = i.pumped.put;
      };
      got = got_on old_input input 1 i.read piece got_now refl refl got.ok.used got.ok.moved (omega arith);
      running = λ e. (got_on old_input input 0 i.read piece got_now refl refl got.ok.used got.ok.moved
          (omega (arith, some e))).few;
      made = λ e. made_of_more g.S.Source c.args.source.now c.steps.source c.get_from.new.source i.read piece
          (i.made c.if-ended.false) got.ok.gave got.ok.used (some e);
      made_all = λ e.
          let made = i.made c.if-ended.false in (
            made.pieces,
            got_up_to_end g.S.Source c.args.source.now c.steps.source c.get_from.new.source i.read piece made
                got.ok.gave got.ok.used (none e),
            no_more i.read piece (concat made.pieces) made.whole (none e),
          );
      at_end = λ e. got.end (eqb-true more 0 e);
    }

pub returns-in-Ok-finish-clause-ran : goal.returns-in-Ok-finish-clause-ran
returns-in-Ok-finish-clause-ran g c =
    let i = c.steps.invariant in
    let how = g.J.Job.how in
    let text = g.J.Telling.text in
    let k = g.K.Sink in
    let start = c.args.log.now.job in
    let before = c.args.sink.now in
    let first = c.put_header.new.sink in
    let header = g.J.Telling.front in
    let new = c.step.new.self in
    let lines = i.pumped.lines in
    let given : List ℕ = fed c.steps.ended i.read in
    let fed_all = c.in-Fed.ensures.stepped start given lines i.pumped.answers i.pumped.heard in
    let all = passed_to_end new.window.line new.window.waiting given i.read lines fed_all.1.kept fed_all.2
    (ap (λ e. fed e i.read) c.if-ended.true) in
    let told = told_behind how text start k first header before c.in-Ok.ensures.put c.steps.sink new.job new.tally
    lines i.pumped.answers i.pumped.put fed_all.1.told in
    let pieces = i.made_all c.if-ended.true in
    let input = taken_from g.S.Source c.args.source.now c.steps.source in (
      c.in-Ok-finish.ensures.counted
          ∙ ap (λ (n : ℕ). n + 1) (i.unfinished ∙ c.put_header.ensures.unfinished),
      (
        lines,
        (
          pieces.0,
          pieces.1,
          subst (Consumes input.before input.after) pieces.2 i.got.consumed,
          i.at_end c.if-ended.true,
          all ∙ ap lines_of pieces.2,
        ),
        subst (λ t. HasToldBy header text how start new.job (Ok t) (written_on k before c.finish.new.self) lines)
            (sym c.tally.ensures)
            (told_sent how text start k first header before c.in-Ok.ensures.put c.steps.sink c.finish.new.self new.job
            new.tally lines c.in-Ok-finish.ensures.bytes c.in-Ok-finish.ensures.sent told),
      ),
    )

pub returns-in-Ok-finish-clause-reported : goal.returns-in-Ok-finish-clause-reported
returns-in-Ok-finish-clause-reported g c =
    let how = g.J.Job.how in
    let start = c.args.log.now.job in
    let now = c.step.new.self.job in
    let input = taken_from g.S.Source c.args.source.now c.steps.source in
    let output = written_on g.K.Sink c.args.sink.now c.finish.new.self in
    run_reported (WantsAt how now)
    (HasToldBy g.J.Telling.front g.J.Telling.text how start now (Ok c.tally.result) output) c.tally.result input output
    (returns-in-Ok-finish-clause-ran g c)

pub returns-in-Err-finish-clause-ran : goal.returns-in-Err-finish-clause-ran
returns-in-Err-finish-clause-ran g c =
    let i = c.steps.invariant in
    let how = g.J.Job.how in
    let text = g.J.Telling.text in
    let k = g.K.Sink in
    let start = c.args.log.now.job in
    let before = c.args.sink.now in
    let first = c.put_header.new.sink in
    let header = g.J.Telling.front in
    let new = c.step.new.self in
    let lines = i.pumped.lines in
    let given : List ℕ = fed c.steps.ended i.read in
    let fed_all = c.in-Fed.ensures.stepped start given lines i.pumped.answers i.pumped.heard in
    let all = passed_to_end new.window.line new.window.waiting given i.read lines fed_all.1.kept fed_all.2
    (ap (λ e. fed e i.read) c.if-ended.true) in
    let told = told_behind how text start k first header before c.in-Ok.ensures.put c.steps.sink new.job new.tally
    lines i.pumped.answers i.pumped.put fed_all.1.told in (
      (
        c.in-Err-finish.ensures.failed,
        c.in-Err-finish.ensures.uncounted ∙ i.unfinished ∙ c.put_header.ensures.unfinished,
      ),
      (
        lines,
        (
          i.read,
          i.got.consumed,
          i.got.few,
          inr (i.at_end c.if-ended.true, ([], sym all ∙ sym (append-nil lines))),
        ),
        told_unfinished how text start k first header before c.in-Ok.ensures.put c.steps.sink c.finish.new.self
            new.job new.tally lines c.in-Err-finish.ensures.kept told,
      ),
    )

pub returns-in-Err-clause-ran : goal.returns-in-Err-clause-ran
returns-in-Err-clause-ran g c =
    let k = g.K.Sink in
    let output = written_on k c.args.sink.now c.put_header.new.sink in (
      (c.in-Err.ensures.failed, c.put_header.ensures.unfinished),
      (
        [],
        (
          [],
          Consumes-nil (g.S.Source.to_come c.args.source.now),
          omega arith,
          inl (ended_lines [], refl),
        ),
        told_header g.J.Job.how g.J.Telling.text c.args.log.now.job g.J.Telling.front output c.in-Err.ensures.part,
      ),
    )
