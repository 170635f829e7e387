use Rattle.std.proofs.Common.{◌≡◌, ◌+◌, ◌*◌, ◌≤◌, List, ℕ, false, length, true}
use Rattle.std.specs.Io.KnownBytes.{IsAtEnd}
use Rattle.sq_devices.specs.Changes.{GotAtMost, taken_from}
use Rattle.sq_log.specs.Runs.{HasGot, HasGotAll, IsMadeOf, IsPumped, fed}
use Rattle.sq_log.proofs.run.run_log.Given as goal

abbrev pub invariant-steps : goal.invariant-steps
invariant-steps g l = record {
  room : l.log.number + length l.log.window.waiting + 200 * g.S.Source.gets_left l.source ≤ 200000000000064;
  unfinished : g.K.Sink.finishes l.sink ≡ g.K.Sink.finishes l.initial.sink;
  lasting : g.J.Job.lasting l.log.job ≡ g.J.Job.lasting l.initial.log.job;
  read : List ℕ;
  pumped : IsPumped g.J.Job.how g.J.Telling.text l.initial.log.job g.K.Sink l.initial.sink l.sink
      l.log (fed l.ended read);
  got : HasGot (taken_from g.S.Source l.initial.source l.source) 1 read;
  running : l.ended ≡ false → GotAtMost (taken_from g.S.Source l.initial.source l.source) (length read + 0);
  made : l.ended ≡ false → IsMadeOf (taken_from g.S.Source l.initial.source l.source) read;
  made_all : l.ended ≡ true → HasGotAll (taken_from g.S.Source l.initial.source l.source) read;
  at_end : l.ended ≡ true → IsAtEnd (g.S.Source.to_come l.source);
}

abbrev pub decreases-steps : goal.decreases-steps
decreases-steps g l = length l.log.window.waiting + 200 * g.S.Source.gets_left l.source
