use Rattle.std.proofs.Common.{◌≡◌, ◌≤◌, ◌-◌, length, take}
use Rattle.sq_devices.specs.Calls.{HasPut}
use Rattle.sq_devices.proofs.texts.put_all.Given as goal

-- what was put so far is a prefix of the text
abbrev pub invariant-loop-at : goal.invariant-loop-at
invariant-loop-at g l = record {
  within : l.at ≤ length l.text;
  put : HasPut g.K.Sink l.initial.sink l.sink (take l.at l.text);
  unmarked : g.K.Sink.has_failed l.sink ≡ g.K.Sink.has_failed l.initial.sink;
  uncounted : g.K.Sink.finishes l.sink ≡ g.K.Sink.finishes l.initial.sink;
}

abbrev pub decreases-loop-at : goal.decreases-loop-at
decreases-loop-at g l = length l.text - l.at
