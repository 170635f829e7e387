use Rattle.std.proofs.Common.{◌≡◌, length, ◌-◌, ◌+◌, ◌*◌}
use Rattle.squitter_c.proofs.LogGoing.{IsGoing}
use Rattle.squitter_c.proofs.log_loop.write_some.Given as goal

abbrev pub invariant-loop-out : goal.invariant-loop-out
invariant-loop-out g l = record {
  going : IsGoing (g.F.Form.As l.initial.form) l.initial.log l.piece l.initial.out l.from l.log l.out l.taken l.written;
  form : l.form ≡ l.initial.form;
  long : length l.out ≡ length l.initial.out;
}

abbrev pub decreases-loop-out : goal.decreases-loop-out
decreases-loop-out g l = length l.log.window.waiting + 2 * (length l.piece - l.taken)
