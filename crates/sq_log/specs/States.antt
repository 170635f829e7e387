-- The state of a log machine, apart from its job.
use Rattle.std.specs.Prelude.{◌≡◌, []}
use Rattle.sq_log.specs.declared.log.Log.{Log}
use Rattle.sq_log.specs.declared.state.LogState.{LogState}

-- the machine of a job in this state
abbrev pub with_job : {State : Type 0} → State → LogState → Log State
with_job job state = record {
  job = job;
  number = state.number;
  tally = state.tally;
  window = state.window;
  counted = state.counted;
}

-- no line was heard, and nothing waits
pub record HasHeardNothing (state : LogState) : Type 0 where
  pub number : state.number ≡ 0
  pub tally : state.tally ≡ record { good = 0; refused = 0 }
  pub line : state.window.line ≡ []
  pub waiting : state.window.waiting ≡ []
