-- Each instance is computed.
use Rattle.std.proofs.Common.{refl}
use Rattle.sq_feed.specs.Units.{watched_all}
use Rattle.sq_feed.proofs.pins.units_exactly.Goals as goal

pub returns-clause-seconds : goal.returns-clause-seconds
unfolding watched_all
returns-clause-seconds c = refl

pub returns-clause-few : goal.returns-clause-few
unfolding watched_all
returns-clause-few c = refl

pub returns-clause-slow : goal.returns-clause-slow
unfolding watched_all
returns-clause-slow c = refl

pub returns-clause-dense : goal.returns-clause-dense
unfolding watched_all
returns-clause-dense c = refl

pub returns-clause-from_zero : goal.returns-clause-from_zero
unfolding watched_all
returns-clause-from_zero c = refl

pub returns-clause-usual : goal.returns-clause-usual
unfolding watched_all
returns-clause-usual c = refl

pub returns-clause-micros : goal.returns-clause-micros
unfolding watched_all
returns-clause-micros c = refl

pub returns-clause-sparse : goal.returns-clause-sparse
unfolding watched_all
returns-clause-sparse c = refl

pub returns-clause-hours : goal.returns-clause-hours
unfolding watched_all
returns-clause-hours c = refl

pub returns-clause-nanos : goal.returns-clause-nanos
unfolding watched_all
returns-clause-nanos c = refl

pub returns-clause-days : goal.returns-clause-days
unfolding watched_all
returns-clause-days c = refl

pub returns-clause-in_ms : goal.returns-clause-in_ms
unfolding watched_all
returns-clause-in_ms c = refl

pub returns-clause-in_us : goal.returns-clause-in_us
unfolding watched_all
returns-clause-in_us c = refl

pub returns-clause-in_ns : goal.returns-clause-in_ns
unfolding watched_all
returns-clause-in_ns c = refl

pub returns-clause-zeros : goal.returns-clause-zeros
unfolding watched_all
returns-clause-zeros c = refl

pub returns-clause-one : goal.returns-clause-one
unfolding watched_all
returns-clause-one c = refl

pub returns-clause-gps : goal.returns-clause-gps
unfolding watched_all
returns-clause-gps c = refl

pub returns-clause-clock : goal.returns-clause-clock
unfolding watched_all
returns-clause-clock c = refl

pub returns-clause-unclocked : goal.returns-clause-unclocked
unfolding watched_all
returns-clause-unclocked c = refl

pub returns-clause-live : goal.returns-clause-live
unfolding watched_all
returns-clause-live c = refl

pub returns-clause-gps_live : goal.returns-clause-gps_live
unfolding watched_all
returns-clause-gps_live c = refl

pub returns-clause-begins : goal.returns-clause-begins
unfolding watched_all
returns-clause-begins c = refl

pub returns-clause-left_out : goal.returns-clause-left_out
unfolding watched_all
returns-clause-left_out c = refl

pub returns-clause-others : goal.returns-clause-others
unfolding watched_all
returns-clause-others c = refl
