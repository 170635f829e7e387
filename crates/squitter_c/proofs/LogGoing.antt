-- The loops over the lines of a log go on, with results in an array or as texts.
use Rattle.std.proofs.Common.{◌≡◌, ◌≢◌, ◌≤◌, ◌<◌, ◌+◌, ◌-◌, ◌*◌, ◌∙◌, ℕ, List, [], arith, drop, length, refl, subst, take}
use Rattle.sq_log.specs.declared.log.Log.{Log}
use Rattle.sq_log.specs.declared.log.Step.TheVariants as steps
use Rattle.sq_commands.specs.declared.track.Hearing.{Hearing}
use Rattle.squitter_c.specs.declared.log_loop.Done.{Done}
use Rattle.squitter_c.specs.declared.log_loop.End.{End}
use Rattle.squitter_c.specs.declared.log_loop.End.TheVariants as ends
use Rattle.squitter_c.specs.LogCalls.{GoesOn, GoesToTheEnd, HasGoneOn, IsWrittenTo, Written, held_by}
use Rattle.squitter_c.proofs.LogSteps.{HasEnded, Stepped, goes_further, goes_no_further, goes_on_nothing}
use Rattle.squitter_c.proofs.LogSteps.{goes_to_the_end, on_fed, on_memory, on_passed, rest_further, stays, stops_before}
use Rattle.squitter_c.proofs.LogSteps.{within_rest}

abbrev pub done : (taken written : ℕ) → Done
done taken written = record { taken = taken; written = written }

-- the rest of a piece
abbrev rest_at : List ℕ → ℕ → List ℕ
rest_at piece taken = take (length piece - taken) (drop taken piece)

-- A loop over lines has taken bytes and written elements so far. The number of lines plus the waiting bytes plus twice
-- the bytes left of the piece is at most this sum at the start.
pub record IsGoing {X F A : Type 0} (As : Written X) (first : Log (Hearing F A)) (piece : List ℕ) (was : List X)
    (from : ℕ) (log : Log (Hearing F A)) (is : List X) (taken written : ℕ) : Type 0 where
  pub on : HasGoneOn As ends.Full first log piece was is from (done taken written)
  pub room : log.number + (length log.window.waiting + 2 * (length piece - taken))
      ≤ first.number + (length first.window.waiting + 2 * length piece)

pub starts : {X F A : Type 0} (As : Written X) (first : Log (Hearing F A)) (piece : List ℕ) (was : List X) (from : ℕ)
    → from ≤ length was → IsGoing As first piece was from first was 0 from
starts As first piece was from fits = record {
  on = record {
    gone = stays As (held_by first) (take from was);
    taken = omega arith;
    written = (omega arith, fits);
    rest = refl;
    number = omega arith;
    lasting = refl;
  };
  room = omega arith;
}

module _ {X F A : Type 0} {As : Written X} {first log : Log (Hearing F A)} {piece : List ℕ} {was is : List X}
    {from taken written : ℕ} (i : IsGoing As first piece was from log is taken written) (new : Log (Hearing F A))
    (few : new.number ≤ log.number + 1) (lasts : new.job.tracker.ghost_name ≡ log.job.tracker.ghost_name) where
  -- a step takes bytes and writes elements
  goes : (end : End) (next : List X) (count place : ℕ) → count ≤ length (rest_at piece taken)
      → GoesOn As end (held_by log) (held_by new) (take count (rest_at piece taken)) (take written is) (take place next)
      → written ≤ place → place ≤ length next → drop place next ≡ drop place was
      → HasGoneOn As end first new piece was next from (done (taken + count) place)
  goes end next count place within on near far rest =
      let fits = within_rest piece taken count within in
      record {
        gone = goes_further As end (held_by first) (held_by log) (held_by new) piece taken count (take from was)
            (take written is) (take place next) fits i.on.gone on;
        taken = omega (arith, fits, i.on.taken);
        written = (omega (arith, near, i.on.written.0), far);
        rest = rest;
        number = omega (arith, few, i.room);
        lasting = lasts ∙ i.on.lasting;
      }

  -- the waiting bytes plus twice the bytes left of the piece decrease
  pub smaller : (count : ℕ) → count ≤ length (rest_at piece taken)
      → length new.window.waiting < length log.window.waiting + 2 * count
      → length new.window.waiting + 2 * (length piece - (taken + count))
      < length log.window.waiting + 2 * (length piece - taken)
  smaller count within progress =
      let fits = within_rest piece taken count within in omega (arith, fits, progress, i.on.taken)

  -- so the next step has room
  pub goes_on : (next : List X) (count place : ℕ) → count ≤ length (rest_at piece taken)
      → GoesOn As ends.Full (held_by log) (held_by new) (take count (rest_at piece taken)) (take written is)
      (take place next) → written ≤ place → place ≤ length next → drop place next ≡ drop place was
      → length new.window.waiting < length log.window.waiting + 2 * count
      → IsGoing As first piece was from new next (taken + count) place
  goes_on next count place within on near far rest progress =
      let fits = within_rest piece taken count within in
      record {
        on = goes ends.Full next count place within on near far rest;
        room = omega (arith, fits, i.on.taken, i.room, progress, few);
      }

  pub passes : (count : ℕ) → Stepped log (steps.Passed count) (rest_at piece taken) new
      → count ≤ length (rest_at piece taken) → length new.window.waiting < length log.window.waiting + 2 * count
      → IsGoing As first piece was from new is (taken + count) written
  passes count stepped within progress =
      goes_on is count written within (on_passed As log new (rest_at piece taken) count (take written is) stepped)
      (omega arith) i.on.written.1 i.on.rest progress

  pub runs_out : (count : ℕ) → Stepped log (steps.NoMemory count) (rest_at piece taken) new
      → count ≤ length (rest_at piece taken)
      → HasGoneOn As ends.NoMemory first new piece was is from (done (taken + count) written)
  runs_out count stepped within =
      goes ends.NoMemory is count written within
      (on_memory As log new (rest_at piece taken) count (take written is) stepped) (omega arith) i.on.written.1
      i.on.rest

  pub is_fed : Stepped log steps.Fed (rest_at piece taken) new
      → HasGoneOn As ends.Fed first new piece was is from (done taken written)
  is_fed stepped = record {
    gone = goes_no_further As ends.Fed (held_by first) (held_by log) (held_by new) (take taken piece) (take from was)
        (take written is) (take written is) i.on.gone
        (on_fed As log new (rest_at piece taken) (take written is) stepped);
    taken = i.on.taken;
    written = i.on.written;
    rest = i.on.rest;
    number = omega (arith, few, i.room);
    lasting = lasts ∙ i.on.lasting;
  }

-- ---- the end of a log

module _ {X F A : Type 0} {As : Written X} {end : End} where
  -- all that was given has results, and then the last line has one
  module _ {one two three four : Log (Hearing F A)} {was mid is : List X} {how : End} {early late : Done}
      (fed : how ≡ ends.Fed) (first : HasGoneOn As how one two [] was mid 0 early)
      (later : HasGoneOn As end three four [] mid is early.written late) where
    pub ends_all : HasEnded (held_by two) (held_by three)
        → GoesToTheEnd As end (held_by one) (held_by four) [] (take late.written is)
    ends_all ended =
        let between = take early.written mid in
        let after = take late.written is in
        goes_to_the_end As end (held_by one) (held_by two) (held_by three) (held_by four) between after
        (goes_on_nothing As ends.Fed (held_by one) (held_by two) early.taken [] between
        (subst (λ e. GoesOn As e (held_by one) (held_by two) (take early.taken []) [] between) fed first.gone)) ended
        (goes_on_nothing As end (held_by three) (held_by four) late.taken between after later.gone)

    pub writes_all : length mid ≡ length was → length is ≡ length mid → IsWrittenTo was is late 0
    writes_all old new = record {
      taken = later.taken;
      written = later.written.1;
      long = new ∙ old;
      rest = later.rest ∙ rest_further mid was early.written late.written later.written.0 first.rest;
    }

  -- the call stops before the end
  pub stops : {how : End} {one two : Log (Hearing F A)} {was is : List X} {early : Done} → how ≡ end
      → HasGoneOn As how one two [] was is 0 early → end ≢ ends.Fed
      → GoesToTheEnd As end (held_by one) (held_by two) [] (take early.written is)
  stops {how} {one} {two} {was} {is} {early} same first before =
      let after = take early.written is in
      stops_before As end (held_by one) (held_by two) after before
      (goes_on_nothing As end (held_by one) (held_by two) early.taken [] after
      (subst (λ e. GoesOn As e (held_by one) (held_by two) (take early.taken []) [] after) same first.gone))
