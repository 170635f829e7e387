-- A recorded input: what a clock told of it does not matter.
use Rattle.std.proofs.Common.{◌≡◌, ◌∙◌, ◌++◌, ℕ, Bool, List, [], ◌∷◌, Result, Ok, Err, ap, ap₂, false, inl, inr, refl, subst, sym, true≢false}
use Rattle.std.specs.List.{All}
use Rattle.std.proofs.lemmas.List.Elements.{All-cons, All-head, All-nil, All-tail}
use Rattle.sq_devices.specs.Changes.{Sent, Taken, Written, Wrote}
use Rattle.sq_devices.specs.Clocks.{Times, recorded}
use Rattle.sq_devices.specs.Device.{WroteFront}
use Rattle.sq_commands.specs.declared.feed.FeedEnd.{FeedEnd}
use Rattle.sq_feed.specs.Ears.{Hears, ear_after_all, ear_ended, told_ended, told_of_all}
use Rattle.sq_feed.specs.Feeds.{AreFed, Fed, Feeding, bytes_in, last_fed, nothing_fed, told_at_end}
use Rattle.sq_feed.specs.Follows.{Follows}
use Rattle.sq_feed.specs.Readers.{Reads, awaited}
use Rattle.sq_feed.specs.declared.message.Timed.{Timed}
use Rattle.sq_commands.specs.declared.feed.FeedOptions.{FeedOptions}
use Rattle.std.specs.Io.KnownBytes.{IsAtEnd}
use Rattle.sq_log.specs.declared.run.RunFault.{RunFault}
use Rattle.sq_log.specs.declared.run.RunFault.TheVariants.{Read, Write, Memory}
use Rattle.sq_commands.specs.Requests.{Asked, Reply, Check, Track, Feed}
use Rattle.sq_commands.specs.declared.status.Status.{Status}
use Rattle.sq_commands.specs.Feed.{EndsBy, FedIn, FedWhole, HasFedFront, IsFed, all_lines, arrivals_in}
use Rattle.sq_feed.specs.Units.{Watched, nothing_watched, watched_all}
use Rattle.sq_commands.specs.Feed.{end_after, end_by, watched_in}
use Rattle.sq_commands.specs.Feed.{lines_given, lines_in, lines_whole, manner_of, squitters_in, start_of}
use Rattle.sq_commands.specs.Outputs.{Effects}
use Rattle.sq_commands.specs.Runs.{IsRun, IsTimedRun}
use Rattle.sq_commands.proofs.Arrivals.{AreAlike, ahead_quiet, all_ears_alike, all_told_alike, ended_alike, other_unlive, quiet}

abbrev IsZero : ℕ → Type 0
IsZero moment = moment ≡ 0

-- two feeds that differ in arrivals alone
record AreNear (f g : Feeding) : Type 0 where
  reader : f.reader ≡ g.reader
  ear : AreAlike f.ear g.ear

-- calls that took the same bytes and found the same squitters, each with an arrival of 0
record Untimed (before other : Feeding) (calls : List Fed) : Type 0 where
  others : List Fed
  fed : AreFed other others
  bytes : bytes_in others ≡ bytes_in calls
  zero : All IsZero (arrivals_in others)
  squitters : squitters_in before calls ≡ squitters_in other others
  near : AreNear (last_fed before calls) (last_fed other others)

-- the end of a recording, whatever arrivals its state keeps
end_quiet : (seen : Watched) (ear : Hears) → ear.times.is_live ≡ false
    → end_by false seen ear ≡ end_by false seen (quiet ear)
end_quiet seen ear unlive =
    ap (λ (b : Bool). record (end_by false seen ear) { is_ahead = b }) (ahead_quiet ear.times unlive)

ends_alike : (seen : Watched) (k l : Hears) → AreAlike k l → end_by false seen k ≡ end_by false seen l
ends_alike seen k l alike =
    end_quiet seen k alike.unlive ∙ ap (end_by false seen) alike.same
    ∙ sym (end_quiet seen l (other_unlive k l alike))

untimed : (calls : List Fed) (before other : Feeding) → AreFed before calls → AreNear before other
    → Untimed before other calls
unfolding squitters_in
untimed [] before other fed near = record {
  others = [];
  fed = tt;
  bytes = refl;
  zero = All-nil IsZero;
  squitters = refl;
  near = near;
}
untimed (one ∷ more) before other (fed, feds) near =
    let reader : Reads = one.after.reader in
    let after : Feeding = record { reader = reader; ear = ear_after_all 0 other.ear one.found; ready = [] } in
    let next : Fed = record { arrival = 0; bytes = one.bytes; found = one.found; after = after } in
    let heard : AreAlike (ear_after_all one.arrival before.ear one.found) (ear_after_all 0 other.ear one.found) =
    all_ears_alike one.arrival 0 one.found before.ear other.ear near.ear in
    let near_now : AreNear one.after after = record {
      reader = refl;
      ear = subst (λ (k : Hears). AreAlike k after.ear) (sym fed.heard) heard;
    } in
    let rest = untimed more one.after after feds near_now in
    record {
      others = next ∷ rest.others;
      fed = (
        record {
          same = fed.same ∙ ap (λ (m : Reads). m.asked) near.reader;
          follows = subst (λ (m : Reads). Follows (awaited m) one.bytes one.found (awaited reader)) near.reader
              fed.follows;
          heard = refl;
        },
        rest.fed,
      );
      bytes = ap (λ l. one.bytes ++ l) rest.bytes;
      zero = All-cons IsZero 0 (arrivals_in rest.others) refl rest.zero;
      squitters = ap₂ (λ (l m : List Timed). l ++ m)
          (all_told_alike one.arrival 0 one.found before.ear other.ear near.ear) rest.squitters;
      near = rest.near;
    }

zero_and : (xs : List ℕ) → All IsZero xs → All IsZero (xs ++ 0 ∷ [])
zero_and [] zero = All-cons IsZero 0 [] refl (All-nil IsZero)
zero_and (x ∷ xs) zero =
    All-cons IsZero x (xs ++ 0 ∷ []) (All-head IsZero x xs zero) (zero_and xs (All-tail IsZero x xs zero))

module _ (clock : Times) (recorded_is : clock.is_live ≡ false) (options : FeedOptions) where
  abbrev from : Feeding
  from = start_of options clock

  abbrev to : Feeding
  to = start_of options recorded

  near_start : AreNear from to
  near_start = record {
    reader = refl;
    ear = record {
      same = ap (λ b. quiet (nothing_fed options.format (manner_of options b)).ear) recorded_is;
      unlive = recorded_is;
    };
  }

  fed_in : (bytes : List ℕ) (Of : List ℕ → Type 0)
      → FedIn options clock bytes (λ calls. Of (lines_in options from calls))
      → FedIn options recorded bytes (λ calls. Of (lines_in options to calls))
  fed_in bytes Of (calls, fed, whole, told, of) =
      let u = untimed calls from to fed near_start in
      (u.others, u.fed, u.bytes ∙ whole, u.zero, subst (λ l. Of (lines_given options.reorder l)) u.squitters of)

  fed_whole : (bytes : List ℕ) (Of : List ℕ → FeedEnd → Type 0)
      → FedWhole options clock bytes (λ calls arrival. Of (all_lines options from calls arrival)
      (end_after clock.is_live from calls arrival))
      → FedWhole options recorded bytes (λ calls arrival. Of (all_lines options to calls arrival)
      (end_after false to calls arrival))
  fed_whole bytes Of (calls, arrival, fed, whole, told, of) =
      let u = untimed calls from to fed near_start in
      let end = last_fed from calls in
      let end' = last_fed to u.others in
      let left = λ (m : Reads). awaited m [] in
      let ears = all_ears_alike arrival 0 (left end'.reader) end.ear end'.ear u.near.ear in
      let ends = ended_alike (ear_after_all arrival end.ear (left end'.reader))
      (ear_after_all 0 end'.ear (left end'.reader)) ears in
      let last : told_at_end arrival end ≡ told_at_end 0 end' =
      ap (λ (m : Reads). told_of_all arrival end.ear (left m) ++ told_ended (ear_after_all arrival end.ear (left m)))
      u.near.reader
      ∙ ap₂ (λ (l m : List Timed). l ++ m) (all_told_alike arrival 0 (left end'.reader) end.ear end'.ear u.near.ear)
      ends.0 in
      let lines : all_lines options from calls arrival ≡ all_lines options to u.others 0 =
      ap₂ (λ (l m : List Timed). lines_whole options.reorder (l ++ m)) u.squitters last in
      let seen : watched_all (watched_in from calls) (told_at_end arrival end)
      ≡ watched_all (watched_in to u.others) (told_at_end 0 end') =
      ap₂ (λ (l m : List Timed). watched_all (watched_all nothing_watched l) m) u.squitters last in
      let counts : end_after clock.is_live from calls arrival ≡ end_after false to u.others 0 =
      ap₂ (λ (b : Bool) (w : Watched). end_by b w (ear_ended (ear_after_all arrival end.ear (left end.reader))))
      recorded_is seen
      ∙ ap (λ (m : Reads). end_by false (watched_all (watched_in to u.others) (told_at_end 0 end'))
      (ear_ended (ear_after_all arrival end.ear (left m)))) u.near.reader
      ∙ ends_alike (watched_all (watched_in to u.others) (told_at_end 0 end'))
      (ear_ended (ear_after_all arrival end.ear (left end'.reader)))
      (ear_ended (ear_after_all 0 end'.ear (left end'.reader))) ends.1 in (
        u.others,
        0,
        u.fed,
        u.bytes ∙ whole,
        zero_and (arrivals_in u.others) u.zero,
        subst (Of (all_lines options to u.others 0)) counts
            (subst (λ l. Of l (end_after clock.is_live from calls arrival)) lines of),
      )

  -- the input is at its end, since it is not live
  at_end : (input : Taken) (calls : List Fed) (arrival : ℕ) → EndsBy options clock input calls arrival
      → IsAtEnd input.after
  at_end input calls arrival (inl end) = end
  at_end input calls arrival (inr (live, _)) = absurd (true≢false (sym live ∙ recorded_is))

  front_recorded : (input : Taken) (output : Written) (bytes : List ℕ)
      → HasFedFront options clock input output bytes → HasFedFront options recorded input output bytes
  front_recorded input output bytes (inl (front, first, of)) =
      inl (front, first, fed_in front (WroteFront output.before output.after) of)
  front_recorded input output bytes (inr (calls, arrival, fed, whole, told, (ends, of))) =
      let end = at_end input calls arrival ends in
      let (others, arrival', fed', whole', told', of') =
      fed_whole bytes (λ lines counts. WroteFront output.before output.after lines)
      (calls, arrival, fed, whole, told, of) in
      inr (others, arrival', fed', whole', told', (inl end, of'))

  fed_recorded : (answer : Result FeedEnd RunFault) (input : Taken) (output : Written)
      → IsFed options clock answer input output → IsFed options recorded answer input output
  fed_recorded (Ok tally) input output (once, inl (pieces, got, consumed, end, of)) = (
    once,
    inl (
      pieces,
      got,
      consumed,
      end,
      fed_whole _ (λ lines counts. Sent output lines × (tally ≡ counts)) of,
    ),
  )
  fed_recorded (Ok tally) input output (once, inr (live, known, of)) = absurd (true≢false (sym live ∙ recorded_is))
  fed_recorded (Err Read) input output (same, (failed, (bytes, consumed, few, of))) =
      (same, (failed, (bytes, consumed, few, fed_in bytes (Wrote output) of)))
  fed_recorded (Err Write) input output (failed, same, (bytes, consumed, few, of)) =
      (failed, same, (bytes, consumed, few, front_recorded input output bytes of))
  fed_recorded (Err Memory) input output (some, same, (bytes, consumed, few, of)) =
      (some, same, (bytes, consumed, few, front_recorded input output bytes of))

-- a run on an input that is not live is one on a recorded input
pub run_recorded : (clock : Times) → clock.is_live ≡ false → (asked : Asked) (status : Status) (e : Effects)
    → IsTimedRun clock asked status e → IsRun asked status e
run_recorded clock is (Reply words) status e run = run
run_recorded clock is (Check format) status e run = run
run_recorded clock is (Track words) status e run = run
run_recorded clock is (Feed words) status e (reply, inl (options, spelled, (answer, fed, ended)), said) = (
  reply,
  inl (options, spelled, (answer, fed_recorded clock is options answer e.input e.outputs.output fed, ended)),
  said,
)
run_recorded clock is (Feed words) status e (reply, inr misuse, said) = (reply, inr misuse, said)
