-- A run of `feed` on its way, and how it ends.
use Rattle.std.proofs.Common.{◌≡◌, ◌≢◌, ◌+◌, ◌%◌, ◌<◌, ◌≤◌, ◌++◌, ◌∙◌, ℕ, List, [], ◌∷◌, None, Option, Result, Ok, Err, IfOk, length, take, drop, refl, sym}
use Rattle.std.proofs.Common.{Some, ap, ap₂, append_assoc, arith, inl, inr, subst, take-append-drop, true}
use Rattle.std.specs.Prelude.{Bool, IfErr, false, if◌then◌else◌}
use Rattle.sq_feed.specs.declared.message.Found.{Found}
use Rattle.sq_feed.specs.declared.counts.Fate.{Fate}
use Rattle.sq_feed.specs.declared.message.Found.TheVariants.{Damage, Foreign, Whole, ReceiverId}
use Rattle.sq_feed.specs.declared.message.Message.{Message}
use Rattle.sq_feed.specs.declared.message.Time.{Time}
use Rattle.sq_feed.specs.declared.message.Time.TheVariants.{Unknown, Ticks, Millis}
use Rattle.sq_feed.specs.declared.message.Timed.{Timed}
use Rattle.std.specs.Io.KnownBytes.{Appends, Consumes, IsAtEnd}
use Rattle.std.specs.List.{concat}
use Rattle.std.proofs.KnownBytes.{Appends-trans, Consumes-nil}
use Rattle.std.proofs.lemmas.List.{length-take-le}
use Rattle.sq_devices.specs.Calls.{HasPut, HasSent}
use Rattle.sq_devices.specs.Changes.{Taken, TookAll, TookReported, TookSome, WroteLast}
use Rattle.sq_devices.specs.Changes.{taken_from, written_on}
use Rattle.sq_devices.specs.Clocks.{Tells, times_of}
use Rattle.sq_devices.specs.Device.{IsPrefixOf, KeepsOrHides, WroteFront}
use Rattle.sq_devices.specs.declared.device.Clock.{Ghosts as ClockGhosts}
use Rattle.sq_devices.specs.declared.device.Sink.{Ghosts as SinkGhosts}
use Rattle.sq_devices.specs.declared.device.Source.{Ghosts as SourceGhosts}
use Rattle.sq_devices.proofs.Ends.{took_reported}
use Rattle.sq_devices.proofs.Puts.{HasPut-nil, HasPut-trans}
use Rattle.sq_commands.specs.declared.feed.FeedEnd.{FeedEnd}
use Rattle.sq_commands.specs.declared.feed.FeedOptions.{FeedOptions}
use Rattle.sq_feed.specs.Ears.{Hears, ear_after, ear_after_all, ear_at, ear_by, fate_of, told_of_all, whole_of}
use Rattle.sq_feed.specs.Clock.{turn}
use Rattle.sq_feed.specs.Ears.{clock_judged, ear_arrived, ear_clocked}
use Rattle.sq_feed.specs.Times.{is_clockless}
use Rattle.sq_feed.specs.Feeds.{AreFed, Fed, Feeding, HasFed, bytes_in, last_fed, lines_of, told_at_end}
use Rattle.sq_feed.specs.Orders.{Sorting}
use Rattle.sq_feed.specs.Readers.{awaited}
use Rattle.sq_log.specs.Runs.{HasGot, IsMadeOf}
use Rattle.sq_log.specs.declared.run.RunFault.{RunFault}
use Rattle.sq_log.specs.declared.run.RunFault.TheVariants.{Memory, Read, Write}
use Rattle.sq_log.proofs.Gets.{consumes_hidden, got_on, got_up_to_end, made_of_more, made_of_nothing}
use Rattle.sq_log.proofs.Running.{no_more}
use Rattle.sq_commands.specs.Feed.{EndsBy, FedWhole, HasFedAll, HasFedFront, HasPutLast, HasPutPart}
use Rattle.sq_commands.specs.Feed.{HasPutSorted, HasStopped, IsFed, IsSettled, WrotePart, all_lines, arrivals_in, end_of}
use Rattle.sq_commands.specs.Feed.{given_by, lines_in, order_after, order_with, squitters_in, start_of, waiting_in, watched_in}
use Rattle.sq_feed.specs.Units.{Watched, nothing_watched, watched_all}
use Rattle.sq_feed.proofs.Watching.{watched_more, watched_none}
use Rattle.sq_commands.proofs.Feeding.{HasFedText, arrivals_more, bytes_more, calls_fed, last_more, sent_after, squitters_more}
use Rattle.sq_commands.proofs.Feeding.{squitters_none, tells_more, wrote_after}
use Rattle.sq_commands.proofs.Sortings.{lines_join, ordered_by, orders_join, settled_now, stopped_before}

-- holds of a result, if it holds of the value and of the fault
pub by_result : {X E : Type 0} (r : Result X E) (P : X → Type 0) (Q : E → Type 0) (G : Result X E → Type 0)
    → ((x : X) → P x → G (Ok x)) → ((e : E) → Q e → G (Err e)) → IfOk r P → IfErr r Q → G r
by_result (Ok x) P Q G good bad p q = good x p
by_result (Err e) P Q G good bad p q = bad e q

-- what a source is stays known
stays_if : (b : Bool) (x y : Hears) → x.stranger ≢ None → y.stranger ≢ None
    → (if b then x else y).stranger ≢ None
stays_if true x y p q = p
stays_if false x y p q = q

stays_at : (time : Time) (arrival : ℕ) (ear : Hears) (frame : List ℕ) → ear.stranger ≢ None
    → (ear_at time arrival ear frame).stranger ≢ None
stays_at Unknown arrival ear frame known = known
stays_at (Ticks ticks) arrival ear frame known =
    let shown = ticks % turn in
    stays_if (is_clockless ear.times ticks) (ear_arrived arrival ear)
    (ear_clocked ear shown arrival (clock_judged ear shown arrival frame)) known known
stays_at (Millis moment) arrival ear frame known = known

stays_by : (fate : Option Fate) (arrival : ℕ) (ear : Hears) (message : Message) → ear.stranger ≢ None
    → (ear_by fate arrival ear message).stranger ≢ None
stays_by None arrival ear message known = stays_at message.time arrival ear (whole_of message.frame) known
stays_by (Some fate) arrival ear message known = known

stays_one : (arrival : ℕ) (ear : Hears) (item : Found) → ear.stranger ≢ None
    → (ear_after arrival ear item).stranger ≢ None
stays_one arrival ear (Whole message) known =
    stays_by (fate_of ear.all_formats message.time message.frame) arrival ear message known
stays_one arrival ear Damage known = known
stays_one arrival ear ReceiverId known = known
stays_one arrival ear (Foreign stranger) known = λ none. cc none

stays : (arrival : ℕ) (ear : Hears) (items : List Found) → ear.stranger ≢ None
    → (ear_after_all arrival ear items).stranger ≢ None
stays arrival ear [] known = known
stays arrival ear (one ∷ more) known = stays arrival (ear_after arrival ear one) more (stays_one arrival ear one known)

module _ (options : FeedOptions) {C S K : Type 0} (c : ClockGhosts C) (s : SourceGhosts S) (k : SinkGhosts K)
    (clock : C) (source : S) (sink : K) where
  abbrev empty : Option Sorting
  empty = order_with options.reorder

  abbrev pub start : Feeding
  start = start_of options (times_of c clock clock)

  -- the order after some squitters
  abbrev pub state_at : List Fed → Option Sorting
  state_at calls = order_after empty (squitters_in start calls)

  -- a call of the feed for each piece that was got, with the arrival that the clock told after it
  pub record IsGoing (clock' : C) (source' : S) (sink' : K) (feed : Feeding) (order : Option Sorting)
      (units : Watched) : Type 0 where
    pub calls : List Fed
    pub fed : AreFed start calls
    pub here : feed ≡ last_fed start calls
    pub told : Tells c.Told clock clock' (arrivals_in calls)
    pub sorts : order ≡ state_at calls
    pub settled : IsSettled order
    pub seen : units ≡ watched_in start calls
    pub put : HasPut k sink sink' (lines_in options start calls)
    pub unfinished : k.finishes sink' ≡ k.finishes sink
    pub got : HasGot (taken_from s source source') 0 (bytes_in calls)
    pub made : IsMadeOf (taken_from s source source') (bytes_in calls)

  pub going_nothing : (feed : Feeding) (order : Option Sorting) (units : Watched) → feed ≡ start → order ≡ empty
      → IsSettled order → units ≡ nothing_watched → IsGoing clock source sink feed order units
  going_nothing feed order units is made settled unseen =
      let now = settled_now empty (subst IsSettled made settled) in
      record {
        calls = [];
        fed = tt;
        here = is;
        told = refl;
        sorts = made ∙ sym now.1 ∙ ap (order_after empty) (sym (squitters_none start));
        settled = settled;
        seen = unseen ∙ sym (ap (watched_all nothing_watched) (squitters_none start) ∙ watched_none nothing_watched);
        put = subst (λ l. HasPut k sink sink (lines_of (given_by empty l))) (sym (squitters_none start))
            (subst (λ l. HasPut k sink sink (lines_of l)) (sym now.0) (HasPut-nil k sink));
        unfinished = refl;
        got = record {
          consumed = Consumes-nil (s.to_come source);
          few = omega arith;
          back = omega arith;
        };
        made = made_of_nothing s source;
      }

  abbrev live : Bool
  live = (times_of c clock clock).is_live

  module _ (clock' : C) (source' : S) (sink' : K) (feed : Feeding) (order : Option Sorting) (units : Watched)
      (going : IsGoing clock' source' sink' feed order units) where
    abbrev pub calls : List Fed
    calls = going.calls

    -- ---- a get failed
    pub read_failed : (source'' : S) → s.has_failed source'' ≡ true
        → KeepsOrHides (s.to_come source') (s.to_come source'') → s.gets_left source'' ≡ s.gets_left source'
        → IsFed options (times_of c clock clock') (Err Read) (taken_from s source source'') (written_on k sink sink')
    read_failed source'' failed kept used = (
      going.unfinished,
      (
        failed,
        (
          bytes_in calls,
          consumes_hidden (s.to_come source) (s.to_come source') (s.to_come source'') (bytes_in calls)
              going.got.consumed kept,
          omega (arith, used, going.got.few),
          (calls, going.fed, refl, going.told, going.put.0),
        ),
      ),
    )

    -- ---- why a run stopped
    stopped : (fault : RunFault) (clock'' : C) (input : Taken) (sink'' : K)
        → HasStopped order (k.has_failed sink'') fault
        → k.finishes sink'' ≡ k.finishes sink
        → TookSome input (HasFedFront options (times_of c clock clock'') input (written_on k sink sink''))
        → IsFed options (times_of c clock clock'') (Err fault) input (written_on k sink sink'')
    stopped Read clock'' input sink'' why unfinished took = absurd why
    stopped Write clock'' input sink'' why unfinished took = (why, unfinished, took)
    stopped Memory clock'' input sink'' why unfinished took = (
      ordered_by options.reorder
          (stopped_before empty order (squitters_in start calls) (k.has_failed sink'') Memory going.sorts why),
      unfinished,
      took,
    )

    -- ---- one reading of the clock more
    module _ (clock'' : C) (arrival : ℕ) (told : c.Told clock' arrival clock'') where
      told_now : Tells c.Told clock clock'' (arrivals_in calls ++ arrival ∷ [])
      told_now = tells_more c.Told clock clock' clock'' (arrivals_in calls) arrival going.told told

      -- ---- the run ends
      abbrev last : List Timed
      last = told_at_end arrival (last_fed start calls)

      -- the lines of the last squitters, and of those that wait
      abbrev last_lines : List ℕ
      last_lines = lines_of (given_by (state_at calls) last)
          ++ lines_of (waiting_in (order_after (state_at calls) last))

      whole_lines : all_lines options start calls arrival ≡ lines_in options start calls ++ last_lines
      whole_lines =
          let x = squitters_in start calls in
          ap₂ (λ l o. l ++ lines_of (waiting_in o)) (lines_join empty x last) (orders_join empty x last)
          ∙ append_assoc (lines_in options start calls) (lines_of (given_by (state_at calls) last))
          (lines_of (waiting_in (order_after (state_at calls) last)))

      -- this holds of their lines
      of_last : (Of : List ℕ → Type 0) → HasPutLast order (told_at_end arrival feed) Of → Of last_lines
      of_last Of put =
          subst (λ o. HasPutLast o last Of) going.sorts
          (subst (λ (f : Feeding). HasPutLast order (told_at_end arrival f) Of) going.here put)

      module _ (sink'' : K) (bytes : List ℕ) (whole : bytes_in calls ≡ bytes) where
        fed_all : (end : FeedEnd) → (end ≡ end_of live arrival units feed)
            × HasPutLast order (told_at_end arrival feed) (WroteLast (written_on k sink' sink''))
            → (k.finishes sink'' ≡ k.finishes sink + 1)
            × HasFedAll options (times_of c clock clock'') end (written_on k sink sink'') bytes
        fed_all end (counted, put) =
            let ((grown, sent), finished) = of_last (WroteLast (written_on k sink' sink'')) put in (
              finished ∙ ap (λ n. n + 1) going.unfinished,
              (
                calls,
                arrival,
                going.fed,
                whole,
                told_now,
                (
                  (
                    subst (Appends (k.written sink) (k.written sink'')) (sym whole_lines)
                        (Appends-trans (k.written sink) (k.written sink') (k.written sink'')
                        (lines_in options start calls) last_lines going.put.0 grown),
                    subst (HasSent k sink sink'') (sym whole_lines)
                        (sent_after k sink sink' sink'' (lines_in options start calls) last_lines going.put sent),
                  ),
                  counted ∙ ap₂ (end_of live arrival) going.seen going.here,
                ),
              ),
            )

        fed_front : (input : Taken) → EndsBy options (times_of c clock clock'') input calls arrival
            → HasPutLast order (told_at_end arrival feed) (WrotePart (written_on k sink' sink''))
            → (k.finishes sink'' ≡ k.finishes sink)
            × FedWhole options (times_of c clock clock'') bytes (λ calls arrival.
            EndsBy options (times_of c clock clock'') input calls arrival
            × WroteFront (k.written sink) (k.written sink'') (all_lines options start calls arrival))
        fed_front input ends put =
            let (wrote, unfinished) = of_last (WrotePart (written_on k sink' sink'')) put in (
              unfinished ∙ going.unfinished,
              (
                calls,
                arrival,
                going.fed,
                whole,
                told_now,
                (
                  ends,
                  subst (WroteFront (k.written sink) (k.written sink'')) (sym whole_lines)
                      (wrote_after (k.written sink) (k.written sink') (k.written sink'')
                      (lines_in options start calls) last_lines going.put.0 wrote),
                ),
              ),
            )

      -- the source is live, and it is known to hold no frames
      module _ (is_live : c.live clock ≡ true) (known : feed.ear.stranger ≢ None) (sink'' : K) where
        known_at_end : (end_of live arrival units feed).stranger ≢ None
        known_at_end = stays arrival feed.ear (awaited feed.reader []) known

        early_ok : (end : FeedEnd) → (end ≡ end_of live arrival units feed)
            × HasPutLast order (told_at_end arrival feed) (WroteLast (written_on k sink' sink''))
            → IsFed options (times_of c clock clock'') (Ok end) (taken_from s source source')
            (written_on k sink sink'')
        early_ok end (counted, put) =
            let all = fed_all sink'' (bytes_in calls) refl end (counted, put) in (
              all.0,
              inr (
                is_live,
                subst (λ (e : FeedEnd). e.stranger ≢ None) (sym counted) known_at_end,
                (bytes_in calls, going.got.consumed, omega (arith, going.got.few), all.1),
              ),
            )

        early_err : (fault : RunFault) → HasStopped order (k.has_failed sink'') fault
            × HasPutLast order (told_at_end arrival feed) (WrotePart (written_on k sink' sink''))
            → IsFed options (times_of c clock clock'') (Err fault) (taken_from s source source')
            (written_on k sink sink'')
        early_err fault (why, put) =
            let input = taken_from s source source' in
            let ends : EndsBy options (times_of c clock clock'') input calls arrival =
            inr (
              is_live,
              subst (λ (f : Feeding). (end_of live arrival units f).stranger ≢ None) going.here
                  known_at_end,
            ) in
            let few : s.gets_left source ≤ s.gets_left source' + (length (bytes_in calls) + 1) =
            omega (arith, going.got.few) in
            let all = fed_front sink'' (bytes_in calls) refl input ends put in
            stopped fault clock'' input sink'' why all.0 (bytes_in calls, going.got.consumed, few, inr all.1)

        module _ (result : Result FeedEnd RunFault) (b : Bool) (b_is : b ≡ live)
            (ok : IfOk result (λ end. (end ≡ end_of b arrival units feed)
            × HasPutLast order (told_at_end arrival feed) (WroteLast (written_on k sink' sink''))))
            (err : IfErr result (λ fault. HasStopped order (k.has_failed sink'') fault
            × HasPutLast order (told_at_end arrival feed) (WrotePart (written_on k sink' sink'')))) where
          ok_live : IfOk result (λ end. (end ≡ end_of live arrival units feed)
              × HasPutLast order (told_at_end arrival feed) (WroteLast (written_on k sink' sink'')))
          ok_live =
              subst (λ l. IfOk result (λ end. (end ≡ end_of l arrival units feed)
              × HasPutLast order (told_at_end arrival feed) (WroteLast (written_on k sink' sink'')))) b_is ok

          pub ended_early : IsFed options (times_of c clock clock'') result (taken_from s source source')
              (written_on k sink sink'')
          ended_early =
              by_result result _ _ (λ r. IsFed options (times_of c clock clock'') r (taken_from s source source')
              (written_on k sink sink'')) early_ok early_err ok_live err

          pub early_reported : IfOk result (λ end. end.stranger ≡ None → TookReported (taken_from s source source')
              (HasFedAll options (times_of c clock clock'') end (written_on k sink sink'')))
          early_reported =
              by_result result _ _ (λ r. IfOk r (λ end. end.stranger ≡ None
              → TookReported (taken_from s source source')
              (HasFedAll options (times_of c clock clock'') end (written_on k sink sink''))))
              (λ end of none. absurd (known_at_end (ap (λ (e : FeedEnd). e.stranger) (sym of.0) ∙ none)))
              (λ fault of. tt) ok_live err

      -- ---- one piece more
      module _ (source'' : S) (into : List ℕ) (count : ℕ) (fits : count ≤ length into)
          (gave : s.Gave source' (take count into) source'')
          (moved : Consumes (s.to_come source') (s.to_come source'') (take count into))
          (used : s.gets_left source'' + 1 ≡ s.gets_left source') where
        abbrev pub piece : List ℕ
        piece = take count into

        long : length piece ≡ count
        long = length-take-le count into fits

        -- what was got, with this piece
        got_now : (more : ℕ) → 1 ≤ count + more
            → HasGot (taken_from s source source'') more (bytes_in calls ++ piece)
        got_now more some =
            got_on (taken_from s source source') (taken_from s source source'') more (bytes_in calls) piece going.got
            refl refl used moved (omega (arith, some, long))

        -- the call with some bytes of the piece
        module _ (bytes : List ℕ) (found : List Found) (after : Feeding)
            (fed : HasFed arrival feed bytes found after) where
          abbrev pub one : Fed
          one = record { arrival = arrival; bytes = bytes; found = found; after = after }

          fed_now : AreFed start (calls ++ one ∷ [])
          fed_now =
              calls_fed one start calls going.fed
              (subst (λ (f : Feeding). HasFed arrival f bytes found after) going.here fed)

          squitters_now : squitters_in start (calls ++ one ∷ [])
              ≡ squitters_in start calls ++ told_of_all arrival feed.ear found
          squitters_now =
              squitters_more one start calls
              ∙ ap (λ (f : Feeding). squitters_in start calls ++ told_of_all arrival f.ear found) (sym going.here)

          lines_now : lines_in options start (calls ++ one ∷ []) ≡ lines_in options start calls
              ++ lines_of (given_by (state_at calls) (told_of_all arrival feed.ear found))
          lines_now =
              ap (λ l. lines_of (given_by empty l)) squitters_now
              ∙ lines_join empty (squitters_in start calls) (told_of_all arrival feed.ear found)

          state_now : state_at (calls ++ one ∷ [])
              ≡ order_after (state_at calls) (told_of_all arrival feed.ear found)
          state_now =
              ap (order_after empty) squitters_now
              ∙ orders_join empty (squitters_in start calls) (told_of_all arrival feed.ear found)

        -- the lines of a piece were put
        pub going_more : (sink'' : K) (feed' : Feeding) (order' : Option Sorting) (units' : Watched) → 0 < count
            → HasFedText arrival feed piece feed' (λ came. HasPutSorted order order' came (HasPut k sink' sink'')
            × (units' ≡ watched_all units came))
            → k.finishes sink'' ≡ k.finishes sink'
            → IsGoing clock'' source'' sink'' feed' order' units'
        going_more sink'' feed' order' units' some (found, fed, ((goes, settled, put), seen)) unfinished =
            let next = one piece found feed' fed in
            let whole = bytes_more next calls in
            let input = taken_from s source source'' in
            let came = told_of_all arrival feed.ear found in
            record {
              calls = calls ++ next ∷ [];
              fed = fed_now piece found feed' fed;
              here = sym (last_more next start calls);
              told = subst (Tells c.Told clock clock'') (sym (arrivals_more next calls)) told_now;
              sorts = goes ∙ ap (λ o. order_after o came) going.sorts ∙ sym (state_now piece found feed' fed);
              settled = settled;
              seen = seen ∙ ap (λ w. watched_all w came) going.seen
                  ∙ sym (ap (watched_all nothing_watched) (squitters_now piece found feed' fed)
                  ∙ watched_more nothing_watched (squitters_in start calls) came);
              put = subst (HasPut k sink sink'') (sym (lines_now piece found feed' fed))
                  (HasPut-trans k sink sink' sink'' (lines_in options start calls)
                  (lines_of (given_by (state_at calls) came)) going.put
                  (subst (λ o. HasPut k sink' sink'' (lines_of (given_by o came))) going.sorts put));
              unfinished = unfinished ∙ going.unfinished;
              got = subst (HasGot input 0) (sym whole) (got_now 0 (omega (arith, some)));
              made = subst (IsMadeOf input) (sym whole)
                  (made_of_more s source source' source'' (bytes_in calls) piece going.made gave used
                  (omega (arith, some, long)));
            }

        -- the run stopped within the lines of a piece
        pub ended_within : (fault : RunFault) (sink'' : K) (feed' : Feeding) (n : ℕ)
            → HasStopped order (k.has_failed sink'') fault
            → HasFedText arrival feed (take n piece) feed'
            (λ came. HasPutPart order came (WroteFront (k.written sink') (k.written sink'')))
            → k.finishes sink'' ≡ k.finishes sink'
            → IsFed options (times_of c clock clock'') (Err fault) (taken_from s source source'')
            (written_on k sink sink'')
        ended_within fault sink'' feed' n why (found, fed, wrote) unfinished =
            let bytes : List ℕ = take n piece in
            let next = one bytes found feed' fed in
            let got = got_now 1 (omega arith) in
            let came = told_of_all arrival feed.ear found in
            let front : IsPrefixOf (bytes_in (calls ++ next ∷ [])) (bytes_in calls ++ piece) = (
              drop n piece,
              ap (λ l. bytes_in calls ++ l) (sym (take-append-drop n piece))
                  ∙ sym (append_assoc (bytes_in calls) bytes (drop n piece))
                  ∙ ap (λ l. l ++ drop n piece) (sym (bytes_more next calls)),
            ) in
            stopped fault clock'' (taken_from s source source'') sink'' why (unfinished ∙ going.unfinished) (
              bytes_in calls ++ piece,
              got.consumed,
              got.few,
              inl (
                bytes_in (calls ++ next ∷ []),
                front,
                (
                  calls ++ next ∷ [],
                  fed_now bytes found feed' fed,
                  refl,
                  subst (Tells c.Told clock clock'') (sym (arrivals_more next calls)) told_now,
                  subst (WroteFront (k.written sink) (k.written sink'')) (sym (lines_now bytes found feed' fed))
                      (wrote_after (k.written sink) (k.written sink') (k.written sink'')
                      (lines_in options start calls) (lines_of (given_by (state_at calls) came)) going.put.0
                      (subst (λ o. WroteFront (k.written sink') (k.written sink'') (lines_of (given_by o came)))
                      going.sorts wrote)),
                ),
              ),
            )

        -- the source is at its end
        module _ (none : count ≡ 0) (end : IsAtEnd (s.to_come source'')) (sink'' : K) where
          none_now : length piece ≡ 0
          none_now = long ∙ none

          abbrev pub all : List ℕ
          all = concat going.made.pieces

          ok_now : (tally : FeedEnd) → (tally ≡ end_of live arrival units feed)
              × HasPutLast order (told_at_end arrival feed) (WroteLast (written_on k sink' sink''))
              → (k.finishes sink'' ≡ k.finishes sink + 1) × TookAll (taken_from s source source'')
              (HasFedAll options (times_of c clock clock'') tally (written_on k sink sink''))
          ok_now tally of =
              let whole = fed_all sink'' all going.made.whole tally of in (
                whole.0,
                (
                  going.made.pieces,
                  got_up_to_end s source source' source'' (bytes_in calls) piece going.made gave used none_now,
                  subst (Consumes (s.to_come source) (s.to_come source''))
                      (no_more (bytes_in calls) piece all going.made.whole none_now) (got_now 1 (omega arith)).consumed,
                  end,
                  whole.1,
                ),
              )

          err_now : (fault : RunFault) → HasStopped order (k.has_failed sink'') fault
              × HasPutLast order (told_at_end arrival feed) (WrotePart (written_on k sink' sink''))
              → IsFed options (times_of c clock clock'') (Err fault) (taken_from s source source'')
              (written_on k sink sink'')
          err_now fault (why, put) =
              let got = got_now 1 (omega arith) in
              let same = sym (no_more (bytes_in calls) piece (bytes_in calls) refl none_now) in
              let input = taken_from s source source'' in
              let failed = fed_front sink'' (bytes_in calls ++ piece) same input (inl end) put in
              stopped fault clock'' input sink'' why failed.0
              (bytes_in calls ++ piece, got.consumed, got.few, inr failed.1)

          module _ (result : Result FeedEnd RunFault) (b : Bool) (b_is : b ≡ live)
              (ok : IfOk result (λ tally. (tally ≡ end_of b arrival units feed)
              × HasPutLast order (told_at_end arrival feed) (WroteLast (written_on k sink' sink''))))
              (err : IfErr result (λ fault. HasStopped order (k.has_failed sink'') fault
              × HasPutLast order (told_at_end arrival feed) (WrotePart (written_on k sink' sink'')))) where
            ok_live_now : IfOk result (λ tally. (tally ≡ end_of live arrival units feed)
                × HasPutLast order (told_at_end arrival feed) (WroteLast (written_on k sink' sink'')))
            ok_live_now =
                subst (λ l. IfOk result (λ tally. (tally ≡ end_of l arrival units feed)
                × HasPutLast order (told_at_end arrival feed) (WroteLast (written_on k sink' sink'')))) b_is ok

            pub ended : IsFed options (times_of c clock clock'') result (taken_from s source source'')
                (written_on k sink sink'')
            ended =
                by_result result _ _ (λ r. IsFed options (times_of c clock clock'') r (taken_from s source source'')
                (written_on k sink sink''))
                (λ tally of. let now = ok_now tally of in (now.0, inl now.1)) err_now ok_live_now err

            pub ended_reported : IfOk result (λ tally. tally.stranger ≡ None
                → TookReported (taken_from s source source'')
                (HasFedAll options (times_of c clock clock'') tally (written_on k sink sink'')))
            ended_reported =
                by_result result _ _ (λ r. IfOk r (λ tally. tally.stranger ≡ None
                → TookReported (taken_from s source source'')
                (HasFedAll options (times_of c clock clock'') tally (written_on k sink sink''))))
                (λ tally of _. took_reported (taken_from s source source'')
                (HasFedAll options (times_of c clock clock'') tally (written_on k sink sink'')) (ok_now tally of).1)
                (λ fault of. tt) ok_live_now err
