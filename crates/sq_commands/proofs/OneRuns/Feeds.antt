-- Two runs of `feed` with one recorded input write the same.
use Rattle.std.proofs.Common.{◌≡◌, ◌≢◌, ◌∙◌, ◌++◌, ℕ, List, [], ◌∷◌, Option, None, Some, Ok, Err, ap, ap₂, append_assoc, false}
use Rattle.std.proofs.Common.{inl, inr, refl, rules, subst, sym, true}
use Rattle.std.specs.Prelude.{codes}
use Rattle.std.specs.List.{All}
use Rattle.std.specs.Str.{bytes_eq}
use Rattle.std.proofs.lemmas.Bool.{false≢true}
use Rattle.std.proofs.lemmas.Slice.Eq.{bytes_eq-Decides}
use Rattle.std.proofs.lemmas.List.Elements.{All-cons, All-head, All-nil, All-tail}
use Rattle.sq_devices.specs.Changes.{Sent}
use Rattle.sq_devices.specs.Clocks.{recorded}
use Rattle.sq_feed.specs.Ears.{Hears, ear_after, ear_after_all, ear_ended, told_ended, told_of, told_of_all}
use Rattle.sq_feed.specs.Feeds.{AreFed, Fed, Feeding, bytes_in, ear_at_last, items_in, last_fed, told_at_end}
use Rattle.sq_feed.specs.Readers.{awaited, items_as}
use Rattle.sq_feed.specs.Units.{nothing_watched, watched_all}
use Rattle.sq_feed.proofs.Watching.{watched_more}
use Rattle.sq_feed.specs.declared.machine.Format.{Format}
use Rattle.sq_feed.specs.declared.message.Found.{Found}
use Rattle.sq_feed.specs.declared.message.Timed.{Timed}
use Rattle.sq_feed.proofs.Feeding.{feeds_the_whole}
use Rattle.sq_commands.specs.Requests.{AskedFeed}
use Rattle.sq_commands.specs.declared.arguments.ArgumentFault.{ArgumentFault}
use Rattle.sq_commands.specs.declared.status.Status.TheVariants.{Broken}
use Rattle.sq_commands.specs.Faults.{IsMisuse}
use Rattle.sq_commands.specs.Feed.{HasFedAll, IsFeedFault, IsFeedOptions, IsFeedRun, IsFeedRunIn, IsMillis, IsNoSource}
use Rattle.sq_commands.specs.Feed.{IsSourceWord, all_lines, all_squitters, arrivals_in, end_after, end_by, lines_whole}
use Rattle.sq_commands.specs.Feed.{feed_reply, manner_of, squitters_in, start_of, usual_leap}
use Rattle.sq_commands.specs.declared.feed.FeedEnd.{FeedEnd}
use Rattle.sq_commands.specs.declared.feed.FeedOptions.{FeedOptions}
use Rattle.sq_commands.proofs.FaultLemmas.{one_feed_fault}
use Rattle.sq_commands.specs.Outputs.{Effects}
use Rattle.sq_commands.specs.Replies.{ReplyParts}
use Rattle.sq_commands.proofs.OneRuns.Lines.{OneReply, not_broken_off, one_misuse, took_bytes}

-- ---- items of several calls

told_append : (ear : Hears) (xs ys : List Found)
    → told_of_all 0 ear (xs ++ ys) ≡ told_of_all 0 ear xs ++ told_of_all 0 (ear_after_all 0 ear xs) ys
told_append ear [] ys = refl
told_append ear (x ∷ xs) ys =
    ap (λ l. told_of 0 ear x ++ l) (told_append (ear_after 0 ear x) xs ys)
    ∙ sym (append_assoc (told_of 0 ear x) (told_of_all 0 (ear_after 0 ear x) xs)
    (told_of_all 0 (ear_after_all 0 (ear_after 0 ear x) xs) ys))

ear_append : (ear : Hears) (xs ys : List Found)
    → ear_after_all 0 ear (xs ++ ys) ≡ ear_after_all 0 (ear_after_all 0 ear xs) ys
ear_append ear [] ys = refl
ear_append ear (x ∷ xs) ys = ear_append (ear_after 0 ear x) xs ys

abbrev pub IsZero : ℕ → Type 0
IsZero moment = moment ≡ 0

zero_front : (xs : List ℕ) (y : ℕ) → All IsZero (xs ++ y ∷ []) → All IsZero xs
zero_front [] y zero = All-nil IsZero
zero_front (x ∷ xs) y zero =
    All-cons IsZero x xs (All-head IsZero x (xs ++ y ∷ []) zero)
    (zero_front xs y (All-tail IsZero x (xs ++ y ∷ []) zero))

zero_last : (xs : List ℕ) (y : ℕ) → All IsZero (xs ++ y ∷ []) → y ≡ 0
zero_last [] y zero = All-head IsZero y [] zero
zero_last (x ∷ xs) y zero = zero_last xs y (All-tail IsZero x (xs ++ y ∷ []) zero)

zero_heard : (calls : List Fed) (before : Feeding) → AreFed before calls → All IsZero (arrivals_in calls)
    → (last_fed before calls).ear ≡ ear_after_all 0 before.ear (items_in calls)
zero_heard [] before fed zero = refl
zero_heard (one ∷ more) before (fed, others) zero =
    let is = All-head IsZero one.arrival (arrivals_in more) zero in
    zero_heard more one.after others (All-tail IsZero one.arrival (arrivals_in more) zero)
    ∙ ap (λ (k : Hears). ear_after_all 0 k (items_in more))
    (fed.heard ∙ ap (λ n. ear_after_all n before.ear one.found) is)
    ∙ sym (ear_append before.ear one.found (items_in more))

zero_squitters : (calls : List Fed) (before : Feeding) → AreFed before calls → All IsZero (arrivals_in calls)
    → squitters_in before calls ≡ told_of_all 0 before.ear (items_in calls)
unfolding squitters_in
zero_squitters [] before fed zero = refl
zero_squitters (one ∷ more) before (fed, others) zero =
    let is = All-head IsZero one.arrival (arrivals_in more) zero in
    let rest = zero_squitters more one.after others (All-tail IsZero one.arrival (arrivals_in more) zero) in
    let heard = fed.heard ∙ ap (λ n. ear_after_all n before.ear one.found) is in
    ap₂ (λ (n : ℕ) (l : List Timed). told_of_all n before.ear one.found ++ l) is
    (rest ∙ ap (λ (k : Hears). told_of_all 0 k (items_in more)) heard)
    ∙ sym (told_append before.ear one.found (items_in more))

-- the squitters of all items of a recorded input, and of its rows that waited at the end
abbrev squitters_whole : Hears → List Found → List Timed
squitters_whole ear items = told_of_all 0 ear items ++ told_ended (ear_after_all 0 ear items)

module _ (options : FeedOptions) (calls : List Fed) (arrival : ℕ) (bytes : List ℕ)
    (fed : AreFed (start_of options recorded) calls) (whole : bytes_in calls ≡ bytes)
    (zero : All IsZero (arrivals_in calls ++ arrival ∷ [])) where
  abbrev pub start : Feeding
  start = start_of options recorded

  abbrev pub last : Feeding
  last = last_fed start calls

  items : items_in calls ++ awaited last.reader [] ≡ items_as options.format bytes
  items = feeds_the_whole options.format (manner_of options false) calls fed ∙ ap (items_as options.format) whole

  front : All IsZero (arrivals_in calls)
  front = zero_front (arrivals_in calls) arrival zero

  end : arrival ≡ 0
  end = zero_last (arrivals_in calls) arrival zero

  heard : last.ear ≡ ear_after_all 0 start.ear (items_in calls)
  heard = zero_heard calls start fed front

  -- the state after the items of the whole input
  whole_ear : ear_at_last arrival last ≡ ear_after_all 0 start.ear (items_as options.format bytes)
  whole_ear =
      ap₂ (λ (n : ℕ) (k : Hears). ear_after_all n k (awaited last.reader [])) end heard
      ∙ sym (ear_append start.ear (items_in calls) (awaited last.reader []))
      ∙ ap (ear_after_all 0 start.ear) items

  -- the squitters are those of the items of the whole input, and of its rows that waited
  whole_squitters : all_squitters start calls arrival ≡ squitters_whole start.ear (items_as options.format bytes)
  whole_squitters =
      let last_told = told_of_all arrival last.ear (awaited last.reader []) in
      sym (append_assoc (squitters_in start calls) last_told (told_ended (ear_at_last arrival last)))
      ∙ ap₂ (λ (l m : List Timed). l ++ m)
      (ap₂ (λ (l m : List Timed). l ++ m) (zero_squitters calls start fed front)
      (ap₂ (λ (n : ℕ) (k : Hears). told_of_all n k (awaited last.reader [])) end heard)
      ∙ sym (told_append start.ear (items_in calls) (awaited last.reader []))
      ∙ ap (told_of_all 0 start.ear) items) (ap told_ended whole_ear)

  -- so are the lines
  pub whole_lines : all_lines options start calls arrival
      ≡ lines_whole options.reorder (squitters_whole start.ear (items_as options.format bytes))
  whole_lines = ap (lines_whole options.reorder) whole_squitters

  -- the end is that of the items of the whole input
  pub whole_end : end_after false start calls arrival
      ≡ end_by false (watched_all nothing_watched (squitters_whole start.ear (items_as options.format bytes)))
      (ear_ended (ear_after_all 0 start.ear (items_as options.format bytes)))
  whole_end =
      ap₂ (end_by false)
      (sym (watched_more nothing_watched (squitters_in start calls) (told_at_end arrival last))
      ∙ ap (watched_all nothing_watched) whole_squitters)
      (ap ear_ended whole_ear)

-- ---- words

-- texts that compare as different are not one
other : {X : Type 0} (a b : List ℕ) → a ≡ b → bytes_eq a b ≡ false → X
other a b is differ =
    let same : bytes_eq a b ≡ true = search (rules, bytes_eq-Decides) in absurd (false≢true (sym differ ∙ same))

pub one_source : (word : Option (List ℕ)) (a b : Option Format) → IsSourceWord word a → IsSourceWord word b → a ≡ b
one_source None a b x y = x ∙ sym y
one_source (Some word) a b (inl (_, x)) (inl (_, y)) = x ∙ sym y
one_source (Some word) a b (inl (v, _)) (inr (inl (w, _))) = other _ _ (sym v ∙ w) refl
one_source (Some word) a b (inl (v, _)) (inr (inr (inl (w, _)))) = other _ _ (sym v ∙ w) refl
one_source (Some word) a b (inl (v, _)) (inr (inr (inr (inl (w, _))))) = other _ _ (sym v ∙ w) refl
one_source (Some word) a b (inl (v, _)) (inr (inr (inr (inr (w, _))))) = other _ _ (sym v ∙ w) refl
one_source (Some word) a b (inr (inl (v, _))) (inl (w, _)) = other _ _ (sym v ∙ w) refl
one_source (Some word) a b (inr (inl (_, x))) (inr (inl (_, y))) = x ∙ sym y
one_source (Some word) a b (inr (inl (v, _))) (inr (inr (inl (w, _)))) = other _ _ (sym v ∙ w) refl
one_source (Some word) a b (inr (inl (v, _))) (inr (inr (inr (inl (w, _))))) = other _ _ (sym v ∙ w) refl
one_source (Some word) a b (inr (inl (v, _))) (inr (inr (inr (inr (w, _))))) = other _ _ (sym v ∙ w) refl
one_source (Some word) a b (inr (inr (inl (v, _)))) (inl (w, _)) = other _ _ (sym v ∙ w) refl
one_source (Some word) a b (inr (inr (inl (v, _)))) (inr (inl (w, _))) = other _ _ (sym v ∙ w) refl
one_source (Some word) a b (inr (inr (inl (_, x)))) (inr (inr (inl (_, y)))) = x ∙ sym y
one_source (Some word) a b (inr (inr (inl (v, _)))) (inr (inr (inr (inl (w, _))))) = other _ _ (sym v ∙ w) refl
one_source (Some word) a b (inr (inr (inl (v, _)))) (inr (inr (inr (inr (w, _))))) = other _ _ (sym v ∙ w) refl
one_source (Some word) a b (inr (inr (inr (inl (v, _))))) (inl (w, _)) = other _ _ (sym v ∙ w) refl
one_source (Some word) a b (inr (inr (inr (inl (v, _))))) (inr (inl (w, _))) = other _ _ (sym v ∙ w) refl
one_source (Some word) a b (inr (inr (inr (inl (v, _))))) (inr (inr (inl (w, _)))) = other _ _ (sym v ∙ w) refl
one_source (Some word) a b (inr (inr (inr (inl (_, x))))) (inr (inr (inr (inl (_, y))))) = x ∙ sym y
one_source (Some word) a b (inr (inr (inr (inl (v, _))))) (inr (inr (inr (inr (w, _))))) = other _ _ (sym v ∙ w) refl
one_source (Some word) a b (inr (inr (inr (inr (v, _))))) (inl (w, _)) = other _ _ (sym v ∙ w) refl
one_source (Some word) a b (inr (inr (inr (inr (v, _))))) (inr (inl (w, _))) = other _ _ (sym v ∙ w) refl
one_source (Some word) a b (inr (inr (inr (inr (v, _))))) (inr (inr (inl (w, _)))) = other _ _ (sym v ∙ w) refl
one_source (Some word) a b (inr (inr (inr (inr (v, _))))) (inr (inr (inr (inl (w, _))))) = other _ _ (sym v ∙ w) refl
one_source (Some word) a b (inr (inr (inr (inr (_, x))))) (inr (inr (inr (inr (_, y))))) = x ∙ sym y

-- a word that is none of these names names no format
pub no_source : (word : List ℕ) → ◌≢◌ {A = Option (List ℕ)} (Some word) (Some (codes "auto"))
    → ◌≢◌ {A = Option (List ℕ)} (Some word) (Some (codes "beast"))
    → ◌≢◌ {A = Option (List ℕ)} (Some word) (Some (codes "avr"))
    → ◌≢◌ {A = Option (List ℕ)} (Some word) (Some (codes "csv"))
    → ◌≢◌ {A = Option (List ℕ)} (Some word) (Some (codes "log")) → IsNoSource (Some word)
no_source word no_auto no_beast no_avr no_csv no_log format (inl (is, _)) = no_auto (ap Some is)
no_source word no_auto no_beast no_avr no_csv no_log format (inr (inl (is, _))) = no_beast (ap Some is)
no_source word no_auto no_beast no_avr no_csv no_log format (inr (inr (inl (is, _)))) = no_avr (ap Some is)
no_source word no_auto no_beast no_avr no_csv no_log format (inr (inr (inr (inl (is, _))))) = no_csv (ap Some is)
no_source word no_auto no_beast no_avr no_csv no_log format (inr (inr (inr (inr (is, _))))) = no_log (ap Some is)

-- ---- options

one_millis : (usual : ℕ) (word : Option (List ℕ)) (a b : ℕ) → IsMillis usual word a → IsMillis usual word b → a ≡ b
one_millis usual None a b x y = x ∙ sym y
one_millis usual (Some word) a b x y = x.value ∙ sym y.value

one_options : (words : AskedFeed) (a b : FeedOptions) → IsFeedOptions words a → IsFeedOptions words b → a ≡ b
one_options words a b x y =
    let format = one_source words.format a.format b.format x.format_is y.format_is in
    let reorder = one_millis 0 words.reorder a.reorder b.reorder x.reorder_is y.reorder_is in
    let leap = one_millis usual_leap words.leap a.leap b.leap x.leap_is y.leap_is in
    let arrival = x.arrival_is ∙ sym y.arrival_is in
    let all = x.all_is ∙ sym y.all_is in
    λ i. record {
      format = format i;
      reorder = reorder i;
      leap = leap i;
      ignores_clock = arrival i;
      all_formats = all i;
    }

no_options : (words : AskedFeed) (options : FeedOptions) (fault : ArgumentFault) → IsFeedOptions words options
    → IsFeedFault words fault → ⊥
no_options words options fault is (inl (own, none)) = none (options.format, is.format_is)
no_options words options fault is (inr (good, inl (own, none))) = none (options.reorder, is.reorder_is)
no_options words options fault is (inr (good, inr (good_too, (own, none)))) = none options.leap is.leap_is

-- ---- runs

module _ (d e : Effects) (bytes : List ℕ) (d_is : d.input.before ≡ Some bytes) (e_is : e.input.before ≡ Some bytes)
    (x y : ReplyParts) (m : x.status ≢ Broken) (n : y.status ≢ Broken) where
  -- two runs of `feed` with the same options have one reply
  one_feed_run_in : (options : FeedOptions) → IsFeedRunIn options recorded x d.input d.outputs.output
      → IsFeedRunIn options recorded y e.input e.outputs.output → OneReply x y d e
  one_feed_run_in options (Err fault, fed, ended) other = absurd (not_broken_off x fault m ended)
  one_feed_run_in options (Ok end, fed, ended) (Err fault, fed', ended') =
      absurd (not_broken_off y fault n ended')
  one_feed_run_in options (Ok end, (once, inr (live, known, early)), ended) other = absurd (false≢true live)
  one_feed_run_in options (Ok end, (once, inl took), ended) (Ok end', (once', inr (live, known, early)), ended') =
      absurd (false≢true live)
  one_feed_run_in options (Ok end, (once, inl took), ended) (Ok end', (once', inl took'), ended') =
      let here = took_bytes d.input bytes (HasFedAll options recorded end d.outputs.output) d_is took in
      let there = took_bytes e.input bytes (HasFedAll options recorded end' e.outputs.output) e_is took' in
      alike here.0 there.0 here.1 there.1
    where
      alike : d.input.after ≡ Some [] → e.input.after ≡ Some []
          → HasFedAll options recorded end d.outputs.output bytes
          → HasFedAll options recorded end' e.outputs.output bytes → OneReply x y d e
      alike d_end e_end (calls, arrival, fed, whole, zero, (sent, counted))
          (calls', arrival', fed', whole', zero', (sent', counted')) =
          let heard = squitters_whole (start_of options recorded).ear (items_as options.format bytes) in
          let text = lines_whole options.reorder heard in
          let same = whole_lines options calls arrival bytes fed whole zero in
          let same' = whole_lines options calls' arrival' bytes fed' whole' zero' in
          let end_is = counted ∙ whole_end options calls arrival bytes fed whole zero in
          let end_is' = counted' ∙ whole_end options calls' arrival' bytes fed' whole' zero' in (
            ended ∙ ap (λ (t : FeedEnd). feed_reply (Ok t)) (end_is ∙ sym end_is') ∙ sym ended',
            inr (
              text,
              (subst (Sent d.outputs.output) same sent, once),
              (subst (Sent e.outputs.output) same' sent', once'),
            ),
            d_end ∙ sym e_end,
          )

  -- two runs of `feed` have one reply
  pub one_feed_run : (words : AskedFeed) → IsFeedRun words recorded x d.input d.outputs.output
      → IsFeedRun words recorded y e.input e.outputs.output → OneReply x y d e
  one_feed_run words (inl (f, f_is, run)) (inl (g, g_is, run')) =
      one_feed_run_in f run
      (subst (λ h. IsFeedRunIn h recorded y e.input e.outputs.output) (sym (one_options words f g f_is g_is)) run')
  one_feed_run words (inl (f, f_is, run)) (inr (fault, bad, misuse)) = absurd (no_options words f fault f_is bad)
  one_feed_run words (inr (fault, bad, misuse)) (inl (g, g_is, run)) = absurd (no_options words g fault g_is bad)
  one_feed_run words (inr (fault, bad, misuse)) (inr (fault', bad', misuse')) =
      one_misuse fault x y d e bytes d_is e_is misuse
      (subst (λ (h : ArgumentFault). IsMisuse h y e.input e.outputs.output)
      (sym (one_feed_fault words fault fault' bad bad')) misuse')
