-- Of one log two runs of `track` write the same.
use Rattle.std.proofs.Common.{◌≡◌, ◌≢◌, ◌∙◌, ◌∷◌, ℕ, [], List, Option, None, Some, Result, Ok, Err, ap, ap₂, sym, subst, inl}
use Rattle.std.proofs.Common.{inr}
use Rattle.sq_message.specs.declared.received.Received.{Received}
use Rattle.sq_text.specs.Timed.{TimedReader}
use Rattle.sq_log.specs.Answers.{tally_of}
use Rattle.sq_log.specs.Content.{Answer, answer_by}
use Rattle.sq_log.specs.Lines.{lines_of}
use Rattle.sq_log.specs.declared.log.Tally.{Tally}
use Rattle.sq_commands.specs.Requests.{AskedTrack}
use Rattle.sq_track.specs.declared.heard.Heard.{Heard}
use Rattle.sq_track.specs.declared.heard.TrackFault.{TrackFault}
use Rattle.sq_track.specs.Held.{Held, StandsFor, made_with, settings}
use Rattle.sq_track.specs.History.{History}
use Rattle.sq_track.specs.Replies.{Settings, history_after}
use Rattle.sq_track.proofs.Histories.OneReply.{one_reply}
use Rattle.sq_devices.specs.Changes.{FinishedOnce, Sent, WroteLast, Written}
use Rattle.sq_commands.specs.declared.arguments.ArgumentFault.{ArgumentFault}
use Rattle.sq_commands.specs.declared.arguments.TrackOptions.{TrackOptions}
use Rattle.sq_commands.specs.declared.status.Status.TheVariants.{Broken}
use Rattle.sq_commands.specs.Check.{run_reply}
use Rattle.sq_commands.specs.Faults.{IsMisuse}
use Rattle.sq_commands.specs.Formats.{Telling, told_by}
use Rattle.sq_commands.specs.Heard.{HeardSquitter, heard_telling}
use Rattle.sq_commands.specs.Outputs.{Effects}
use Rattle.sq_commands.specs.Replies.{ReplyParts}
use Rattle.sq_commands.specs.Track.{HasTracked, IsLimit, IsLogRun, IsTrackFault, IsTrackOptions, IsTrackRun}
use Rattle.sq_commands.specs.Track.{IsWindow}
use Rattle.sq_commands.specs.Tracking.{AreHeardLines, IsHeardLine, found_of}
use Rattle.sq_commands.proofs.FaultLemmas.{one_track_fault}
use Rattle.sq_commands.proofs.FormatLemmas.{one_format}
use Rattle.sq_commands.specs.TrueAnswers.{some_reader}
use Rattle.sq_commands.proofs.SomeWriters.{some_writers}
use Rattle.sq_commands.proofs.OneRuns.Lines.{OneReply, not_broken_off, one_misuse, took_lines}
use Rattle.sq_commands.proofs.OneRuns.Words.{good_site, one_site_words}

-- ---- what is heard

-- a line has one answer by a history, and one history after it
one_heard_line : (s : Settings) (h : History) (read : Answer Received) (x y : Answer HeardSquitter)
    (next later : History) → IsHeardLine s h read x next → IsHeardLine s h read y later → (x ≡ y) × (next ≡ later)
one_heard_line s h None x y next later p q = (p.0 ∙ sym q.0, p.1 ∙ sym q.1)
one_heard_line s h (Some (Err fault)) x y next later p q = (p.0 ∙ sym q.0, p.1 ∙ sym q.1)
one_heard_line s h (Some (Ok timed)) x y next later (r, r_is, r_room, x_is, next_is)
    (t, t_is, t_room, y_is, later_is) =
    let one : r ≡ t = one_reply s h timed.moment timed.squitter r t r_room t_room r_is t_is in (
      x_is ∙ ap (λ (z : Result Heard TrackFault). Some (found_of timed z)) one ∙ sym y_is,
      next_is ∙ ap (λ (z : Result Heard TrackFault). history_after h timed.moment timed.squitter z) one ∙ sym later_is,
    )

-- lines have one list of answers
one_heard_lines : (reader : TimedReader) (s : Settings) (h : History) (lines : List (List ℕ))
    (xs ys : List (Answer HeardSquitter)) (next later : History)
    → AreHeardLines reader s h lines xs next → AreHeardLines reader s h lines ys later → xs ≡ ys
one_heard_lines reader s h [] xs ys next later p q = p.0 ∙ sym q.0
one_heard_lines reader s h (line ∷ lines) xs ys next later (x, after, rest, x_is, rest_is, xs_is)
    (y, after', rest', y_is, rest_is', ys_is) =
    let first = one_heard_line s h (answer_by reader.read line) x y after after' x_is y_is in
    let others : rest ≡ rest' = one_heard_lines reader s after lines rest rest' next later rest_is
    (subst (λ g. AreHeardLines reader s g lines rest' later) (sym first.1) rest_is') in
    xs_is ∙ ap₂ (λ (z : Answer HeardSquitter) zs. z ∷ zs) first.0 others ∙ sym ys_is

-- ---- options

-- a word is one limit
one_limit : (word : Option (List ℕ)) (x y : ℕ) → IsLimit word x → IsLimit word y → x ≡ y
one_limit None x y p q = p ∙ sym q
one_limit (Some word) x y p q = p.0.value ∙ sym q.0.value

-- a word is one window
one_window : (word : Option (List ℕ)) (x y : ℕ) → IsWindow word x → IsWindow word y → x ≡ y
one_window None x y p q = p ∙ sym q
one_window (Some word) x y p q = p.value ∙ sym q.value

-- words spell these options alone
one_track_options : (words : AskedTrack) (x y : TrackOptions) → IsTrackOptions words x → IsTrackOptions words y → x ≡ y
one_track_options words x y p q =
    let format = one_format words.format x.format y.format p.format_is q.format_is in
    let limit = one_limit words.limit x.limit y.limit p.limit_is q.limit_is in
    let window = one_window words.window x.window y.window p.window_is q.window_is in
    let site = one_site_words words.lat words.lon x.site y.site p.site_is q.site_is in
    λ i. record { format = format i; limit = limit i; window = window i; site = site i }

-- words that spell options have no fault
good_track : (words : AskedTrack) (x : TrackOptions) (fault : ArgumentFault) → IsTrackOptions words x
    → IsTrackFault words fault → ⊥
good_track words x fault p (inl (_, bad)) = bad (x.format, p.format_is)
good_track words x fault p (inr (_, inl (_, bad))) = bad (x.limit, p.limit_is)
good_track words x fault p (inr (_, inr (_, inl (_, bad)))) = bad (x.limit, p.limit_is, p.some)
good_track words x fault p (inr (_, inr (_, inr (_, inl (_, bad))))) = bad (x.window, p.window_is)
good_track words x fault p (inr (_, inr (_, inr (_, inr (_, bad))))) =
    good_site words.lat words.lon x.site fault p.site_is bad

-- ---- runs

-- trackers that were made alike, and have heard nothing, answer the same to one log
one_log : (how : Telling HeardSquitter) (s : Settings) (v w : Written) (x y : Tally) (bytes : List ℕ)
    (old new other last : Held) → settings old ≡ s → settings other ≡ s → StandsFor old [] → StandsFor other []
    → FinishedOnce v → FinishedOnce w → HasTracked how old new (Ok x) v (lines_of bytes)
    → HasTracked how other last (Ok y) w (lines_of bytes)
    → (x ≡ y) × ((text : List ℕ) × WroteLast v text × WroteLast w text)
one_log how s v w x y bytes old new other last made made' stands stands' once once' h k =
    let (xs, next, heard, _, _, (sent, counted)) = h some_reader some_writers [] stands in
    let (ys, later, heard', _, _, (sent', counted')) = k some_reader some_writers [] stands' in
    let here = subst (λ t. AreHeardLines some_reader t [] (lines_of bytes) xs next) made heard in
    let there = subst (λ t. AreHeardLines some_reader t [] (lines_of bytes) ys later) made' heard' in
    let one : xs ≡ ys = one_heard_lines some_reader s [] (lines_of bytes) xs ys next later here there in (
      counted ∙ ap (λ (zs : List (Answer HeardSquitter)). tally_of zs) one ∙ sym counted',
      (
        told_by how some_writers xs,
        (sent, once),
        (subst (λ zs. Sent w (told_by how some_writers zs)) (sym one) sent', once'),
      ),
    )

module _ (d e : Effects) (bytes : List ℕ) (d_is : d.input.before ≡ Some bytes) (e_is : e.input.before ≡ Some bytes)
    (x y : ReplyParts) (m : x.status ≢ Broken) (n : y.status ≢ Broken) where
  -- two runs of `track` with one set of options have one reply
  one_log_run : (options : TrackOptions) → IsLogRun options x d.input d.outputs.output
      → IsLogRun options y e.input e.outputs.output → OneReply x y d e
  one_log_run options (old, new, stands, made, (Err fault, tracked, ended)) other =
      absurd (not_broken_off x fault m ended)
  one_log_run options (old, new, stands, made, (Ok tally, tracked, ended))
      (other, last, stands', made', (Err fault, tracked', ended')) = absurd (not_broken_off y fault n ended')
  one_log_run options (old, new, stands, made, (Ok tally, (once, (lines, took, told)), ended))
      (other, last, stands', made', (Ok tally', (once', (lines', took', told')), ended')) =
      let how = heard_telling options.format in
      let h = took_lines d.input bytes lines (HasTracked how old new (Ok tally) d.outputs.output) d_is took told in
      let k = took_lines e.input bytes lines' (HasTracked how other last (Ok tally') e.outputs.output) e_is took'
      told' in
      let one = one_log how (made_with options.limit options.window options.site) d.outputs.output e.outputs.output
      tally tally' bytes old new other last made made' stands stands' once once' h.1 k.1 in
      (ended ∙ ap (λ (t : Tally). run_reply (Ok t)) one.0 ∙ sym ended', inr one.1, h.0 ∙ sym k.0)

  -- two runs of `track` have one reply
  pub one_track_run : (words : AskedTrack) → IsTrackRun words x d.input d.outputs.output
      → IsTrackRun words y e.input e.outputs.output → OneReply x y d e
  one_track_run words (inl (f, f_is, run)) (inl (g, g_is, run')) =
      one_log_run f run
      (subst (λ z. IsLogRun z y e.input e.outputs.output) (sym (one_track_options words f g f_is g_is)) run')
  one_track_run words (inl (f, f_is, run)) (inr (fault, bad, misuse)) = absurd (good_track words f fault f_is bad)
  one_track_run words (inr (fault, bad, misuse)) (inl (g, g_is, run)) = absurd (good_track words g fault g_is bad)
  one_track_run words (inr (fault, bad, misuse)) (inr (fault', bad', misuse')) =
      one_misuse fault x y d e bytes d_is e_is misuse
      (subst (λ (h : ArgumentFault). IsMisuse h y e.input e.outputs.output)
      (sym (one_track_fault words fault fault' bad bad')) misuse')
