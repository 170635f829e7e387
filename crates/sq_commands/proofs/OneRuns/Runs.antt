-- One request has one run.
use Rattle.std.proofs.Common.{◌≡◌, ◌≢◌, ◌∙◌, ℕ, List, Some, subst, sym}
use Rattle.sq_devices.specs.Changes.{Taken, Written}
use Rattle.sq_devices.specs.Clocks.{recorded}
use Rattle.sq_devices.specs.declared.device.Sink.{Ghosts as SinkGhosts}
use Rattle.sq_devices.specs.declared.device.Source.{Ghosts as SourceGhosts}
use Rattle.sq_commands.specs.Requests.{Asked, Reply, Check, Track, Feed}
use Rattle.sq_commands.specs.declared.status.Status.{Status}
use Rattle.sq_commands.specs.declared.status.Status.TheVariants.{Broken}
use Rattle.sq_commands.specs.Check.{IsCheckRun}
use Rattle.sq_commands.specs.Feed.{IsFeedRun}
use Rattle.sq_commands.specs.OneRun.{OneRun, OneRunAside, between}
use Rattle.sq_commands.specs.Outputs.{Effects}
use Rattle.sq_commands.specs.Replies.{IsDelivered, ReplyParts}
use Rattle.sq_commands.specs.Runs.{IsReplied, IsReplyOf, IsRun, IsStreamed}
use Rattle.sq_commands.specs.Track.{IsTrackRun}
use Rattle.sq_commands.proofs.SoundReplies.{IsSound}
use Rattle.sq_commands.proofs.OneRuns.Alike.{HaveOne, IsWhole, one_delivery, one_end}
use Rattle.sq_commands.proofs.OneRuns.Feeds.{one_feed_run}
use Rattle.sq_commands.proofs.OneRuns.Lines.{OneReply, RunAlike, left_alike, one_check_run}
use Rattle.sq_commands.proofs.OneRuns.Logs.{one_track_run}
use Rattle.sq_commands.proofs.OneRuns.Replies.{sound}

-- two runs that deliver a reply are alike, if there is one
replied : (a b : Status) (d e : Effects) → IsWhole a d.outputs → IsWhole b e.outputs → (Is : ReplyParts → Type 0)
    → IsSound Is → IsReplied Is a d → IsReplied Is b e → HaveOne a b d.outputs e.outputs
replied a b d e m n Is sound (x, x_is, took, h) (y, y_is, took', k) =
    one_delivery a b d.outputs e.outputs m n x h
    (subst (λ r. IsDelivered r b e.outputs) (sym (sound.one x y x_is y_is)) k)

module _ (a b : Status) (d e : Effects) (m : IsWhole a d.outputs) (n : IsWhole b e.outputs) (bytes : List ℕ)
    (d_is : d.input.before ≡ Some bytes) (e_is : e.input.before ≡ Some bytes) where
  -- two runs that deliver a reply are alike, if there is one, and leave the same of their inputs
  replied_alike : (Is : ReplyParts → Type 0) → IsSound Is → IsReplied Is a d → IsReplied Is b e → RunAlike a b d e
  replied_alike Is sound x y =
      (replied a b d e m n Is sound x y, left_alike d.input e.input bytes d_is e_is x.2 y.2)

  -- two runs that read their inputs are alike, if there is one reply
  streamed_alike : (Is : ReplyParts → Taken → Written → Type 0)
      → ((x y : ReplyParts) → x.status ≢ Broken → y.status ≢ Broken → Is x d.input d.outputs.output
      → Is y e.input e.outputs.output → OneReply x y d e) → IsStreamed Is a d → IsStreamed Is b e → RunAlike a b d e
  streamed_alike Is one_reply (x, x_is, said) (y, y_is, said') =
      let one = one_reply x y (λ broken. m.unbroken (said.0 ∙ broken)) (λ broken. n.unbroken (said'.0 ∙ broken)) x_is
      y_is in
      (one_end a b d.outputs e.outputs m n x y one.0 one.1 said said', one.2)

  -- two runs of one request are alike
  run_alike : (words : Asked) → IsRun words a d → IsRun words b e → RunAlike a b d e
  run_alike (Reply words) = replied_alike (IsReplyOf words) (sound words)
  run_alike (Check format) =
      streamed_alike (IsCheckRun format) (λ x y u v. one_check_run d e bytes d_is e_is x y u v format)
  run_alike (Track words) =
      streamed_alike (IsTrackRun words) (λ x y u v. one_track_run d e bytes d_is e_is x y u v words)
  run_alike (Feed words) =
      streamed_alike (IsFeedRun words recorded) (λ x y u v. one_feed_run d e bytes d_is e_is x y u v words)

module _ {S K F T L G : Type 0} (s : SourceGhosts S) (k : SinkGhosts K) (f : SinkGhosts F) (t : SourceGhosts T)
    (l : SinkGhosts L) (g : SinkGhosts G) where
  -- a request has one run over the same bytes to come
  pub one_run : OneRun s k f t l g
  one_run words a b old new other last bytes here there x y unbroken unbroken' reported reported' =
      let one = run_alike a b (between s k f old new) (between t l g other last)
      (record { unbroken = unbroken; reported = reported }) (record { unbroken = unbroken'; reported = reported' })
      bytes here there words x y in
      (one.0.0, one.0.1, one.0.2, one.1)

  -- a request that reads no input has one run, whatever is to come
  pub one_run_aside : OneRunAside s k f t l g
  one_run_aside words a b old new other last x y unbroken unbroken' reported reported' =
      replied a b (between s k f old new) (between t l g other last)
      (record { unbroken = unbroken; reported = reported }) (record { unbroken = unbroken'; reported = reported' })
      (IsReplyOf words) (sound words) x y
