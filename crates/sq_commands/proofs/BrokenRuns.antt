-- A run that broke off did what its devices show.
use Rattle.std.proofs.Common.{◌≡◌, Option, None, Some, Ok, Err, inl, inr, sym}
use Rattle.std.specs.Prelude.{Bool, codes, false, true, if◌then◌else◌}
use Rattle.sq_devices.specs.Changes.{TookNothing, WroteOrFailed, taken_from, written_on}
use Rattle.sq_devices.specs.Clocks.{Times}
use Rattle.sq_devices.specs.declared.device.Sink.{Ghosts as SinkGhosts}
use Rattle.sq_devices.specs.declared.device.Source.{Ghosts as SourceGhosts}
use Rattle.sq_log.specs.declared.run.RunFault.TheVariants.{Read, Write, Memory}
use Rattle.sq_feed.specs.Counts.{Tally}
use Rattle.sq_feed.specs.declared.message.Stranger.{Stranger}
use Rattle.sq_commands.specs.Feed.{feed_reply, status_at_end}
use Rattle.sq_commands.specs.Requests.{Text}
use Rattle.sq_commands.specs.declared.status.Status.TheVariants.{Broken, Good, Refused}
use Rattle.sq_commands.specs.Summary.{are_all_damaged}
use Rattle.sq_commands.specs.BrokenOff.{BrokenAside, BrokenFeeds, FailedInside}
use Rattle.sq_commands.specs.Outputs.{effects, outputs}
use Rattle.sq_commands.specs.Replies.{FailedOn, IsDelivered, ReplyParts, broken_off}
use Rattle.sq_commands.specs.Runs.{IsReplied, IsReplyOf}
use Rattle.sq_commands.proofs.SoundReplies.{IsSound, reported_as}
use Rattle.sq_commands.proofs.OneRuns.Replies.{sound}

-- a run to the end of its input did not break off
whole_feed : (counts : Tally) (stranger : Option Stranger) → Broken ≡ status_at_end counts stranger → ⊥
whole_feed counts None is = by (are_all_damaged counts) is
  where
    by : (b : Bool) → Broken ≡ (if b then Refused else Good) → ⊥
    by true is = cc is
    by false is = cc is
whole_feed counts (Some stranger) is = cc is

module _ {S K F : Type 0} (s : SourceGhosts S) (k : SinkGhosts K) (f : SinkGhosts F) where
  pub broken_feeds : (clock : Times) → BrokenFeeds s k f clock
  broken_feeds clock options from to old new before after (reply, (Ok end, fed, is), said) =
      absurd (whole_feed end.counts end.stranger
      (reported_as reply (feed_reply (Ok end)) Broken (written_on f before after) is said).0)
  broken_feeds clock options from to old new before after (reply, (Err Read, (same, took), is), said) =
      (same, inl (took, (reported_as reply (broken_off Read) Broken (written_on f before after) is said).1))
  broken_feeds clock options from to old new before after (reply, (Err Write, (failed, same, took), is), said) =
      let report = (reported_as reply (broken_off Write) Broken (written_on f before after) is said).1 in
      (same, inr (took, inl (failed, report)))
  broken_feeds clock options from to old new before after (reply, (Err Memory, (some, same, took), is), said) =
      let report = (reported_as reply (broken_off Memory) Broken (written_on f before after) is said).1 in
      (same, inr (took, inr (some, report)))

  failed_inside : (text : Option Text) (old new : K) → FailedOn text (written_on k old new)
      → (bytes : Text) × FailedInside s k f old new bytes
  failed_inside None old new none = absurd none
  failed_inside (Some bytes) old new failed = (bytes, failed)

  -- if no reply is `Broken` and the run ends so, its output failed
  broken_reply : (Is : ReplyParts → Type 0) → IsSound Is → (from to : S) (old new : K) (before after : F)
      → IsReplied Is Broken (effects s from to (outputs k f old new before after)) → TookNothing (taken_from s from to)
      × ((text : Text) × FailedInside s k f old new text
      × WroteOrFailed (written_on f before after) (codes "write failed\n"))
  unfolding IsDelivered
  broken_reply Is sound from to old new before after (reply, is, took, inl whole) =
      absurd (sound.unbroken reply is (sym whole.0))
  broken_reply Is sound from to old new before after (reply, is, took, inr (_, failed, reported)) =
      let inside = failed_inside reply.output old new failed in (took, (inside.0, inside.1, reported))

  pub broken_aside : BrokenAside s k f
  broken_aside words from to old new a b = broken_reply (IsReplyOf words) (sound words) from to old new a b
