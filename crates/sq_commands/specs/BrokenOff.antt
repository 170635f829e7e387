-- The effects of a run of `feed`, and of a command that reads no input, that stopped early.
use Rattle.std.specs.Prelude.{◌≡◌, ◌≢◌, ◌⊎◌, ℕ, List, codes, true}
use Rattle.sq_devices.specs.Changes.{TookNothing, TookPart, TookSome, WroteOrFailed, taken_from, written_on}
use Rattle.sq_devices.specs.Clocks.{Times}
use Rattle.sq_devices.specs.Device.{WroteFront}
use Rattle.sq_devices.specs.declared.device.Sink.{Ghosts as SinkGhosts}
use Rattle.sq_devices.specs.declared.device.Source.{Ghosts as SourceGhosts}
use Rattle.sq_commands.specs.Requests.{AskedReply, Reply}
use Rattle.sq_commands.specs.declared.status.Status.TheVariants.{Broken}
use Rattle.sq_commands.specs.declared.feed.FeedOptions.{FeedOptions}
use Rattle.sq_commands.specs.Feed.{HasFedFront, HasFedSome, IsFeedRunIn}
use Rattle.sq_commands.specs.Outputs.{effects, outputs}
use Rattle.sq_commands.specs.Runs.{IsRun, IsStreamed}

module _ {S K F : Type 0} (s : SourceGhosts S) (k : SinkGhosts K) (f : SinkGhosts F) where
  -- the output failed within this text, and was not finished
  abbrev pub FailedInside : (old new : K) → List ℕ → Type 0
  FailedInside old new text =
      (k.has_failed new ≡ true) × WroteFront (k.written old) (k.written new) text × (k.finishes new ≡ k.finishes old)

  -- A run of `feed` that stopped early finished no output. Either a get failed after the lines of all items that were
  -- read whole. Or the output failed within these lines; or, with a `reorder`, there was no memory for a squitter.
  abbrev pub BrokenFeeds : Times → Type 0
  BrokenFeeds clock = (options : FeedOptions) (from to : S) (old new : K) (before after : F)
      → IsStreamed (IsFeedRunIn options clock) Broken (effects s from to (outputs k f old new before after))
      → (k.finishes new ≡ k.finishes old)
      × ((TookPart (taken_from s from to) (HasFedSome options clock (written_on k old new))
      × WroteOrFailed (written_on f before after) (codes "read failed\n"))
      ⊎ (TookSome (taken_from s from to) (HasFedFront options clock (taken_from s from to) (written_on k old new))
      × (((k.has_failed new ≡ true) × WroteOrFailed (written_on f before after) (codes "write failed\n"))
      ⊎ ((options.reorder ≢ 0) × WroteOrFailed (written_on f before after) (codes "out of memory\n")))))

  -- a command that reads no input left it alone, and the output failed within some text
  abbrev pub BrokenAside : Type 0
  BrokenAside = (words : AskedReply) (from to : S) (old new : K) (before after : F)
      → IsRun (Reply words) Broken (effects s from to (outputs k f old new before after))
      → TookNothing (taken_from s from to)
      × ((text : List ℕ) × FailedInside old new text
      × WroteOrFailed (written_on f before after) (codes "write failed\n"))
