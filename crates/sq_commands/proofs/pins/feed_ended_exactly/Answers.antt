use Rattle.std.proofs.Common.{◌≡◌, ◌++◌, ℕ, Bool, true, false, List, Option, None, Some, Ok, Err, refl}
use Rattle.std.specs.Prelude.{MatchOption, codes, if◌then◌else◌}
use Rattle.sq_devices.specs.Changes.{WroteOrFailed, written_on}
use Rattle.sq_devices.specs.Clocks.{times_of}
use Rattle.sq_feed.specs.Counts.{Tally}
use Rattle.sq_commands.specs.declared.feed.FeedEnd.{FeedEnd}
use Rattle.sq_feed.specs.declared.message.Stranger.{Stranger}
use Rattle.sq_commands.specs.Feed.{feed_reply, status_at_end, text_at_end}
use Rattle.sq_commands.specs.Replies.{broken_off}
use Rattle.sq_commands.specs.Summary.{are_all_damaged, stranger_text, summary_text}
use Rattle.sq_commands.specs.declared.status.Status.TheVariants.{Good, Refused, Misused}
use Rattle.sq_commands.proofs.BrokenRuns.{broken_feeds}
use Rattle.sq_commands.proofs.SoundReplies.{reported_as}
use Rattle.sq_commands.proofs.pins.feed_ended_exactly.Goals as goal

good_by : (end : FeedEnd) (Said : List ℕ → Type 0) (stranger : Option Stranger)
    → Good ≡ status_at_end end.counts stranger → Said (text_at_end end stranger)
    → ◌≡◌ {A = Option Stranger} stranger None × (are_all_damaged end.counts ≡ false) × Said (summary_text end)
good_by end Said None is said = (refl, by (are_all_damaged end.counts) is, said)
  where
    by : (b : Bool) → Good ≡ (if b then Refused else Good) → b ≡ false
    by true is = absurd (cc is)
    by false is = refl
good_by end Said (Some stranger) is said = absurd (cc is)

refused_by : (end : FeedEnd) (Said : List ℕ → Type 0) (stranger : Option Stranger)
    → Refused ≡ status_at_end end.counts stranger → Said (text_at_end end stranger)
    → MatchOption stranger ((are_all_damaged end.counts ≡ true) × Said (summary_text end))
    (λ one. Said (stranger_text one))
refused_by end Said None is said = (by (are_all_damaged end.counts) is, said)
  where
    by : (b : Bool) → Refused ≡ (if b then Refused else Good) → b ≡ true
    by true is = refl
    by false is = absurd (cc is)
refused_by end Said (Some stranger) is said = said

misused_by : (counts : Tally) (stranger : Option Stranger) → Misused ≡ status_at_end counts stranger → ⊥
misused_by counts None is = by (are_all_damaged counts) is
  where
    by : (b : Bool) → Misused ≡ (if b then Refused else Good) → ⊥
    by true is = cc is
    by false is = cc is
misused_by counts (Some stranger) is = cc is

pub returns-clause-good : goal.returns-clause-good
returns-clause-good g c options first last from to old new before after (reply, (Ok end, fed, is), said) =
    let ended = reported_as reply (feed_reply (Ok end)) Good (written_on g.F.Sink before after) is said in
    let by = good_by end (λ text. WroteOrFailed (written_on g.F.Sink before after) (text ++ codes "\n")) end.stranger
    ended.0 ended.1 in
    (end, fed, by.0, by.1, by.2)
returns-clause-good g c options first last from to old new before after (reply, (Err fault, fed, is), said) =
    absurd (cc (reported_as reply (broken_off fault) Good (written_on g.F.Sink before after) is said).0)

pub returns-clause-refused : goal.returns-clause-refused
returns-clause-refused g c options first last from to old new before after (reply, (Ok end, fed, is), said) =
    let ended = reported_as reply (feed_reply (Ok end)) Refused (written_on g.F.Sink before after) is said in (
      end,
      fed,
      refused_by end (λ text. WroteOrFailed (written_on g.F.Sink before after) (text ++ codes "\n")) end.stranger
          ended.0 ended.1,
    )
returns-clause-refused g c options first last from to old new before after (reply, (Err fault, fed, is), said) =
    absurd (cc (reported_as reply (broken_off fault) Refused (written_on g.F.Sink before after) is said).0)

pub returns-clause-used : goal.returns-clause-used
returns-clause-used g c options first last from to old new before after (reply, (Ok end, fed, is), said) =
    misused_by end.counts end.stranger
    (reported_as reply (feed_reply (Ok end)) Misused (written_on g.F.Sink before after) is said).0
returns-clause-used g c options first last from to old new before after (reply, (Err fault, fed, is), said) =
    cc (reported_as reply (broken_off fault) Misused (written_on g.F.Sink before after) is said).0

pub returns-clause-broken : goal.returns-clause-broken
returns-clause-broken g c first last = broken_feeds g.S.Source g.K.Sink g.F.Sink (times_of g.C.Clock first last)
