-- The pasts of a tracker, and its answers to lines by what it holds.
use Rattle.std.proofs.Common.{◌≡◌, ◌∙◌, ◌⊎◌, ◌∷◌, [], None, Some, Ok, Err, ap, inl, inr, refl, subst, sym, List, ℕ}
use Rattle.sq_message.specs.declared.received.Received.{Received}
use Rattle.sq_text.specs.Timed.{TimedReader}
use Rattle.sq_log.specs.Answers.{answers_to}
use Rattle.sq_log.specs.Content.{Answer, answer_by}
use Rattle.sq_log.specs.Logs.{AreAnswers, told_from}
use Rattle.sq_log.specs.declared.log.Answer.{Answer as Told}
use Rattle.sq_log.specs.declared.log.Tally.{Tally}
use Rattle.sq_track.specs.Held.{Held, settings}
use Rattle.sq_track.proofs.Histories.ByEntries.{one_by_entries}
use Rattle.sq_commands.specs.Heard.{HeardSquitter}
use Rattle.sq_commands.specs.Holding.{AreHeardLinesBy, Holding, IsHeardLineBy, OneListOfAnswers, SomeHolding, found_of}
use Rattle.sq_commands.specs.Tracking.{ByEntries, ByHistory, IsTracking, IsTrackingBy, Past, PastExactly, SomeTracking}
use Rattle.sq_commands.specs.Tracking.{Tracking, track_manner, track_way}
use Rattle.sq_commands.specs.TrueAnswers.{some_reader, start}
use Rattle.sq_commands.proofs.TrackLemmas.{held_replier, lines_entered}

-- ---- pasts

pub some_holding : SomeHolding
some_holding t = (record { reader = some_reader; replier = held_replier; held = t }, refl)

pub some_tracking : SomeTracking
some_tracking t h stands = (start some_reader (settings t) h stands.accepted, refl, (stands, refl))

-- a past of a tracker, by its two cases
abbrev IsEither : Held → Past → Type 0
IsEither t past = ((history : Tracking) × (past ≡ ByHistory history) × IsTracking t history)
    ⊎ ((holding : Holding) × (past ≡ ByEntries holding) × (t ≡ holding.held))

either : (t : Held) (past : Past) → IsTrackingBy t past → IsEither t past
either t (ByHistory history) is = inl (history, refl, is)
either t (ByEntries holding) is = inr (holding, refl, is)

of_either : (t : Held) (past : Past) → IsEither t past → IsTrackingBy t past
of_either t past (inl (history, same, is)) = subst (IsTrackingBy t) (sym same) is
of_either t past (inr (holding, same, is)) = subst (IsTrackingBy t) (sym same) is

pub past_exactly : PastExactly
past_exactly t past = (either t past, of_either t past)

-- ---- answers

one_line : (old new other : Held) (read : Answer Received) (x y : Answer HeardSquitter)
    → IsHeardLineBy old read x new → IsHeardLineBy old read y other → (x ≡ y) × (new ≡ other)
one_line old new other None x y h k = (h.0 ∙ sym k.0, h.1 ∙ sym k.1)
one_line old new other (Some (Err fault)) x y h k = (h.0 ∙ sym k.0, h.1 ∙ sym k.1)
one_line old new other (Some (Ok timed)) x y (r, r_is, r_had, x_is) (s, s_is, s_had, y_is) =
    let one = one_by_entries timed.moment timed.squitter old new other r s r_had s_had r_is s_is in
    (x_is ∙ ap (λ reply. Some (found_of timed reply)) one.0 ∙ sym y_is, one.1)

pub one_list_of_answers : OneListOfAnswers
one_list_of_answers reader old new other [] xs ys h k = (h.0 ∙ sym k.0, h.1 ∙ sym k.1)
one_list_of_answers reader old new other (line ∷ lines) xs ys (x, u, rest, x_is, later, xs_is)
    (y, v, others, y_is, also, ys_is) =
    let one = one_line old u v (answer_by reader.read line) x y x_is y_is in
    let more = one_list_of_answers reader u new other lines rest others later
    (subst (λ (t : Held). AreHeardLinesBy reader t lines others other) (sym one.1) also) in
    (xs_is ∙ (λ i. one.0 i ∷ more.0 i) ∙ sym ys_is, more.1)

pub answers_entered : (start now : Held) (tally : Tally) (lines : List (List ℕ)) (answers : List (Told HeardSquitter))
    (reader : TimedReader) → AreAnswers track_manner start now tally lines answers
    → (list : List (Answer HeardSquitter)) × AreHeardLinesBy reader start lines list now
    × (answers ≡ told_from 1 list)
answers_entered start now tally lines answers reader told =
    let past : Holding = record { reader = reader; replier = held_replier; held = start } in
    let one = told (ByEntries past) refl in
    (answers_to track_way (ByEntries past) lines, lines_entered past lines now one.0, one.1)
