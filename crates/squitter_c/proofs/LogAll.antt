-- The results that a call of a log has written if it left room.
use Rattle.std.proofs.Common.{◌≡◌, ◌++◌, ◌∙◌, ℕ, List, [], ap, arith, inl, inr, length}
use Rattle.std.proofs.Common.{refl, subst, take}
use Rattle.std.proofs.Math.Seq.{take-length}
use Rattle.sq_commands.specs.declared.formats.Format.{Format}
use Rattle.sq_commands.specs.declared.answers.HeardSquitter.{HeardSquitter}
use Rattle.sq_commands.specs.Heard.{heard_telling}
use Rattle.sq_commands.specs.SlowAnswers.{AreTrueAnswers}
use Rattle.sq_commands.specs.Tracking.{track_manner}
use Rattle.sq_commands.proofs.FormatLemmas.{one_number}
use Rattle.sq_log.specs.declared.log.Answer.{Answer as Told}
use Rattle.sq_log.specs.declared.log.Log.{Log}
use Rattle.sq_log.specs.Lines.{closed, ended_lines}
use Rattle.sq_log.specs.Logs.{HasHeard}
use Rattle.sq_log.specs.Runs.{told_text}
use Rattle.squitter_c.specs.declared.faults.Fault.{Fault}
use Rattle.sq_track.specs.Held.{Held}
use Rattle.squitter_c.specs.declared.log_loop.End.TheVariants as ends
use Rattle.squitter_c.specs.LogCalls.{AsAnswers, AsTexts, GoesOn, GoesToTheEnd, HasGone, Written, log_in}
use Rattle.squitter_c.specs.LogLaws.{AllAnswered, AllAnsweredAtEnd, AllTold, AllToldAtEnd}

-- all lines with a line feed were heard; their results come after the earlier ones, and are what was written
abbrev AllHeard : {X : Type 0} → Written X → (start : Held) → Log Held → (given : List ℕ)
    → (answers : List (Told HeardSquitter)) → (written : List X) → Type 0
AllHeard As start log given answers written = (told : List (Told HeardSquitter))
    × HasHeard track_manner start log given (ended_lines given) (answers ++ told)
    × AreTrueAnswers start (answers ++ told) × As told written

all_heard : {X : Type 0} (As : Written X) (start : Held) (log : Log Held) (given : List ℕ) (lines : List (List ℕ))
    (answers : List (Told HeardSquitter)) (written : List X)
    → HasGone As start ends.Fed log given lines answers [] written → AllHeard As start log given answers written
all_heard As start log given lines answers written h = (
  h.now_told,
  subst (λ (ls : List (List ℕ)). HasHeard track_manner start log given ls (answers ++ h.now_told)) h.ended.1 h.heard,
  h.are_true,
  h.written_are,
)

-- a piece that was taken whole
all_taken : {X : Type 0} (As : Written X) (start : Held) (old new : Log Held) (given piece : List ℕ) (taken : ℕ)
    (lines : List (List ℕ)) (answers : List (Told HeardSquitter)) (written : List X)
    → GoesOn As ends.Fed old new (take taken piece) [] written → taken ≡ length piece → As [] []
    → HasHeard track_manner start old given lines answers → AllHeard As start new (given ++ piece) answers written
all_taken As start old new given piece taken lines answers written goes all nothing heard =
    let same = ap (λ (n : ℕ). given ++ take n piece) all ∙ ap (λ (p : List ℕ). given ++ p) (take-length piece) in
    subst (λ (g : List ℕ). AllHeard As start new g answers written) same
    (all_heard As start new (given ++ take taken piece) lines answers written
    (goes start given lines answers [] heard nothing))

-- the end of a log
all_ended : {X : Type 0} (As : Written X) (start : Held) (old new : Log Held) (given : List ℕ)
    (lines : List (List ℕ)) (answers : List (Told HeardSquitter)) (written : List X)
    → GoesToTheEnd As ends.Fed old new [] written → As [] []
    → HasHeard track_manner start old given lines answers → AllHeard As start new (closed given) answers written
all_ended As start old new given lines answers written goes nothing heard =
    let (all, _, is, gone) = goes start given lines answers [] heard nothing in
    subst (λ (g : List ℕ). AllHeard As start new g answers written) (is refl)
    (all_heard As start new all lines answers written gone)

pub all_answered : AllAnswered
all_answered k new piece was is before after start given lines answers
    (next, same, inl (fits, (ends.Fed, goes, wrote, counted, fault))) room heard =
    let (told, h, true, written) = all_taken AsAnswers start (log_in k) (log_in next) given piece after.taken lines
    answers (take after.written is) goes counted tt heard in
    (counted, (next, told, same, h, true, written))
all_answered k new piece was is before after start given lines answers
    (next, same, inl (fits, (ends.Full, goes, wrote, counted, fault))) room heard =
    absurd (omega (arith, counted, room))
all_answered k new piece was is before after start given lines answers
    (next, same, inl (fits, (ends.NoMemory, goes, wrote, counted, fault))) room heard =
    absurd (omega (arith, ap (λ (f : Fault). f.code) fault))
all_answered k new piece was is before after start given lines answers
    (next, same, inr (long, kept, out, counts, fault)) room heard =
    absurd (omega (arith, ap (λ (f : Fault). f.code) fault))

pub all_answered_at_end : AllAnsweredAtEnd
all_answered_at_end k new was is before after start given lines answers
    (next, same, inl (fits, (ends.Fed, goes, wrote, counted, fault))) room heard =
    let (told, h, true, written) = all_ended AsAnswers start (log_in k) (log_in next) given lines answers
    (take after.written is) goes tt heard in
    (next, told, same, h, true, written)
all_answered_at_end k new was is before after start given lines answers
    (next, same, inl (fits, (ends.Full, goes, wrote, counted, fault))) room heard =
    absurd (omega (arith, counted, room))
all_answered_at_end k new was is before after start given lines answers
    (next, same, inl (fits, (ends.NoMemory, goes, wrote, counted, fault))) room heard =
    absurd (omega (arith, ap (λ (f : Fault). f.code) fault))
all_answered_at_end k new was is before after start given lines answers
    (next, same, inr (long, kept, out, counts, fault)) room heard =
    absurd (omega (arith, ap (λ (f : Fault). f.code) fault))

pub all_told : AllTold
all_told format number k new piece was is before after start given lines answers writers of
    (next, same, inl (above, kept, out, counts, fault)) room heard =
    absurd (omega (arith, ap (λ (f : Fault). f.code) fault))
all_told format number k new piece was is before after start given lines answers writers of
    (next, same, inr (f, also, inl (fits, (ends.Fed, goes, wrote, counted, fault)))) room heard =
    let (told, h, true, written) = all_taken (AsTexts (heard_telling f)) start (log_in k) (log_in next) given piece
    after.taken lines answers (take after.written is) goes counted (λ w. refl) heard in (
      counted,
      (
        next,
        told,
        same,
        h,
        true,
        subst (λ (g : Format). take after.written is ≡ told_text ((heard_telling g).text writers) told)
            (one_number number f format also of) (written writers),
      ),
    )
all_told format number k new piece was is before after start given lines answers writers of
    (next, same, inr (f, also, inl (fits, (ends.Full, goes, wrote, counted, fault)))) room heard =
    absurd (omega (arith, counted, room))
all_told format number k new piece was is before after start given lines answers writers of
    (next, same, inr (f, also, inl (fits, (ends.NoMemory, goes, wrote, counted, fault)))) room heard =
    absurd (omega (arith, ap (λ (f : Fault). f.code) fault))
all_told format number k new piece was is before after start given lines answers writers of
    (next, same, inr (f, also, inr (long, kept, out, counts, fault))) room heard =
    absurd (omega (arith, ap (λ (f : Fault). f.code) fault))

pub all_told_at_end : AllToldAtEnd
all_told_at_end format number k new was is before after start given lines answers writers of
    (next, same, inl (above, kept, out, counts, fault)) room heard =
    absurd (omega (arith, ap (λ (f : Fault). f.code) fault))
all_told_at_end format number k new was is before after start given lines answers writers of
    (next, same, inr (f, also, inl (fits, (ends.Fed, goes, wrote, counted, fault)))) room heard =
    let (told, h, true, written) = all_ended (AsTexts (heard_telling f)) start (log_in k) (log_in next) given lines
    answers (take after.written is) goes (λ w. refl) heard in (
      next,
      told,
      same,
      h,
      true,
      subst (λ (g : Format). take after.written is ≡ told_text ((heard_telling g).text writers) told)
          (one_number number f format also of) (written writers),
    )
all_told_at_end format number k new was is before after start given lines answers writers of
    (next, same, inr (f, also, inl (fits, (ends.Full, goes, wrote, counted, fault)))) room heard =
    absurd (omega (arith, counted, room))
all_told_at_end format number k new was is before after start given lines answers writers of
    (next, same, inr (f, also, inl (fits, (ends.NoMemory, goes, wrote, counted, fault)))) room heard =
    absurd (omega (arith, ap (λ (f : Fault). f.code) fault))
all_told_at_end format number k new was is before after start given lines answers writers of
    (next, same, inr (f, also, inr (long, kept, out, counts, fault))) room heard =
    absurd (omega (arith, ap (λ (f : Fault). f.code) fault))
