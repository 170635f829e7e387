-- A run over an input: a loop that moves bytes from a source to a log machine, and the texts of its answers to a sink.
use Rattle.std.specs.Prelude.{◌≡◌, ◌++◌, ◌+◌, ◌-◌, ◌<◌, ◌≤◌, ◌⊎◌, ℕ, Bool, List, Result, Ok, Err, false, length, take}
use Rattle.std.specs.Prelude.{true}
use Rattle.std.specs.List.{All, concat, flat_map}
use Rattle.std.specs.Io.KnownBytes.{Consumes, IsAtEnd}
use Rattle.sq_devices.specs.Calls.{HasPut}
use Rattle.sq_devices.specs.Changes.{FinishedOnce, GotAtMost, GotUpToEnd, Sent, Taken, TookAll, TookPart, TookSome}
use Rattle.sq_devices.specs.Changes.{Unfinished, Written, Wrote}
use Rattle.sq_devices.specs.Device.{AppendsOrHides, IsPrefixOf}
use Rattle.sq_devices.specs.declared.device.Sink.{Ghosts as SinkGhosts}
use Rattle.sq_text.specs.declared.faults.LineFault.{LineFault}
use Rattle.sq_log.specs.Content.{Answer}
use Rattle.sq_log.specs.Lines.{closed, ended_lines, lines_of, with_next}
use Rattle.sq_log.specs.Answers.{answers_to, Manner, WantsAt, past_after, tally_of, texts_of}
use Rattle.sq_log.specs.Logs.{HasHeard}
use Rattle.sq_log.specs.declared.run.RunFault.{RunFault}
use Rattle.sq_log.specs.declared.run.RunFault.TheVariants.{Read, Write, Memory}
use Rattle.sq_log.specs.declared.log.Answer.{Answer as Told}
use Rattle.sq_log.specs.declared.log.Log.{Log}
use Rattle.sq_log.specs.declared.log.Tally.{Tally}

-- ---- the four ends of a run

-- this holds of the lines that a line feed ends, or, at the end of the input, of these and the last part
abbrev pub OfLines : Taken → (List (List ℕ) → Type 0) → List ℕ → Type 0
OfLines input Of read = Of (ended_lines read) ⊎ (IsAtEnd input.after × Of (lines_of read))

-- the lines that a run answered
abbrev pub AreAnswered : (Wants : List ℕ → Type 0) → Result Tally RunFault → Taken → List (List ℕ) → Type 0
-- the run came to the end of the input: all lines
AreAnswered Wants (Ok tally) input lines = TookAll input (λ read. lines ≡ lines_of read)
-- the source failed: all lines that were read whole
AreAnswered Wants (Err Read) input lines = TookPart input (λ read. lines ≡ ended_lines read)
-- the sink failed: the first of the lines that were read
AreAnswered Wants (Err Write) input lines = TookSome input (OfLines input (IsPrefixOf lines))
-- memory ran out: the lines before one that may need some
AreAnswered Wants (Err Memory) input lines = TookSome input (OfLines input (λ complete.
    (next : List ℕ) × IsPrefixOf (with_next lines next) complete × Wants next))

-- the sink was finished once at the end of the input, and else never; it failed at a write fault
abbrev pub IsClosedBy : Result Tally RunFault → Written → Type 0
IsClosedBy (Ok tally) output = FinishedOnce output
IsClosedBy (Err Read) output = Unfinished output
IsClosedBy (Err Write) output = (output.failed ≡ true) × Unfinished output
IsClosedBy (Err Memory) output = Unfinished output

-- a prefix of the text was written, which ends within the last answer's text, or within the header if there is no
-- answer; or the sink no longer reports its bytes
abbrev pub WroteIntoLast : {Found : Type 0} → Written → (List (Answer Found) → List ℕ) → List (Answer Found) → Type 0
WroteIntoLast output text answers =
    (part : List ℕ) × (1 ≤ length answers → IsPrefixOf (text (take (length answers - 1) answers)) part)
    × IsPrefixOf part (text answers) × AppendsOrHides output.before output.after part

-- what a run wrote of the text of these answers: all of it, or at a write fault a part; at the end they were counted
abbrev pub WroteAnswers : {Found : Type 0} → Result Tally RunFault → Written → (List (Answer Found) → List ℕ)
    → List (Answer Found) → Type 0
WroteAnswers (Ok tally) output text answers = Sent output (text answers) × (tally ≡ tally_of answers)
WroteAnswers (Err Read) output text answers = Wrote output (text answers)
WroteAnswers (Err Write) output text answers = WroteIntoLast output text answers
WroteAnswers (Err Memory) output text answers = Wrote output (text answers)

-- The result of a run and its effects: it answered some lines, and this holds of them.
abbrev pub HasRun : (Wants : List ℕ → Type 0) → (Answered : List (List ℕ) → Type 0) → Result Tally RunFault → Taken
    → Written → Type 0
HasRun Wants Answered result input output =
    IsClosedBy result output × ((lines : List (List ℕ)) × AreAnswered Wants result input lines × Answered lines)

-- ---- a run of a log machine

-- the text of a verdict on the line with a number, by how numbers are written
abbrev pub Texts : (Writing Found : Type 0) → Type 0
Texts Writing Found = Writing → ℕ → Result Found LineFault → List ℕ

-- the header and the texts of these answers
abbrev pub told_in : {Writing Found : Type 0} → (header : List ℕ) → Texts Writing Found → Writing
    → List (Answer Found) → List ℕ
told_in header text writing answers = header ++ texts_of (text writing) answers

-- for each past that the start represents, the state now represents the past after these lines, and this holds of their
-- answers
abbrev pub HasTold : {State Past Found Writing : Type 0} → Manner State Past Found → (start now : State)
    → (Writing → List (Answer Found) → Type 0) → List (List ℕ) → Type 0
HasTold {Past = Past} {Writing = Writing} how start now Of lines = (past : Past) (writing : Writing)
    → how.stands_for start past
    → how.stands_for now (past_after how.way past lines) × Of writing (answers_to how.way past lines)

-- lines were told, and so much of their answers was written as the result says
abbrev pub HasToldBy : {State Past Found Writing : Type 0} → (header : List ℕ) → Texts Writing Found
    → Manner State Past Found → (start now : State) → Result Tally RunFault → Written → List (List ℕ) → Type 0
HasToldBy header text how start now result output =
    HasTold how start now (λ writing. WroteAnswers result output (told_in header text writing))

-- the result of a run of a machine
abbrev pub IsRun : {State Past Found Writing : Type 0} → (header : List ℕ) → Texts Writing Found
    → Manner State Past Found → (start now : State) → Result Tally RunFault → Taken → Written → Type 0
IsRun header text how start now result input output =
    HasRun (WantsAt how now) (HasToldBy header text how start now result output) result input output

-- ---- on the way

-- the texts of these answers
abbrev pub told_text : {Found : Type 0} → (ℕ → Result Found LineFault → List ℕ) → List (Told Found) → List ℕ
told_text text answers = flat_map (λ answer. text answer.number answer.verdict) answers

-- the machine was given these bytes, and the texts of its answers were put
pub record IsPumped {State Past Found Writing : Type 0} (how : Manner State Past Found) (text : Texts Writing Found)
    (start : State) {K : Type 0} (k : SinkGhosts K) (first sink : K) (log : Log State) (given : List ℕ)
    : Type 0 where
  pub lines : List (List ℕ)
  pub answers : List (Told Found)
  pub heard : HasHeard how start log given lines answers
  pub put : (writing : Writing) → HasPut k first sink (told_text (text writing) answers)

-- the bytes that the machine was given: those that were read, and at the end of the input a line feed
abbrev pub fed : Bool → List ℕ → List ℕ
fed true read = closed read
fed false read = read

-- the source gave these bytes, in at most as many gets as bytes and some more
pub record HasGot (input : Taken) (more : ℕ) (read : List ℕ) : Type 0 where
  pub consumed : Consumes input.before input.after read
  pub few : GotAtMost input (length read + more)
  pub back : input.gets ≤ input.gets_before

-- the bytes that were read are the pieces of the gets so far; no piece is empty
pub record IsMadeOf (input : Taken) (read : List ℕ) : Type 0 where
  pub pieces : List (List ℕ)
  pub whole : read ≡ concat pieces
  pub gave : input.gave pieces
  pub some : All (λ piece. 0 < length piece) pieces
  pub each : input.gets_before ≡ input.gets + length pieces

-- these pieces are all of the input, and what was read
abbrev pub HasGotAll : Taken → List ℕ → Type 0
HasGotAll input read = (pieces : List (List ℕ)) × GotUpToEnd input pieces × (read ≡ concat pieces)
