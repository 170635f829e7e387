-- The replies of commands, and how one is delivered.
use Rattle.std.specs.Prelude.{◌≡◌, ◌⊎◌, ◌++◌, ℕ, List, Option, None, Some, Result, MatchOption, MatchResult, codes}
use Rattle.std.specs.Option.{option_map}
use Rattle.sq_devices.specs.Changes.{FailedWithin, Written, WroteLast, WroteNothing, WroteOrFailed}
use Rattle.sq_digits.specs.Buffer.{TextBuffer}
use Rattle.sq_log.specs.Faults.{run_fault_text}
use Rattle.sq_log.specs.declared.run.RunFault.{RunFault}
use Rattle.sq_log.specs.declared.run.RunFault.TheVariants as faults
use Rattle.sq_commands.specs.declared.replies.Reply.{Reply}
use Rattle.sq_commands.specs.declared.replies.ReportLine.{ReportLine}
use Rattle.sq_commands.specs.declared.replies.ReportLine.TheVariants.{Line, Summary}
use Rattle.sq_commands.specs.Summary.{summary_text}
use Rattle.sq_commands.specs.declared.status.Status.{Status}
use Rattle.sq_commands.specs.declared.status.Status.TheVariants.{Good, Broken}
use Rattle.sq_commands.specs.Outputs.{Outputs, Reported}

-- what a reply says: how the command ends, the text for the output, and the line for the sink for faults, if any
pub record ReplyParts : Type 0 where
  pub status : Status
  pub output : Option (List ℕ)
  pub error : Option (List ℕ)

-- the bytes of a text, if there is one
abbrev pub bytes_in : Option TextBuffer → Option (List ℕ)
bytes_in text = option_map (λ (t : TextBuffer). t.bytes) text

-- the text of a report
abbrev pub report_bytes : ReportLine → List ℕ
report_bytes (Line text) = text.bytes
report_bytes (Summary end) = summary_text end ++ codes "\n"

-- the text of a report, if there is one
abbrev pub report_in : Option ReportLine → Option (List ℕ)
report_in report = option_map report_bytes report

abbrev pub reply_parts : Reply → ReplyParts
reply_parts reply =
    record { status = reply.status; output = bytes_in reply.output; error = report_in reply.error }

-- success, with this output
abbrev pub answered : List ℕ → ReplyParts
answered text = record { status = Good; output = Some text; error = None }

-- success, with an output that has this property
abbrev pub IsAnswer : (List ℕ → Type 0) → ReplyParts → Type 0
IsAnswer Is reply = (text : List ℕ) × Is text × (reply ≡ answered text)

-- no output, and this line for the sink for faults
abbrev pub reporting : Status → List ℕ → ReplyParts
reporting ending line = record { status = ending; output = None; error = Some (line ++ codes "\n") }

-- neither output nor report
abbrev pub silent : Status → ReplyParts
silent ending = record { status = ending; output = None; error = None }

-- the reply of a run that stopped early reports the reason
abbrev pub broken_off : RunFault → ReplyParts
broken_off fault = reporting Broken (run_fault_text fault)

-- something is read: the reply is one to its value, or the one to its fault
abbrev pub IsReplyTo : {Value Fault : Type 0} → (Result Value Fault → Type 0) → (Value → ReplyParts → Type 0)
    → (Fault → ReplyParts) → ReplyParts → Type 0
IsReplyTo {Value} {Fault} Reads OfValue of_fault reply = (reading : Result Value Fault) × Reads reading
    × MatchResult reading (λ value. OfValue value reply) (λ fault. reply ≡ of_fault fault)

-- ---- the delivery

-- the text was written and the sink finished; or there is no text, and the sink was left alone
abbrev pub Got : Option (List ℕ) → Written → Type 0
Got text w = MatchOption text (WroteNothing w) (WroteLast w)

-- the same, or the sink failed within the text
abbrev pub GotOrFailed : Option (List ℕ) → Written → Type 0
GotOrFailed text w = MatchOption text (WroteNothing w) (WroteOrFailed w)

-- the status is that of the reply, and its line was reported, if there is one
abbrev pub IsReported : ReplyParts → Status → Written → Type 0
IsReported reply status w = (status ≡ reply.status) × GotOrFailed reply.error w

-- there is a text, and the sink failed within it
abbrev pub FailedOn : Option (List ℕ) → Written → Type 0
FailedOn text w = MatchOption text ⊥ (FailedWithin w)

-- Each sink got its text, though the sink for faults may have failed within it, and the status is the reply's. Or the
-- output failed within its text, which was reported in place of the error.
unfoldable pub IsDelivered : ReplyParts → Status → Outputs → Type 0
IsDelivered reply status o =
    ((status ≡ reply.status) × Got reply.output o.output × GotOrFailed reply.error o.reports)
    ⊎ ((status ≡ Broken) × FailedOn reply.output o.output × Reported o (run_fault_text faults.Write))
