-- Of one input two runs of `check` write the same.
use Rattle.std.proofs.Common.{◌≡◌, ◌≢◌, ◌∙◌, ℕ, [], List, Option, Some, IfSome, Ok, Err, ap, sym, subst, inl, inr}
use Rattle.sq_devices.specs.Changes.{Taken, TookAll, TookNothing}
use Rattle.sq_devices.proofs.Ends.{took_reported}
use Rattle.sq_text.specs.Reading.{SquitterReader}
use Rattle.sq_text.proofs.SomeReading.{some_squitter_reading}
use Rattle.sq_log.specs.Lines.{lines_of}
use Rattle.sq_log.specs.declared.log.Tally.{Tally}
use Rattle.sq_log.specs.declared.run.RunFault.{RunFault}
use Rattle.sq_commands.specs.declared.arguments.ArgumentFault.{ArgumentFault}
use Rattle.sq_commands.specs.declared.arguments.ArgumentFault.TheVariants as faults
use Rattle.sq_commands.specs.declared.formats.Format.{Format}
use Rattle.sq_commands.specs.declared.status.Status.{Status}
use Rattle.sq_commands.specs.declared.status.Status.TheVariants.{Broken}
use Rattle.sq_commands.specs.Check.{Checks, HasChecked, IsCheckRun, IsCheckRunIn, check_answers, run_reply}
use Rattle.sq_commands.specs.Faults.{IsMisuse}
use Rattle.sq_commands.specs.Formats.{told_by}
use Rattle.sq_commands.specs.OneRun.{WroteAlike}
use Rattle.sq_commands.specs.Outputs.{Effects}
use Rattle.sq_commands.specs.Replies.{ReplyParts, broken_off}
use Rattle.sq_commands.specs.Squitters.{squitter_telling}
use Rattle.sq_commands.proofs.FormatLemmas.{one_format}
use Rattle.sq_commands.proofs.SomeWriters.{some_writers}
use Rattle.sq_commands.proofs.OneRuns.Alike.{HaveOne}

-- two runs have one status, wrote the same, and left the same of their inputs
abbrev pub RunAlike : (a b : Status) → (d e : Effects) → Type 0
RunAlike a b d e = HaveOne a b d.outputs e.outputs × (d.input.after ≡ e.input.after)

-- two runs have one reply, wrote the same, and left the same of their inputs
abbrev pub OneReply : (x y : ReplyParts) → (d e : Effects) → Type 0
OneReply x y d e = (x ≡ y) × WroteAlike d.outputs.output e.outputs.output × (d.input.after ≡ e.input.after)

-- a reply that is not `Broken` is not that of a run that stopped early
pub not_broken_off : (reply : ReplyParts) (fault : RunFault) → reply.status ≢ Broken → reply ≡ broken_off fault → ⊥
not_broken_off reply fault unbroken is = unbroken (ap (λ (r : ReplyParts). r.status) is)

-- an input that was read to its end is empty, and this holds of its bytes
pub took_bytes : (t : Taken) (bytes : List ℕ) (Of : List ℕ → Type 0) → t.before ≡ Some bytes → TookAll t Of
    → (t.after ≡ Some []) × Of bytes
took_bytes t bytes Of is took =
    subst (λ (o : Option (List ℕ)). IfSome o (λ all. (t.after ≡ Some []) × Of all)) is (took_reported t Of took)

-- an input that was read to its end is empty, and all of its lines were answered
pub took_lines : (t : Taken) (bytes : List ℕ) (lines : List (List ℕ)) (Answered : List (List ℕ) → Type 0)
    → t.before ≡ Some bytes → TookAll t (λ read. lines ≡ lines_of read) → Answered lines
    → (t.after ≡ Some []) × Answered (lines_of bytes)
took_lines t bytes lines Answered is took told =
    let took_all = took_bytes t bytes (λ read. lines ≡ lines_of read) is took in
    (took_all.0, subst Answered took_all.1 told)

-- inputs that nothing was taken from are left alike
pub left_alike : (t u : Taken) (bytes : List ℕ) → t.before ≡ Some bytes → u.before ≡ Some bytes → TookNothing t
    → TookNothing u → t.after ≡ u.after
left_alike t u bytes t_is u_is x y = x.0 ∙ t_is ∙ sym u_is ∙ sym y.0

-- two runs with the same invalid argument have one reply
pub one_misuse : (fault : ArgumentFault) (x y : ReplyParts) (d e : Effects) (bytes : List ℕ)
    → d.input.before ≡ Some bytes → e.input.before ≡ Some bytes → IsMisuse fault x d.input d.outputs.output
    → IsMisuse fault y e.input e.outputs.output → OneReply x y d e
one_misuse fault x y d e bytes d_is e_is (took, none, is) (took', none', is') =
    (is ∙ sym is', inl (none, none'), left_alike d.input e.input bytes d_is e_is took took')

-- there is a way to read lines
some_reader : SquitterReader
some_reader = record { read = λ text. (some_squitter_reading text).0; reads = λ text. (some_squitter_reading text).1 }

-- there is a way to read lines and to tell what was found
some_checks : Checks
some_checks = record { reader = some_reader; writers = some_writers }

module _ (d e : Effects) (bytes : List ℕ) (d_is : d.input.before ≡ Some bytes) (e_is : e.input.before ≡ Some bytes)
    (x y : ReplyParts) (m : x.status ≢ Broken) (n : y.status ≢ Broken) where
  -- two runs of `check` in one format have one reply
  one_check_run_in : (format : Format) → IsCheckRunIn format x d.input d.outputs.output
      → IsCheckRunIn format y e.input e.outputs.output → OneReply x y d e
  one_check_run_in format (Err fault, checked, ended) other = absurd (not_broken_off x fault m ended)
  one_check_run_in format (Ok tally, checked, ended) (Err fault, checked', ended') =
      absurd (not_broken_off y fault n ended')
  one_check_run_in format (Ok tally, (once, (lines, took, told)), ended)
      (Ok tally', (once', (lines', took', told')), ended') =
      let how = squitter_telling format in
      let here = took_lines d.input bytes lines (HasChecked how (Ok tally) d.outputs.output) d_is took told in
      let there = took_lines e.input bytes lines' (HasChecked how (Ok tally') e.outputs.output) e_is took' told' in
      let counted : tally ≡ tally' = (here.1 some_checks).1 ∙ sym (there.1 some_checks).1 in (
        ended ∙ ap (λ (t : Tally). run_reply (Ok t)) counted ∙ sym ended',
        inr (
          told_by how some_checks.writers (check_answers some_checks.reader (lines_of bytes)),
          ((here.1 some_checks).0, once),
          ((there.1 some_checks).0, once'),
        ),
        here.0 ∙ sym there.0,
      )

  -- two runs of `check` have one reply
  pub one_check_run : (word : Option (List ℕ)) → IsCheckRun word x d.input d.outputs.output
      → IsCheckRun word y e.input e.outputs.output → OneReply x y d e
  one_check_run word (inl (f, f_is, run)) (inl (g, g_is, run')) =
      one_check_run_in f run
      (subst (λ h. IsCheckRunIn h y e.input e.outputs.output) (sym (one_format word f g f_is g_is)) run')
  one_check_run word (inl (f, f_is, run)) (inr (none, misuse)) = absurd (none f f_is)
  one_check_run word (inr (none, misuse)) (inl (g, g_is, run)) = absurd (none g g_is)
  one_check_run word (inr (none, misuse)) (inr (none', misuse')) =
      one_misuse faults.Format x y d e bytes d_is e_is misuse misuse'
