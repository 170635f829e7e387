-- A command line has one run.
use Rattle.std.proofs.Common.{◌≡◌, ◌∙◌, List, false, inl, inr, subst, sym}
use Rattle.sq_devices.specs.Clocks.{Times}
use Rattle.sq_devices.specs.declared.device.Sink.{Ghosts as SinkGhosts}
use Rattle.sq_devices.specs.declared.device.Source.{Ghosts as SourceGhosts}
use Rattle.sq_commands.specs.Requests.{Asked, Text}
use Rattle.sq_words.specs.Requests.{OneRequest}
use Rattle.sq_commands.specs.OneRun.{OneRun, between}
use Rattle.sq_commands.specs.Outputs.{Effects}
use Rattle.sq_commands.specs.Runs.{IsRun}
use Rattle.sq_commands.specs.declared.status.Status.{Status}
use Rattle.sq_commands.proofs.Recorded.{run_recorded}
use Rattle.sq_tool.specs.OneProgram.{BrokenProgram, OneProgramRun}
use Rattle.sq_tool.specs.Program.{IsProgramRun, IsTimedProgramRun}

-- if words ask for at most one thing and a request has one run, a command line has one run
pub one_program_run : {S K F T L G : Type 0} (s : SourceGhosts S) (k : SinkGhosts K) (f : SinkGhosts F)
    (t : SourceGhosts T) (l : SinkGhosts L) (g : SinkGhosts G) → OneRequest → OneRun s k f t l g
    → OneProgramRun s k f t l g
one_program_run s k f t l g one_request one_run words a b old new other last bytes here there (inl (x, x_is, p))
    (inl (y, y_is, q)) unbroken unbroken' reported reported' =
    let one = one_run x a b old new other last bytes here there p
    (subst (λ (z : Asked). IsRun z b (between t l g other last)) (sym (one_request words x y x_is y_is)) q) unbroken
    unbroken' reported reported' in
    (one.0, one.1, inr one.2, one.3)
one_program_run s k f t l g one_request one_run words a b old new other last bytes here there (inl (x, x_is, p))
    (inr (inl q)) unbroken unbroken' reported reported' = absurd (q.0 x_is.accepted)
one_program_run s k f t l g one_request one_run words a b old new other last bytes here there (inr (inl p))
    (inl (y, y_is, q)) unbroken unbroken' reported reported' = absurd (p.0 y_is.accepted)
one_program_run s k f t l g one_request one_run words a b old new other last bytes here there (inr (inl p))
    (inr (inl q)) unbroken unbroken' reported reported' =
    (p.1 ∙ sym q.1, inl (p.3, q.3), inl p.0, p.2.0 ∙ here ∙ sym there ∙ sym q.2.0)
one_program_run s k f t l g one_request one_run words a b old new other last bytes here there (inr (inr p)) y
    unbroken unbroken' reported reported' = absurd (unbroken p.0)
one_program_run s k f t l g one_request one_run words a b old new other last bytes here there (inl p) (inr (inr q))
    unbroken unbroken' reported reported' = absurd (unbroken' q.0)
one_program_run s k f t l g one_request one_run words a b old new other last bytes here there (inr (inl p))
    (inr (inr q)) unbroken unbroken' reported reported' = absurd (unbroken' q.0)

-- a run on an input that is not live is a run on a recorded input
pub program_recorded : (clock : Times) → clock.is_live ≡ false → (words : List Text) (status : Status) (e : Effects)
    → IsTimedProgramRun clock words status e → IsProgramRun words status e
program_recorded clock is words status e (inl (asked, asks, run)) =
    inl (asked, asks, run_recorded clock is asked status e run)
program_recorded clock is words status e (inr refused) = inr refused

-- a request broke off, or there was no memory
pub broken_program : {S K F : Type 0} (s : SourceGhosts S) (k : SinkGhosts K) (f : SinkGhosts F) → BrokenProgram s k f
broken_program s k f words from to old new before after (inl run) = inl run
broken_program s k f words from to old new before after (inr (inl refused)) = absurd (cc refused.1)
broken_program s k f words from to old new before after (inr (inr unread)) = inr (unread.1, unread.2, unread.3)
