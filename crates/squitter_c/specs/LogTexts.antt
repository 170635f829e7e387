-- Calls of a log that write texts.
use Rattle.std.specs.Prelude.{◌≡◌, ◌⊎◌, ℕ, List, [], Option}
use Rattle.sq_commands.specs.declared.formats.Format.{Format}
use Rattle.sq_commands.specs.Formats.{format_number}
use Rattle.sq_commands.specs.Heard.{heard_telling}
use Rattle.squitter_c.specs.declared.faults.Fault.{Fault}
use Rattle.squitter_c.specs.declared.faults.Reason.TheVariants as reasons
use Rattle.squitter_c.specs.Faults.{fault_of}
use Rattle.squitter_c.specs.Seal.{Kept}
use Rattle.squitter_c.specs.declared.log_loop.Done.{Done}
use Rattle.squitter_c.specs.Angles.{StandsIn}
use Rattle.squitter_c.specs.LogCalls.{AsTexts, IsFinishedBy, IsOfLog, IsTakenBy}

-- the format with this number
abbrev pub IsFormat : ℕ → Format → Type 0
IsFormat number format = number ≡ format_number format

-- no format has this number
abbrev pub IsNoFormat : ℕ → Type 0
IsNoFormat number = (format : Format) → ¬ IsFormat number format

-- the effect of a call on a listener, in a format; if no format has the number, nothing changes
abbrev pub IsInFormat : (number : ℕ) → (old new : Kept) → (was is : List ℕ) → (before after : Done) → Fault
    → (Format → Type 0) → Type 0
IsInFormat number old new was is before after fault Of =
    (IsNoFormat number × (new ≡ old) × (is ≡ was) × (after ≡ before) × (fault ≡ fault_of reasons.NoFormat))
    ⊎ ((format : Format) × IsFormat number format × Of format)

-- the effect of taking a piece on a listener
abbrev pub IsTextTakenBy : (number : ℕ) → (old new : Kept) → (piece : List ℕ) → (was is : List ℕ)
    → (before after : Done) → Fault → Type 0
IsTextTakenBy number old new piece was is before after fault = IsInFormat number old new was is before after fault
    (λ format. IsTakenBy (AsTexts (heard_telling format)) 512 old new piece was is before after fault)

-- the effect of finishing on a listener
abbrev pub IsTextFinishedBy : (number : ℕ) → (old new : Kept) → (was is : List ℕ) → (before after : Done) → Fault
    → Type 0
IsTextFinishedBy number old new was is before after fault = IsInFormat number old new was is before after fault
    (λ format. IsFinishedBy (AsTexts (heard_telling format)) 512 old new was is before after fault)

-- the effect of taking a piece on a log
abbrev pub IsTextTaken : (number : ℕ) → (old new : Option Kept) → (piece : List ℕ) → (was is : List ℕ)
    → (before after : Done) → Fault → Type 0
IsTextTaken number old new piece was is before after fault = IsOfLog old new was is before after fault
    (λ k next. IsTextTakenBy number k next piece was is before after fault)

-- the effect of finishing on a log
abbrev pub IsTextFinished : (number : ℕ) → (old new : Option Kept) → (was is : List ℕ) → (before after : Done)
    → Fault → Type 0
IsTextFinished number old new was is before after fault = IsOfLog old new was is before after fault
    (λ k next. IsTextFinishedBy number k next was is before after fault)

-- the header of the format with this number; empty if there is no such format
abbrev pub IsHeaderText : ℕ → List ℕ → Type 0
IsHeaderText number text =
    (IsNoFormat number × (text ≡ []))
    ⊎ ((format : Format) × IsFormat number format × (text ≡ (heard_telling format).header))

-- this text, and zeros after it
abbrev pub IsHeader : ℕ → List ℕ → Type 0
IsHeader number out = (text : List ℕ) × IsHeaderText number text × StandsIn text out
