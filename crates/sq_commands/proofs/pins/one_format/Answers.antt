use Rattle.std.proofs.Common.{◌≢◌, ℕ, List, Option, None, Some, ap, inl, inr, refl}
use Rattle.std.specs.Prelude.{codes}
use Rattle.sq_feed.specs.declared.machine.Format.TheVariants.{Beast, Avr, Csv as CsvSource, Log}
use Rattle.sq_text.specs.declared.rows.Form.TheVariants.{Csv, Json}
use Rattle.sq_commands.specs.declared.formats.Format.{Format}
use Rattle.sq_commands.specs.declared.formats.Format.TheVariants.{Lines, Rows}
use Rattle.sq_commands.specs.Formats.{IsFormatWord}
use Rattle.sq_commands.proofs.FormatLemmas.{one_format, one_number}
use Rattle.sq_commands.proofs.OneRuns.Feeds.{no_source, one_source}
use Rattle.sq_commands.proofs.pins.one_format.Goals as goal

-- a word that is none of the three names names no format
no_format : (word : List ℕ) → ◌≢◌ {A = Option (List ℕ)} (Some word) (Some (codes "lines"))
    → ◌≢◌ {A = Option (List ℕ)} (Some word) (Some (codes "csv"))
    → ◌≢◌ {A = Option (List ℕ)} (Some word) (Some (codes "json"))
    → (format : Format) → ¬ IsFormatWord (Some word) format
no_format word lines csv json Lines is = lines (ap Some is)
no_format word lines csv json (Rows Csv) is = csv (ap Some is)
no_format word lines csv json (Rows Json) is = json (ap Some is)

pub returns-clause-one : goal.returns-clause-one
returns-clause-one c = one_format

pub returns-clause-none : goal.returns-clause-none
returns-clause-none c None = (λ none. absurd (none Lines refl), λ names. absurd (names.0 refl))
returns-clause-none c (Some word) = (
  λ none. (
    λ is. absurd (cc is),
    λ is. none Lines (cc is),
    λ is. none (Rows Csv) (cc is),
    λ is. none (Rows Json) (cc is),
  ),
  λ names. no_format word names.1 names.2 names.3,
)

pub returns-clause-number : goal.returns-clause-number
returns-clause-number c = one_number

pub returns-clause-one_source : goal.returns-clause-one_source
returns-clause-one_source c = one_source

pub returns-clause-no_source : goal.returns-clause-no_source
returns-clause-no_source c None = (λ none. absurd (none None refl), λ names. absurd (names.0 refl))
returns-clause-no_source c (Some word) = (
  λ none. (
    λ is. absurd (cc is),
    λ is. none None (inl (cc is, refl)),
    λ is. none (Some Beast) (inr (inl (cc is, refl))),
    λ is. none (Some Avr) (inr (inr (inl (cc is, refl)))),
    λ is. none (Some CsvSource) (inr (inr (inr (inl (cc is, refl))))),
    λ is. none (Some Log) (inr (inr (inr (inr (cc is, refl))))),
  ),
  λ names. no_source word names.1 names.2 names.3 names.4 names.5,
)
