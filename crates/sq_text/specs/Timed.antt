-- A squitter with its timestamp, as in a line of a log.
use Rattle.std.specs.Prelude.{◌≡◌, ◌≤◌, ◌<◌, ◌^◌, ◌++◌, ◌∷◌, ◌⊎◌, ℕ, List, Result, MatchResult, length}
use Rattle.std.specs.Char.{IsAsciiDigit}
use Rattle.std.specs.List.{AllByRecursion}
use Rattle.std.specs.Str.Parse.{digits_value}
use Rattle.sq_digits.specs.Characters.{space}
use Rattle.sq_text.specs.declared.faults.LineFault.{LineFault}
use Rattle.sq_text.specs.declared.faults.LineFault.TheVariants.{Moment}
use Rattle.sq_message.specs.declared.received.Received.{Received}
use Rattle.sq_text.specs.Reading.{IsSquitterText, IsSquitterFault}

-- 1 to 20 decimal digits of a number below 2^64
pub record IsDecimalText (digits : List ℕ) (number : ℕ) : Type 0 where
  pub some : 1 ≤ length digits
  pub twenty : length digits ≤ 20
  pub each : AllByRecursion IsAsciiDigit digits
  pub value : number ≡ digits_value 10 digits
  pub small : number < 2 ^ 64

-- the text is a timestamp, one space, and the rest
pub record IsMomentLine (text rest : List ℕ) (moment : ℕ) : Type 0 where
  pub digits : List ℕ
  pub of_moment : IsDecimalText digits moment
  pub whole : text ≡ digits ++ space ∷ rest

-- the text is a timestamp, one space, and the text of a frame that encodes the squitter
abbrev pub IsTimedText : List ℕ → Received → Type 0
IsTimedText text timed = (rest : List ℕ) × IsMomentLine text rest timed.moment × IsSquitterText rest timed.squitter

-- there is no space, or no timestamp before the first one
abbrev pub HasNoMoment : List ℕ → Type 0
HasNoMoment text = (rest : List ℕ) (moment : ℕ) → ¬ IsMomentLine text rest moment

-- why a text is not that of a squitter with its timestamp: there is no timestamp, or the rest has an error
abbrev pub IsTimedFault : List ℕ → LineFault → Type 0
IsTimedFault text fault = ((fault ≡ Moment) × HasNoMoment text)
    ⊎ ((rest : List ℕ) × (moment : ℕ) × IsMomentLine text rest moment × IsSquitterFault rest fault)

-- the result of reading a text
abbrev pub IsTimedReading : List ℕ → Result Received LineFault → Type 0
IsTimedReading text answer = MatchResult answer (IsTimedText text) (IsTimedFault text)

-- a function that reads every text: there is one, and any two agree on every text
pub record TimedReader : Type 0 where
  pub read : List ℕ → Result Received LineFault
  pub reads : (text : List ℕ) → IsTimedReading text (read text)
