-- What the words of a command line ask for.
use Rattle.std.specs.Prelude.{◌≡◌, ◌≢◌, List, [], Some, true}
use Rattle.clap.specs.Words.{App, Text, Row, fault_of, is_simple_and_free, subcommand_of}
use Rattle.sq_commands.specs.Requests.{Asked, command_name}
use Rattle.sq_words.specs.CommandLine.{HasValues, squitter}

-- the command with this name and these values is the one that was asked for
pub record IsAsked (name : Text) (rows : List Row) (asked : Asked) : Type 0 where
  pub named : name ≡ command_name asked
  pub values : HasValues rows asked

-- clap reads the words as this command with these values: it finds no error, and enters the command with the values
pub record Asks (words : List Text) (asked : Asked) : Type 0 where
  pub accepted : fault_of squitter words ≡ []
  pub rows : List Row
  pub entered : subcommand_of squitter words ≡ Some (command_name asked, rows)
  pub values : HasValues rows asked

-- A command line reads words as the whole program does: clap finds the same errors in them, and enters the same command
-- with the same values.
pub record ReadsAlike (app : App) (words : List Text) : Type 0 where
  pub simple : is_simple_and_free app ≡ true
  pub faults : fault_of app words ≡ fault_of squitter words
  pub enters : subcommand_of app words ≡ subcommand_of squitter words

-- clap finds an error in the words, or they ask for its help
abbrev pub IsFaulty : List Text → Type 0
IsFaulty words = fault_of squitter words ≢ []

-- words ask for at most one thing
abbrev pub OneRequest : Type 0
OneRequest = (words : List Text) (a b : Asked) → Asks words a → Asks words b → a ≡ b

-- words in which clap finds an error ask for nothing
abbrev pub RefusedWordsAskNothing : Type 0
RefusedWordsAskNothing = (words : List Text) → IsFaulty words → (asked : Asked) → ¬ Asks words asked

-- words in which clap finds no error ask for a command with its values
abbrev pub AcceptedWordsAsk : Type 0
AcceptedWordsAsk = (words : List Text) → fault_of squitter words ≡ [] → (asked : Asked) × Asks words asked
