-- From clap's contracts about the words to what the words ask for.
use Rattle.std.proofs.Common.{◌≡◌, ◌≢◌, ◌∙◌, ◌&&◌, Bool, true, false, List, [], Option, None, Some, ap, sym, subst}
use Rattle.std.proofs.Common.{refl, ap₂, inl, inr, is_some}
use Rattle.std.specs.Prelude.{option_map, unwrap_or}
use Rattle.clap.specs.Words.{Text, Row, App, HasMatchesOf, HasKind, Kinds, is_simple_and_free, subcommand_of}
use Rattle.clap.specs.Words.{fault_of, has_subcommand, first_of, first_value, kind_of, rows_of, subcommand_rows_of, subcommand_name_of}
use Rattle.clap.specs.declared.error.Error.{Error}
use Rattle.clap.specs.declared.error.kind.ErrorKind.TheVariants as kind
use Rattle.clap.specs.declared.parser.ArgMatches.{ArgMatches}
use Rattle.clap.specs.declared.parser.ArgMatches.TheViews.{out-ArgMatches}
use Rattle.clap.specs.declared.parser.matches.Found.{Found}
use Rattle.clap.proofs.WalkLemmas.{first_value-rows}
use Rattle.sq_words.specs.CommandLine.{squitter}
use Rattle.sq_commands.specs.Requests.{Asked, command_name}
use Rattle.sq_words.specs.CommandLine.{HasValues}
use Rattle.sq_words.specs.Requests.{Asks, IsAsked, ReadsAlike}

-- ---- clap's results

-- if clap finds no error, only memory can fail
pub fails_by_memory : (kinds : Kinds) (e : Error) → kinds ≡ [] → HasKind kinds e → kind_of e ≡ kind.OutOfMemory
fails_by_memory kinds e none has = elim (subst (λ (k : Kinds). HasKind k e) none has) [
  | inl memory ↦ memory
  | inr never ↦ absurd never
]

-- clap's contract about words that it accepted
pub record Accepted (words : List Text) (name : Text) (rows : List Row) : Type 0 where
  pub accepted : fault_of squitter words ≡ []
  pub entered : subcommand_of squitter words ≡ Some (name, rows)

-- a request of the command that clap entered is what the words ask for
pub asks_of : (words : List Text) (name : Text) (rows : List Row) (asked : Asked) → Accepted words name rows
    → IsAsked name rows asked → Asks words asked
asks_of words name rows asked clap is = record {
  accepted = clap.accepted;
  rows = rows;
  entered = clap.entered ∙ ap (λ (n : Text). Some (n, rows)) is.named;
  values = is.values;
}

-- if the command that clap entered has no request, the words ask for nothing
pub asks_none : (words : List Text) (name : Text) (rows : List Row) → Accepted words name rows
    → ((asked : Asked) → ¬ IsAsked name rows asked)
    → (asked : Asked) → ¬ Asks words asked
asks_none words name rows clap none asked asks =
    let one : (name, rows) ≡ (command_name asked, asks.rows) =
    ap (λ (o : Option (Text × List Row)). unwrap_or o (name, rows)) (sym clap.entered ∙ asks.entered) in
    none asked (record {
      named = ap (λ (p : Text × List Row). p.0) one;
      values = subst (λ (r : List Row). HasValues r asked) (sym (ap (λ (p : Text × List Row). p.1) one)) asks.values;
    })

both : (a b : Bool) → (a && b) ≡ true → a ≡ true
both true b is = refl
both false b is = let bad : ⊥ = cc in absurd bad

pair_of : {B : Type 0} (f : B → Text × List Row) (o : Option B) (name : Text) (rows : List Row)
    → Some name ≡ option_map (λ b. (f b).0) o → Some rows ≡ option_map (λ p. p.1) (option_map f o)
    → option_map f o ≡ Some (name, rows)
pair_of f None name rows named has = cc
pair_of f (Some b) name rows named has =
    let at_name : name ≡ (f b).0 = cc in
    let at_rows : rows ≡ (f b).1 = cc in
    let pair : Text → List Row → Text × List Row = λ n r. (n, r) in
    ap Some (sym (ap₂ pair at_name at_rows))

-- clap's matches, as a statement about the words
pub accepted_by : (app : App) (words : List Text) (m : ArgMatches) (name : Text) (rows : List Row)
    → ReadsAlike app words
    → (is_simple_and_free app ≡ true → fault_of app words ≡ []) → HasMatchesOf app words m
    → Some name ≡ subcommand_name_of m → Some rows ≡ option_map (λ p. p.1) (subcommand_rows_of m)
    → Accepted words name rows
accepted_by app words m name rows alike kinds matches named has = record {
  accepted = sym alike.faults ∙ kinds alike.simple;
  entered = sym alike.enters ∙ sym (matches (both _ _ alike.simple)).1
      ∙ pair_of _ (out-ArgMatches m).subcommand name rows named has;
}

-- clap enters a command for words that ask for one
pub no_command : (app : App) (words : List Text) (m : ArgMatches) (asked : Asked) → ReadsAlike app words
    → HasMatchesOf app words m → Asks words asked → false ≡ has_subcommand m → ⊥
no_command app words m asked alike matches asks none =
    by _ (out-ArgMatches m).subcommand (command_name asked, asks.rows) none
    ((matches (both _ _ alike.simple)).1 ∙ alike.enters ∙ asks.entered)
  where
    by : {B : Type 0} (f : B → Text × List Row) (o : Option B) (one : Text × List Row) → false ≡ is_some o
        → option_map f o ≡ Some one → ⊥
    by f None one none some = let bad : ⊥ = cc in bad
    by f (Some b) one none some = let bad : ⊥ = cc in bad

-- an error other than out of memory occurs only if clap finds an error in the words
pub refused_by : (app : App) (words : List Text) (e : Error) → ReadsAlike app words
    → (is_simple_and_free app ≡ true → HasKind (fault_of app words) e) → kind_of e ≢ kind.OutOfMemory
    → fault_of squitter words ≢ []
refused_by app words e alike fails other_kind none =
    other_kind (fails_by_memory _ e (alike.faults ∙ none) (fails alike.simple))

-- ---- one value

-- `get_str` returns the value in clap's table
pub value_is : (f : Found) (id : Text) (o : Option Text) → o ≡ first_value f id → first_of id (rows_of f) ≡ o
value_is f id o is = sym (first_value-rows f id) ∙ sym is
