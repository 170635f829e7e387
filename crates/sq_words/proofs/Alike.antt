-- The program with one command reads that command's words as the whole program does.
use Rattle.std.proofs.Common.{◌≡◌, ◌∙◌, true, List, [], ◌∷◌, Bor, Option, Some, Result, Ok, Err, length, map, get_or, nat_lt, ap, ap₂, refl, sym, subst, is_some}
use Rattle.std.specs.Prelude.{codes, fold, slice_get, unwrap_or}
use Rattle.std.specs.Result.{IfOk}
use Rattle.clap.specs.Kinds.{Kinds, or_else}
use Rattle.clap.specs.declared.builder.command.Command.{Command}
use Rattle.clap.specs.Simple.{App, app_of, argument_words, built, entered, names_of}
use Rattle.clap.specs.Walk.{Text, Row, Walk, finished, nothing_held, settled, stop_after, walk, walk_from, walked}
use Rattle.clap.specs.Faults.{built_fault, check_fault, defaults_fault, entered_fault, is_simple_and_free}
use Rattle.clap.specs.Faults.{settle_fault, turn_fault, walk_fault}
use Rattle.clap.proofs.OnLiterals.{clap_on_literals}
use Rattle.clap.proofs.FaultLemmas.{stopped_fault}
use Rattle.clap.proofs.WalkLemmas.{walk_stopped}
use Rattle.sq_words.specs.CommandLine.{check, encode, feed, local, only, pair, show, squitter, track}
use Rattle.sq_words.specs.Requests.{ReadsAlike}

-- the walk of a program that enters the command with this name, over the words after the name
abbrev stopped_at : Text → List Text → Walk
stopped_at name rest = record (walk_from nothing_held) { stopped = Some (name, rest) }

-- the errors of a program, after its walk and the errors in it
abbrev ended : App → Walk → Kinds → Kinds
ended a w faults = or_else faults (or_else (entered_fault a w.stopped)
    (or_else (settle_fault a.top.rules a.top.args_override_self w.held)
    (or_else (defaults_fault (settled a.top.rules w.held).rows a.top.rules)
    (check_fault a.top (finished a.top.rules w.held) (is_some (entered a w.stopped))))))

-- the first word names a command of the program
record Enters (a : App) (name : Text) : Type 0 where
  walks : walked a.top.rules (names_of a) (walk_from nothing_held) name ≡ stopped_at name []
  quiet : turn_fault a.top (names_of a) (walk_from nothing_held) name ≡ []

stops : (a : App) (name : Text) (rest : List Text) → Enters a name
    → walk a.top.rules (names_of a) nothing_held (name ∷ rest) ≡ stopped_at name rest
stops a name rest enters =
    ap (λ (w : Walk). fold (walked a.top.rules (names_of a)) w rest) enters.walks
    ∙ sym (walk_stopped a.top.rules (names_of a) (walk_from nothing_held) name [] rest)

no_fault : (a : App) (name : Text) (rest : List Text) → Enters a name
    → walk_fault a.top (names_of a) (walk_from nothing_held) (name ∷ rest) ≡ []
unfolding walk_fault
no_fault a name rest enters = ap₂ or_else enters.quiet
    (ap (λ (w : Walk). walk_fault a.top (names_of a) w rest) enters.walks
    ∙ stopped_fault a.top (names_of a) (walk_from nothing_held) (name, []) rest)

faults_there : (a : App) (name : Text) (rest : List Text) → Enters a name
    → built_fault a nothing_held (name ∷ rest) ≡ ended a (stopped_at name rest) []
faults_there a name rest enters = ap₂ (ended a) (stops a name rest enters) (no_fault a name rest enters)

enters_there : (a : App) (name : Text) (rest : List Text) → Enters a name
    → entered a (stop_after a.top.rules (names_of a) (name ∷ rest)) ≡ entered a (Some (name, rest))
enters_there a name rest enters = ap (λ (w : Walk). entered a w.stopped) (stops a name rest enters)

-- one command of the program, and the program with it alone
record Alike (a : App) (name : Text) : Type 0 where
  simple : is_simple_and_free a ≡ true
  whole : Enters (built squitter) name
  alone : Enters (built a) name
  faults : (rest : List Text)
      → ended (built a) (stopped_at name rest) [] ≡ ended (built squitter) (stopped_at name rest) []
  enters : (rest : List Text) → entered (built a) (Some (name, rest)) ≡ entered (built squitter) (Some (name, rest))

reads : (a : App) (name : Text) (words : List Text) → Alike a name
    → argument_words a words ≡ argument_words squitter words → slice_get words 1 ≡ Some name → ReadsAlike a words
reads a name [] alike same is = let bad : ⊥ = cc in absurd bad
reads a name (program ∷ []) alike same is = let bad : ⊥ = cc in absurd bad
reads a name (program ∷ other ∷ rest) alike same is =
    let here : other ≡ name = ap (λ (o : Option Text). unwrap_or o other) is in
    record {
      simple = alike.simple;
      faults = ap (built_fault (built a) nothing_held) same
          ∙ ap (λ (n : Text). built_fault (built a) nothing_held (n ∷ rest)) here
          ∙ faults_there (built a) name rest alike.alone ∙ alike.faults rest
          ∙ sym (faults_there (built squitter) name rest alike.whole)
          ∙ ap (λ (n : Text). built_fault (built squitter) nothing_held (n ∷ rest)) (sym here);
      enters = ap (entered_by (built a)) same
          ∙ ap (λ (n : Text). entered_by (built a) (n ∷ rest)) here
          ∙ enters_there (built a) name rest alike.alone ∙ alike.enters rest
          ∙ sym (enters_there (built squitter) name rest alike.whole)
          ∙ ap (λ (n : Text). entered_by (built squitter) (n ∷ rest)) (sym here);
    }
  where
    entered_by : App → List Text → Option (Text × List Row)
    entered_by b words = entered b (stop_after b.top.rules (names_of b) words)

-- ---- the commands

show_alike : Alike (only show) (codes "show")
unfolding clap_on_literals
show_alike = record {
  simple = refl;
  whole = record { walks = refl; quiet = refl };
  alone = record { walks = refl; quiet = refl };
  faults = λ rest. refl;
  enters = λ rest. refl;
}

pub show_reads : (words : List Text) → slice_get words 1 ≡ Some (codes "show") → ReadsAlike (only show) words
show_reads words = reads (only show) (codes "show") words show_alike refl

encode_alike : Alike (only encode) (codes "encode")
unfolding clap_on_literals
encode_alike = record {
  simple = refl;
  whole = record { walks = refl; quiet = refl };
  alone = record { walks = refl; quiet = refl };
  faults = λ rest. refl;
  enters = λ rest. refl;
}

pub encode_reads : (words : List Text) → slice_get words 1 ≡ Some (codes "encode") → ReadsAlike (only encode) words
encode_reads words = reads (only encode) (codes "encode") words encode_alike refl

local_alike : Alike (only local) (codes "local")
unfolding clap_on_literals
local_alike = record {
  simple = refl;
  whole = record { walks = refl; quiet = refl };
  alone = record { walks = refl; quiet = refl };
  faults = λ rest. refl;
  enters = λ rest. refl;
}

pub local_reads : (words : List Text) → slice_get words 1 ≡ Some (codes "local") → ReadsAlike (only local) words
local_reads words = reads (only local) (codes "local") words local_alike refl

pair_alike : Alike (only pair) (codes "pair")
unfolding clap_on_literals
pair_alike = record {
  simple = refl;
  whole = record { walks = refl; quiet = refl };
  alone = record { walks = refl; quiet = refl };
  faults = λ rest. refl;
  enters = λ rest. refl;
}

pub pair_reads : (words : List Text) → slice_get words 1 ≡ Some (codes "pair") → ReadsAlike (only pair) words
pair_reads words = reads (only pair) (codes "pair") words pair_alike refl

check_alike : Alike (only check) (codes "check")
unfolding clap_on_literals
check_alike = record {
  simple = refl;
  whole = record { walks = refl; quiet = refl };
  alone = record { walks = refl; quiet = refl };
  faults = λ rest. refl;
  enters = λ rest. refl;
}

pub check_reads : (words : List Text) → slice_get words 1 ≡ Some (codes "check") → ReadsAlike (only check) words
check_reads words = reads (only check) (codes "check") words check_alike refl

track_alike : Alike (only track) (codes "track")
unfolding clap_on_literals
track_alike = record {
  simple = refl;
  whole = record { walks = refl; quiet = refl };
  alone = record { walks = refl; quiet = refl };
  faults = λ rest. refl;
  enters = λ rest. refl;
}

pub track_reads : (words : List Text) → slice_get words 1 ≡ Some (codes "track") → ReadsAlike (only track) words
track_reads words = reads (only track) (codes "track") words track_alike refl

feed_alike : Alike (only feed) (codes "feed")
unfolding clap_on_literals
feed_alike = record {
  simple = refl;
  whole = record { walks = refl; quiet = refl };
  alone = record { walks = refl; quiet = refl };
  faults = λ rest. refl;
  enters = λ rest. refl;
}

pub feed_reads : (words : List Text) → slice_get words 1 ≡ Some (codes "feed") → ReadsAlike (only feed) words
feed_reads words = reads (only feed) (codes "feed") words feed_alike refl

-- the whole program reads as itself
pub whole_reads : (words : List Text) → ReadsAlike squitter words
unfolding clap_on_literals
whole_reads words = record { simple = refl; faults = refl; enters = refl }

-- ---- the command line of words

-- the second word
second_is : (words : List (Bor Text)) (word : Bor Text) (name : Text) → true ≡ nat_lt 1 (length words)
    → word ≡ get_or words 1 word → word.now ≡ name → slice_get (map (λ (w : Bor Text). w.now) words) 1 ≡ Some name
second_is [] word name some at is = let bad : ⊥ = cc in absurd bad
second_is (a ∷ []) word name some at is = let bad : ⊥ = cc in absurd bad
second_is (a ∷ b ∷ more) word name some at is = ap Some (ap (λ (w : Bor Text). w.now) (sym at) ∙ is)

pub if_reads : {Fault : Type 0} (result : Result Command Fault) (app : App) (words : List Text) → ReadsAlike app words
    → IfOk result (λ c. app_of c ≡ app) → IfOk result (λ c. ReadsAlike (app_of c) words)
if_reads (Ok c) app words alike is = subst (λ (a : App). ReadsAlike a words) (sym is) alike
if_reads (Err fault) app words alike is = tt

-- a program with one command, where the second word is the command's name
pub one_reads : {Fault : Type 0} (words : List (Bor Text)) (word : Bor Text) (name : Text) (command app : App)
    (result : Result Command Fault)
    → ((texts : List Text) → slice_get texts 1 ≡ Some name → ReadsAlike (only app) texts)
    → true ≡ nat_lt 1 (length words) → word ≡ get_or words 1 word → word.now ≡ name → command ≡ app
    → IfOk result (λ c. app_of c ≡ only command)
    → IfOk result (λ c. ReadsAlike (app_of c) (map (λ (w : Bor Text). w.now) words))
one_reads words word name command app result reads some at is same made =
    if_reads result (only command) _ (subst (λ (a : App). ReadsAlike (only a) (map (λ (w : Bor Text). w.now) words))
    (sym same) (reads _ (second_is words word name some at is))) made
