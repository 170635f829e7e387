-- Words in which clap finds no error ask for a command with its values.
use Rattle.std.proofs.Common.{◌≡◌, ◌∙◌, ◌&&◌, ◌||◌, ℕ, Bool, true, false, true≢false, List, [], ◌∷◌, Option, None, Some}
use Rattle.std.proofs.Common.{ap, arith, sym, subst, inl, inr, refl, rules, is_some, not}
use Rattle.std.specs.Prelude.{⊤, if◌then◌else◌, unwrap_or, find, fold, option_map, codes}
use Rattle.std.specs.List.{list_any}
use Rattle.std.specs.Option.{option_map_or}
use Rattle.std.specs.Str.{bytes_eq}
use Rattle.std.proofs.lemmas.Slice.Eq.{bytes_eq-Decides}
use Rattle.clap.specs.Lexer.{long_of, short_of}
use Rattle.clap.specs.Kinds.{check_kinds, or_else}
use Rattle.clap.specs.declared.error.kind.ErrorKind.TheVariants as kind
use Rattle.clap.specs.Facts.{explicit_source}
use Rattle.clap.specs.Takes.{is_given}
use Rattle.clap.specs.Simple.{App, Shape, built, entered, label_of, names_of, argument_words}
use Rattle.clap.specs.Walk.{Text, Rule, Row, Held, Outcome, Waiting, Step, Walk, Names, after_flag, plain_word}
use Rattle.clap.specs.Walk.{subcommand_or_other, long_or_other, short_or_plain, bundle, long_met, word_met}
use Rattle.clap.specs.Walk.{subcommand_met, after_step, to_positional, walked_from, walked, walk, walk_from}
use Rattle.clap.specs.Walk.{nothing_held, finished, settled, answers_to, rows_after, stop_after, first_of, arg_by_long}
use Rattle.clap.specs.Walk.{arg_by_index}
use Rattle.clap.specs.Walk.{done, waits, plain, refused, idle, option, positional, next, trailing, subcommand, value}
use Rattle.clap.specs.Faults.{defaults_fault, settle_fault, fault_of, built_fault, entered_fault, level_fault}
use Rattle.clap.specs.Faults.{other_fault, word_fault, step_fault, walk_fault}
use Rattle.sq_words.specs.CommandLine.{squitter}
use Rattle.sq_commands.specs.Requests.{Asked, command_name}
use Rattle.sq_words.specs.CommandLine.{HasValues, is_given as is_set}
use Rattle.sq_words.specs.Requests.{Asks}
use Rattle.sq_commands.specs.Requests.{Reply, Show, Encode, Local, Pair, Check, Track, Feed}
use Rattle.sq_words.proofs.Full.{AllFull, Each, IsSingle, Full-walk, Full-settled, Full-defaults, find-each, given_value}
use Rattle.sq_words.proofs.Full.{or_else-nil}

-- an element that is found passes the test
find-passes : {X : Type 0} (p : X → Bool) (xs : List X) (x : X) → find p xs ≡ Some x → p x ≡ true
find-passes p [] x is = let bad : ⊥ = cc in absurd bad
find-passes p (y ∷ ys) x is = pick (p y) refl is (find-passes p ys x)
  where
    pick : (b : Bool) → p y ≡ b → (if b then Some y else find p ys) ≡ Some x → (find p ys ≡ Some x → p x ≡ true)
        → p x ≡ true
    pick true hit is rest = subst (λ z. p z ≡ true) (ap (λ o. unwrap_or o y) is) hit
    pick false hit is rest = rest is

-- ---- one command: what it requires has a value

-- the argument has a value
abbrev pub HasOne : List Row → Rule → Type 0
HasOne rows a = a.required ≡ true → (v : Text) × (first_of a.id rows ≡ Some v)

check_kinds-nil : (help sub arg : Bool) → check_kinds help sub arg ≡ [] → (sub ≡ false) × (arg ≡ false)
check_kinds-nil true sub arg is = let bad : ⊥ = cc in absurd bad
check_kinds-nil false true arg is = let bad : ⊥ = cc in absurd bad
check_kinds-nil false false true is = let bad : ⊥ = cc in absurd bad
check_kinds-nil false false false is = (refl, refl)

past_negation : (n l : Bool) → (not (n && false) && l) ≡ false → l ≡ false
past_negation true l is = is
past_negation false l is = is

required_given : (rules : List Rule) (rows : List Row) → AllFull rows
    → list_any (λ a. a.required && not (is_given a.id rows)) rules ≡ false
    → Each (HasOne rows) rules
required_given [] rows full none = tt
required_given (a ∷ more) rows full none =
    (here a.required (is_given a.id rows) refl none, required_given more rows full (there _ _ none))
  where
    here : (r g : Bool) → is_given a.id rows ≡ g
        → ((r && not g) || list_any (λ a. a.required && not (is_given a.id rows)) more) ≡ false → r ≡ true
        → (v : Text) × (first_of a.id rows ≡ Some v)
    here true true is none r = given_value a.id rows full is
    here true false is none r = let bad : ⊥ = true≢false none in absurd bad
    here false g is none r = absurd (true≢false (sym r))

    there : (x y : Bool) → (x || y) ≡ false → y ≡ false
    there true y is = absurd (true≢false is)
    there false y is = is

leaf_given : (s : Shape) → Each IsSingle s.rules → (words : List Text)
    → level_fault s [] nothing_held words false [] ≡ []
    → Each (HasOne (rows_after s.rules [] words)) s.rules
leaf_given s single words none =
    let walks = or_else-nil _ _ none in
    let settles = or_else-nil _ _ walks.1 in
    let defaults = or_else-nil _ _ settles.1 in
    let full : AllFull (rows_after s.rules [] words) =
    Full-defaults s.rules _ (Full-settled s.rules s.args_override_self single
    (walk s.rules [] nothing_held words).held settles.0
    (Full-walk s single [] (walk_from nothing_held) words walks.0 tt)) in
    required_given s.rules _ full (past_negation s.subcommand_negates_reqs _ (check_kinds-nil _ _ _ defaults.1).1)

-- ---- the words before the command: they do not ask for help

-- help was not asked for by its command
abbrev pub NoHelp : Option (Text × List Text) → Type 0
NoHelp None = ⊤
NoHelp (Some p) = bytes_eq p.0 (codes "help") ≡ false

abbrev pub NoHelpStep : Step → Type 0
NoHelpStep (subcommand name) = bytes_eq name (codes "help") ≡ false
NoHelpStep _ = ⊤

NoHelp-plain_word : (c : List Rule) (waiting : Waiting) (word : Text) (h : Held)
    → NoHelpStep (plain_word c waiting word h).1
NoHelp-plain_word c idle word h = tt
NoHelp-plain_word c (option id) word h = tt
NoHelp-plain_word c positional word h = tt

NoHelp-after_flag : (c : List Rule) (waiting : Waiting) (word : Text) (h : Held) (o : Outcome)
    → NoHelpStep (after_flag c waiting word h o).1
NoHelp-after_flag c waiting word h done = tt
NoHelp-after_flag c waiting word h (waits id) = tt
NoHelp-after_flag c waiting word h plain = NoHelp-plain_word c waiting word h
NoHelp-after_flag c waiting word h refused = NoHelp-plain_word c waiting word h

NoHelp-short : (c : List Rule) (waiting : Waiting) (word : Text) (o : Option Text) (h : Held)
    → NoHelpStep (short_or_plain c waiting word o h).1
NoHelp-short c waiting word None h = NoHelp-plain_word c waiting word h
NoHelp-short c waiting word (Some flags) h = NoHelp-after_flag c waiting word (bundle c flags h).0 (bundle c flags h).1

NoHelp-long : (c : List Rule) (waiting : Waiting) (word : Text) (o : Option (Text × Option Text)) (h : Held)
    → NoHelpStep (long_or_other c waiting word o h).1
NoHelp-long c waiting word (Some p) h = NoHelp-after_flag c waiting word (long_met c (arg_by_long c p.0) p.1 h).0
    (long_met c (arg_by_long c p.0) p.1 h).1
NoHelp-long c waiting word None h = NoHelp-short c waiting word (short_of word) h

NoHelp-other : (s : Shape) → s.disable_help_subcommand ≡ false
    → (o : Option Text) (waiting : Waiting) (position : ℕ) (word : Text) (h : Held)
    → other_fault s o word h ≡ [] → NoHelpStep (subcommand_or_other s.rules o waiting position word h).1
NoHelp-other s enabled (Some name) waiting position word h none = by (bytes_eq name (codes "help")) s.disable_help_subcommand enabled none
  where
    by : (b d : Bool) → d ≡ false → (if b && not d then kind.DisplayHelp ∷ kind.InvalidSubcommand ∷ [] else []) ≡ []
        → b ≡ false
    by true true is none = absurd (true≢false is)
    by true false is none = let bad : ⊥ = cc in absurd bad
    by false d is none = refl
NoHelp-other s enabled None waiting position word h none = by (bytes_eq word (45 ∷ 45 ∷ []))
  where
    by : (b : Bool) → NoHelpStep (if b then (h, trailing position) else long_or_other s.rules waiting word
        (long_of word) h).1
    by true = tt
    by false = NoHelp-long s.rules waiting word (long_of word) h

NoHelp-word : (s : Shape) → s.disable_help_subcommand ≡ false
    → (names : Names) (is_trailing : Bool) (waiting : Waiting) (position : ℕ) (word : Text) (h : Held)
    → word_fault s names is_trailing waiting word h ≡ []
    → NoHelpStep (word_met s.rules names is_trailing waiting position word h).1
NoHelp-word s enabled names true waiting position word h none = tt
NoHelp-word s enabled names false waiting position word h none =
    NoHelp-other s enabled (subcommand_met names waiting word) waiting position word h none

NoHelp-to_positional : (c : List Rule) (o : Option Rule) (word : Text) (w : Walk) (h : Held) → NoHelp w.stopped
    → NoHelp (to_positional c o word w h).stopped
NoHelp-to_positional c None word w h quiet = quiet
NoHelp-to_positional c (Some a) word w h quiet = tt

NoHelp-after_step : (c : List Rule) (word : Text) (w : Walk) (h : Held) (step : Step) → NoHelpStep step
    → NoHelp w.stopped
    → NoHelp (after_step c word w h step).stopped
NoHelp-after_step c word w h (next waiting) ok quiet = quiet
NoHelp-after_step c word w h (trailing position) ok quiet = quiet
NoHelp-after_step c word w h (subcommand name) ok quiet = ok
NoHelp-after_step c word w h value ok quiet = NoHelp-to_positional c (arg_by_index c w.position) word w h quiet

NoHelp-turn : (s : Shape) → s.disable_help_subcommand ≡ false
    → (names : Names) (o : Option (Text × List Text)) (w : Walk) (word : Text)
    → (let met = word_met s.rules names w.is_trailing w.waiting w.position word w.held in
    if is_some o then [] else or_else (word_fault s names w.is_trailing w.waiting word w.held)
    (step_fault s w.position met.0 met.1)) ≡ []
    → NoHelp o → NoHelp w.stopped → NoHelp (walked_from s.rules names o w word).stopped
NoHelp-turn s enabled names (Some p) w word none quiet old = quiet
NoHelp-turn s enabled names None w word none quiet old =
    NoHelp-after_step s.rules word w _ _
    (NoHelp-word s enabled names w.is_trailing w.waiting w.position word w.held (or_else-nil _ _ none).0) old

NoHelp-walk : (s : Shape) → s.disable_help_subcommand ≡ false → (names : Names) (w : Walk) (words : List Text)
    → walk_fault s names w words ≡ []
    → NoHelp w.stopped → NoHelp (fold (walked s.rules names) w words).stopped
unfolding walked walk_fault
NoHelp-walk s enabled names w [] none quiet = quiet
NoHelp-walk s enabled names w (word ∷ words) none quiet =
    let parts = or_else-nil _ _ none in
    NoHelp-walk s enabled names (walked s.rules names w word) words parts.1
    (NoHelp-turn s enabled names w.stopped w word parts.0 quiet quiet)

-- ---- the command that was entered

-- if the command is entered without an error, it is asked for with its values
abbrev pub Serves : Shape → Type 0
Serves s = (name : Text) (words : List Text) → answers_to name (label_of s) ≡ true → bytes_eq name (codes "help") ≡ false
    → level_fault s [] nothing_held words false [] ≡ []
    → (asked : Asked) × (s.name ≡ command_name asked) × HasValues (rows_after s.rules [] words) asked

pub serve : (s : Shape) → Each IsSingle s.rules
    → ((rows : List Row) → Each (HasOne rows) s.rules
    → (asked : Asked) × (s.name ≡ command_name asked) × HasValues rows asked) → Serves s
serve s single values name words answers quiet none =
    values (rows_after s.rules [] words) (leaf_given s single words none)

-- the request of the words, for a program with only commands that serve
record Found (a : App) (stop : Option (Text × List Text)) : Type 0 where
  pub asked : Asked
  pub rows : List Row
  pub is : entered a stop ≡ Some (command_name asked, rows)
  pub values : HasValues rows asked

found_at : (a : App) (stop : Option (Text × List Text)) → Each Serves a.subs → NoHelp stop → entered_fault a stop ≡ []
    → is_some (entered a stop) ≡ true → Found a stop
found_at a None serves quiet none some = absurd (true≢false (sym some))
found_at a (Some p) serves quiet none some = by (find (λ s. answers_to p.0 (label_of s)) a.subs) refl none some
  where
    by : (o : Option Shape) → find (λ s. answers_to p.0 (label_of s)) a.subs ≡ o
        → option_map_or (λ s. level_fault s [] nothing_held p.1 false []) o [] ≡ []
        → is_some {T = Text × List Row} (option_map (λ (s : Shape). (s.name, rows_after s.rules [] p.1)) o) ≡ true
        → Found a (Some p)
    by None found none some = absurd (true≢false (sym some))
    by (Some s) found none some =
        let one = find-each Serves _ a.subs s serves found p.0 p.1 (find-passes _ a.subs s found) quiet none in
        record {
          asked = one.0;
          rows = rows_after s.rules [] p.1;
          is = ap (option_map (λ (s : Shape). (s.name, rows_after s.rules [] p.1))) found
              ∙ ap (λ (n : Text). Some (n, rows_after s.rules [] p.1)) one.1;
          values = one.2;
        }

wants_one : (has required : Bool) → required ≡ true → (not has && required) ≡ false → has ≡ true
wants_one true required is none = refl
wants_one false required is none = absurd (true≢false (sym is ∙ none))

found_in : (a : App) (words : List Text) → a.top.subcommand_required ≡ true → a.top.disable_help_subcommand ≡ false
    → Each Serves a.subs
    → built_fault a nothing_held words ≡ [] → Found a (stop_after a.top.rules (names_of a) words)
found_in a words required enabled serves none =
    let stop = stop_after a.top.rules (names_of a) words in
    let end = (walk a.top.rules (names_of a) nothing_held words).held in
    let rows = finished a.top.rules end in
    let walks = or_else-nil _ _ none in
    let enters = or_else-nil _ _ walks.1 in
    let settles = or_else-nil (settle_fault a.top.rules a.top.args_override_self end) _ enters.1 in
    let defaults = or_else-nil (defaults_fault (settled a.top.rules end).rows a.top.rules) _ settles.1 in
    let wants_help = not (is_some (entered a stop))
    && (a.top.arg_required_else_help && not (list_any (λ (r : Row). explicit_source r.source) rows)) in
    let wants_argument = not (a.top.subcommand_negates_reqs && is_some (entered a stop))
    && list_any (λ (x : Rule). x.required && not (is_given x.id rows)) a.top.rules in
    let quiet : NoHelp stop = NoHelp-walk a.top enabled (names_of a) (walk_from nothing_held) words walks.0 tt in
    let some : is_some (entered a stop) ≡ true =
    wants_one _ _ required (check_kinds-nil wants_help _ wants_argument defaults.1).0 in
    found_at a stop serves quiet enters.0 some

-- the command `help` is not entered
help_is_quiet : (name : Text) → (bytes_eq (codes "help") name || false) ≡ true → bytes_eq name (codes "help") ≡ false
    → ⊥
help_is_quiet name answers quiet = by (bytes_eq (codes "help") name) refl answers
  where
    by : (b : Bool) → bytes_eq (codes "help") name ≡ b → (b || false) ≡ true → ⊥
    by true is hit =
        let same : codes "help" ≡ name = search (rules, bytes_eq-Decides) in
        true≢false (sym (ap (λ (t : Text). bytes_eq t (codes "help")) (sym same)) ∙ quiet)
    by false is hit = true≢false (sym hit)

-- each command of the program serves
pub squitter-serves : Each Serves (built squitter).subs
squitter-serves = (
  serve _ (inl (refl, refl, refl), (inr (inl refl), tt)) (λ rows g. (Reply (Show (g.0 refl).0), refl, (g.0 refl).1)),
  (
    serve _ (
      inl (refl, refl, refl),
      (
        inl (refl, refl, refl),
        (
          inl (refl, refl, refl),
          (inl (refl, refl, refl), (inl (refl, refl, refl), (inl (refl, refl, refl), (inr (inl refl), tt)))),
        ),
      ),
    ) (λ rows g. (
      Reply (Encode (record {
        kind = (g.0 refl).0;
        parity = (g.1.0 refl).0;
        address = (g.1.1.0 refl).0;
        feet = first_of (codes "feet") rows;
        lat = (g.1.1.1.1.0 refl).0;
        lon = (g.1.1.1.1.1.0 refl).0;
      })),
      refl,
      ((g.0 refl).1, (g.1.0 refl).1, (g.1.1.0 refl).1, refl, (g.1.1.1.1.0 refl).1, (g.1.1.1.1.1.0 refl).1),
    )),
    (
      serve _ (inl (refl, refl, refl), (inl (refl, refl, refl), (inl (refl, refl, refl), (inr (inl refl), tt))))
          (λ rows g. (
            Reply (Local (g.0 refl).0 (g.1.0 refl).0 (g.1.1.0 refl).0),
            refl,
            ((g.0 refl).1, (g.1.0 refl).1, (g.1.1.0 refl).1),
          )),
      (
        serve _ (
          inl (refl, refl, refl),
          (inl (refl, refl, refl), (inl (refl, refl, refl), (inl (refl, refl, refl), (inr (inl refl), tt)))),
        ) (λ rows g. (
          Reply (Pair (g.0 refl).0 (g.1.0 refl).0 (first_of (codes "lat") rows) (first_of (codes "lon") rows)),
          refl,
          ((g.0 refl).1, (g.1.0 refl).1, refl, refl),
        )),
        (
          serve _ (inl (refl, refl, refl), (inr (inl refl), tt))
              (λ rows g. (Check (first_of (codes "format") rows), refl, refl)),
          (
            serve _ (
              inl (refl, refl, refl),
              (
                inl (refl, refl, refl),
                (inl (refl, refl, refl), (inl (refl, refl, refl), (inl (refl, refl, refl), (inr (inl refl), tt)))),
              ),
            )
                (λ rows g. (
                  Track (record {
                    format = first_of (codes "format") rows;
                    limit = first_of (codes "limit") rows;
                    window = first_of (codes "window") rows;
                    lat = first_of (codes "lat") rows;
                    lon = first_of (codes "lon") rows;
                  }),
                  refl,
                  (refl, refl, refl, refl, refl),
                )),
            (
              serve _ (
                inl (refl, refl, refl),
                (
                  inl (refl, refl, refl),
                  (
                    inl (refl, refl, refl),
                    (inr (inr (refl, omega arith)), (inr (inr (refl, omega arith)), (inr (inl refl), tt))),
                  ),
                ),
              )
                  (λ rows g. (
                    Feed (record {
                      format = first_of (codes "format") rows;
                      reorder = first_of (codes "reorder") rows;
                      leap = first_of (codes "leap") rows;
                      arrival = is_set (first_of (codes "arrival") rows);
                      all = is_set (first_of (codes "all") rows);
                    }),
                    refl,
                    (refl, refl, refl, refl, refl),
                  )),
              (λ name words answers quiet none. absurd (help_is_quiet name answers quiet), tt),
            ),
          ),
        ),
      ),
    ),
  ),
)

pub accepted_asks : (words : List Text) → fault_of squitter words ≡ [] → (asked : Asked) × Asks words asked
accepted_asks words none =
    let found = found_in (built squitter) (argument_words squitter words) refl refl squitter-serves none in
    (found.asked, record { accepted = none; rows = found.rows; entered = found.is; values = found.values })
