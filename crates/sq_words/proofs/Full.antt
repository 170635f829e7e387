-- If clap finds no error, each argument in its table has a value.
use Rattle.std.proofs.Common.{◌≡◌, ◌∙◌, ◌⊎◌, ◌<◌, ◌++◌, ◌&&◌, ℕ, zero, suc, Bool, true, false, List, [], ◌∷◌, Option}
use Rattle.std.proofs.Common.{None, Some, length, ap, ap₂, sym, subst, inl, inr, arith, refl, is_some}
use Rattle.std.specs.Prelude.{⊤, if◌then◌else◌, unwrap_or, find, fold, slice_get, option_and_then, encode_utf8, drop}
use Rattle.std.specs.Option.{option_map_or}
use Rattle.std.specs.Str.{bytes_eq, chars}
use Rattle.clap.specs.Lexer.{long_of, short_of}
use Rattle.clap.specs.Facts.{explicit_source, unwrap_or_range}
use Rattle.clap.specs.Kinds.{Kinds, or_else, range_kinds}
use Rattle.clap.specs.Takes.{is_given}
use Rattle.clap.specs.Simple.{Shape}
use Rattle.clap.specs.Walk.{Text, Rule, Row, Held, Outcome, Waiting, Step, Walk, Names, action_of, most_values}
use Rattle.clap.specs.Walk.{takes_values, takes_several, is_pending, at_row, more_values, with_values, without}
use Rattle.clap.specs.Walk.{values_or_missing, used_as, used, used_by_id, settled_rows, settled, reacted, option_met}
use Rattle.clap.specs.Walk.{flag_met, long_met, short_met, attached_value, bundle_step, bundle_met, bundle, after_flag}
use Rattle.clap.specs.Walk.{plain_word, option_word, subcommand_or_other, long_or_other, short_or_plain, word_met}
use Rattle.clap.specs.Walk.{subcommand_met, after_step, to_positional, walked_from, walked, has_row, default_rows}
use Rattle.clap.specs.Walk.{with_default, reading_by, first_of, arg_by_id, arg_by_long, arg_by_short, arg_by_index}
use Rattle.clap.specs.Walk.{done, waits, plain, refused, idle, option, positional, next, trailing, subcommand, value}
use Rattle.clap.specs.Faults.{bundle_fault, stray_fault, use_fault, settle_fault, react_fault, option_fault, long_fault}
use Rattle.clap.specs.Faults.{short_fault, bundle_step_fault, flags_fault, flag_word_fault, other_fault, word_fault}
use Rattle.clap.specs.Faults.{positional_fault, step_fault, walk_fault}
use Rattle.clap.specs.declared.builder.action.ArgAction.{ArgAction}
use Rattle.clap.specs.declared.builder.action.ArgAction.TheVariants.{Set, SetTrue, Help}
use Rattle.clap.specs.declared.error.kind.ErrorKind.TheVariants as kind
use Rattle.clap.specs.declared.parser.matches.ValueSource.{ValueSource}
use Rattle.clap.specs.declared.builder.value_parser.Reading.{Reading}

-- each row has a value
abbrev pub AllFull : List Row → Type 0
AllFull [] = ⊤
AllFull (r ∷ rs) = (0 < length r.values) × AllFull rs

-- an argument or an option with one value, a flag, or the request for help
abbrev pub IsSingle : Rule → Type 0
IsSingle a = ((action_of a ≡ Set) × ((unwrap_or_range a.range).start_inclusive ≡ 1) × (most_values a ≡ 1))
    ⊎ ((action_of a ≡ Help) ⊎ ((action_of a ≡ SetTrue) × (0 < length a.missing)))

-- a property of each element
abbrev pub Each : {X : Type 0} → (X → Type 0) → List X → Type 0
Each P [] = ⊤
Each P (x ∷ xs) = P x × Each P xs

pub or_else-nil : (xs ys : Kinds) → or_else xs ys ≡ [] → (xs ≡ []) × (ys ≡ [])
or_else-nil [] ys is = (refl, is)
or_else-nil (k ∷ ks) ys is = let bad : ⊥ = cc in absurd bad

-- an element that is found has any property that each element has
pub find-each : {X : Type 0} (P : X → Type 0) (p : X → Bool) (xs : List X) (x : X) → Each P xs → find p xs ≡ Some x
    → P x
find-each P p [] x each is = let bad : ⊥ = cc in absurd bad
find-each P p (y ∷ ys) x each is = pick (p y) is (find-each P p ys x each.1)
  where
    pick : (b : Bool) → (if b then Some y else find p ys) ≡ Some x → (find p ys ≡ Some x → P x) → P x
    pick true is rest = subst P (ap (λ o. unwrap_or o y) is) each.0
    pick false is rest = rest is

-- ---- the rows

Full-if : (b : Bool) (xs ys : List Row) → AllFull xs → AllFull ys → AllFull (if b then xs else ys)
Full-if true xs ys all also = all
Full-if false xs ys all also = also

Full-append : (xs ys : List Row) → AllFull xs → AllFull ys → AllFull (xs ++ ys)
Full-append [] ys all also = also
Full-append (x ∷ xs) ys all also = (all.0, Full-append xs ys all.1 also)

Full-at_row : (id : Text) (change : Row → List Row) (missing rows : List Row)
    → ((r : Row) → 0 < length r.values → AllFull (change r))
    → AllFull missing → AllFull rows → AllFull (at_row id change missing rows)
Full-at_row id change missing [] keeps new all = new
Full-at_row id change missing (r ∷ rs) keeps new all =
    Full-if (bytes_eq r.id id) (change r ++ rs) (r ∷ at_row id change missing rs)
    (Full-append (change r) rs (keeps r all.0) all.1) (all.0, Full-at_row id change missing rs keeps new all.1)

longer : (xs ys : List Text) → 0 < length xs → 0 < length (xs ++ ys)
longer [] ys some = absurd (omega arith)
longer (x ∷ xs) ys some = omega arith

Full-with_values : (id : Text) (how : Reading) (s : ValueSource) (values : List Text) (rows : List Row)
    → 0 < length values → AllFull rows
    → AllFull (with_values id how s values rows)
Full-with_values id how s values rows some all =
    Full-at_row id (more_values s values) _ rows (λ r full. (longer r.values values full, tt)) (some, tt) all

Full-without : (id : Text) (rows : List Row) → AllFull rows → AllFull (without id rows)
Full-without id rows all = Full-at_row id (λ _. []) [] rows (λ r full. tt) tt all

-- one value is needed, so no value would be an error
some_values : (a : Rule) (values : List Text) → range_kinds 1 1 (length values) ≡ []
    → 0 < length (values_or_missing a values)
some_values a [] is = let bad : ⊥ = cc in absurd bad
some_values a (v ∷ vs) is = omega arith

-- a flag without a value has its default
flag_values : (a : Rule) (values : List Text) → 0 < length a.missing → 0 < length (values_or_missing a values)
flag_values a [] some = some
flag_values a (v ∷ vs) some = omega arith

-- the rows after a use of the argument by this action have values
abbrev IsFullAs : Rule → List Text → List Row → ArgAction → Type 0
IsFullAs a values rows action = AllFull (used_as action a.id (reading_by a) (values_or_missing a values) rows)

pub Full-used : (again : Bool) (a : Rule) (values : List Text) (rows : List Row) → IsSingle a
    → use_fault again a values rows ≡ [] → AllFull rows
    → AllFull (used a values rows)
Full-used again a values rows single none all = elim single [
  | inl one ↦ subst (IsFullAs a values rows) (sym one.0)
      (Full-with_values _ _ _ _ _ (some_values a values
      (sym (ap₂ (λ (s m : ℕ). range_kinds s m (length values)) one.1 one.2) ∙ (or_else-nil _ _ none).0))
      (Full-without _ rows all))
  | inr (inl help) ↦ subst (IsFullAs a values rows) (sym help) all
  | inr (inr flag) ↦ subst (IsFullAs a values rows) (sym flag.0)
      (Full-with_values _ _ _ _ _ (flag_values a values flag.1) (Full-without _ rows all))
]

-- ---- the walk

module _ (c : List Rule) (again : Bool) (single : Each IsSingle c) where
  Full-used_by_id : (o : Option Rule) (values : List Text) (rows : List Row) → ((a : Rule) → o ≡ Some a → IsSingle a)
      → option_map_or (λ a. use_fault again a values rows) o [] ≡ [] → AllFull rows → AllFull (used_by_id o values rows)
  Full-used_by_id None values rows one none all = all
  Full-used_by_id (Some a) values rows one none all = Full-used again a values rows (one a refl) none all

  Full-settled_rows : (p : Option (Text × List Text)) (rows : List Row)
      → option_map_or (λ p. option_map_or (λ a. use_fault again a p.1 rows) (arg_by_id c p.0) []) p [] ≡ []
      → AllFull rows → AllFull (settled_rows c p rows)
  Full-settled_rows None rows none all = all
  Full-settled_rows (Some p) rows none all =
      Full-used_by_id (arg_by_id c p.0) p.1 rows (λ a is. find-each IsSingle _ c a single is) none all

  pub Full-settled : (h : Held) → settle_fault c again h ≡ [] → AllFull h.rows → AllFull (settled c h).rows
  Full-settled h none all = Full-settled_rows h.pending h.rows none all

  Full-reacted : (a : Rule) (values : List Text) (h : Held) → IsSingle a → react_fault c again a values h ≡ []
      → AllFull h.rows
      → AllFull (reacted c a values h).rows
  Full-reacted a values h one none all =
      let parts = or_else-nil _ _ none in Full-used again a values _ one parts.1 (Full-settled h parts.0 all)

  Full-option : (a : Rule) (v : Option Text) (h : Held) → IsSingle a → option_fault c again a v h ≡ [] → AllFull h.rows
      → AllFull (option_met c a v h).0.rows
  Full-option a (Some v) h one none all = Full-reacted a (v ∷ []) h one none all
  Full-option a None h one none all = Full-settled h none all

  Full-flag : (a : Rule) (v : Option Text) (h : Held) (k : Kinds) → IsSingle a
      → (if is_some v then k else react_fault c again a [] h) ≡ [] → AllFull h.rows
      → AllFull (flag_met c a v h).0.rows
  Full-flag a (Some v) h k one none all = all
  Full-flag a None h k one none all = Full-reacted a [] h one none all

  Full-long : (o : Option Rule) (v : Option Text) (h : Held) → ((a : Rule) → o ≡ Some a → IsSingle a)
      → long_fault c again o v h ≡ [] → AllFull h.rows
      → AllFull (long_met c o v h).0.rows
  Full-long None v h one none all = all
  Full-long (Some a) v h one none all = by (takes_values a) none
    where
      by : (b : Bool) → (if b then option_fault c again a v h else
          (if is_some v then kind.TooManyValues ∷ [] else react_fault c again a [] h)) ≡ []
          → AllFull (if b then option_met c a v h else flag_met c a v h).0.rows
      by true none = Full-option a v h (one a refl) none all
      by false none = Full-flag a v h _ (one a refl) none all

  -- the rest of a bundle of flags keeps the rows full
  abbrev Goes : (Held → Held × Outcome) → (Held → Kinds) → Type 0
  Goes met fault = (h : Held) → fault h ≡ [] → AllFull h.rows → AllFull (met h).0.rows

  Full-short : (o : Option Rule) (rest : Text) (h : Held) (met : Held → Held × Outcome) (fault : Held → Kinds)
      → ((a : Rule) → o ≡ Some a → IsSingle a)
      → Goes met fault → short_fault c again o rest h fault ≡ [] → AllFull h.rows
      → AllFull (short_met c o rest h met).0.rows
  Full-short None rest h met fault one goes none all = all
  Full-short (Some a) rest h met fault one goes none all = by (takes_values a) none
    where
      by : (b : Bool) → (if b then option_fault c again a (attached_value rest) h else or_else
          (react_fault c again a [] h) (fault (reacted c a [] h))) ≡ []
          → AllFull (if b then option_met c a (attached_value rest) h else met (reacted c a [] h)).0.rows
      by true none = Full-option a (attached_value rest) h (one a refl) none all
      by false none = let parts = or_else-nil _ _ none in goes _ parts.1 (Full-reacted a [] h (one a refl) parts.0 all)

  Full-bundle_step : (o : Option ℕ) (flags : Text) (skip : ℕ) (so_far : Outcome) (h : Held)
      (met : Text → ℕ → Outcome → Held → Held × Outcome)
      (fault : Text → ℕ → Held → Kinds) → ((t : Text) (n : ℕ) (so_far : Outcome) → Goes (met t n so_far) (fault t n))
      → bundle_step_fault c again o flags skip h fault ≡ [] → AllFull h.rows
      → AllFull (bundle_step c o flags skip so_far h met).0.rows
  Full-bundle_step None flags skip so_far h met fault goes none all = all
  Full-bundle_step (Some x) flags zero so_far h met fault goes none all =
      let rest = drop (length (encode_utf8 x)) flags in
      Full-short (arg_by_short c x) rest h (met rest 0 done) (fault rest 0)
      (λ a is. find-each IsSingle _ c a single is) (goes rest 0 done) none all
  Full-bundle_step (Some x) flags (suc skip) so_far h met fault goes none all = goes _ skip so_far h none all

  Full-bundle_met : (k : ℕ) (flags : Text) (skip : ℕ) (so_far : Outcome) (h : Held)
      → flags_fault c again k flags skip h ≡ [] → AllFull h.rows
      → AllFull (bundle_met c k flags skip so_far h).0.rows
  unfolding bundle_met flags_fault
  Full-bundle_met zero flags skip so_far h none all = all
  Full-bundle_met (suc k) flags skip so_far h none all =
      Full-bundle_step (slice_get (chars flags) 0) flags skip so_far h (bundle_met c k) (flags_fault c again k)
      (λ t n o held. Full-bundle_met k t n o held) none all

-- a word that is not a flag is held, and no row changes
Full-option_word : (o : Option Rule) (id word : Text) (h : Held) → AllFull h.rows
    → AllFull (option_word o id word h).0.rows
Full-option_word None id word h all = all
Full-option_word (Some a) id word h all = all

Full-plain_word : (c : List Rule) (waiting : Waiting) (word : Text) (h : Held) → AllFull h.rows
    → AllFull (plain_word c waiting word h).0.rows
Full-plain_word c idle word h all = all
Full-plain_word c (option id) word h all = Full-option_word (arg_by_id c id) id word h all
Full-plain_word c positional word h all = all

Full-after_flag : (c : List Rule) (waiting : Waiting) (word : Text) (h : Held) (o : Outcome) → AllFull h.rows
    → AllFull (after_flag c waiting word h o).0.rows
Full-after_flag c waiting word h done all = all
Full-after_flag c waiting word h (waits id) all = all
Full-after_flag c waiting word h plain all = Full-plain_word c waiting word h all
Full-after_flag c waiting word h refused all = Full-plain_word c waiting word h all

module _ (s : Shape) (single : Each IsSingle s.rules) where
  c : List Rule
  c = s.rules

  again : Bool
  again = s.args_override_self

  Full-short_or_plain : (waiting : Waiting) (word : Text) (o : Option Text) (h : Held)
      → option_map_or (λ flags. bundle_fault s.rules s.args_override_self flags h) o [] ≡ [] → AllFull h.rows
      → AllFull (short_or_plain s.rules waiting word o h).0.rows
  Full-short_or_plain waiting word None h none all = Full-plain_word s.rules waiting word h all
  Full-short_or_plain waiting word (Some flags) h none all =
      Full-after_flag s.rules waiting word _ (bundle s.rules flags h).1
      (Full-bundle_met s.rules s.args_override_self single (length flags) flags h.skip plain
      (record h { skip = 0 }) none all)

  Full-long_or_other : (waiting : Waiting) (word : Text) (o : Option (Text × Option Text)) (h : Held)
      → flag_word_fault s.rules s.args_override_self o word h ≡ [] → AllFull h.rows
      → AllFull (long_or_other s.rules waiting word o h).0.rows
  Full-long_or_other waiting word (Some p) h none all =
      Full-after_flag s.rules waiting word _ (long_met s.rules (arg_by_long s.rules p.0) p.1 h).1
      (Full-long s.rules s.args_override_self single (arg_by_long s.rules p.0) p.1 h
      (λ a is. find-each IsSingle _ s.rules a single is) none all)
  Full-long_or_other waiting word None h none all = Full-short_or_plain waiting word (short_of word) h none all

  Full-other : (o : Option Text) (waiting : Waiting) (position : ℕ) (word : Text) (h : Held)
      → other_fault s o word h ≡ [] → AllFull h.rows
      → AllFull (subcommand_or_other s.rules o waiting position word h).0.rows
  Full-other (Some name) waiting position word h none all = all
  Full-other None waiting position word h none all = by (bytes_eq word (45 ∷ 45 ∷ [])) none
    where
      by : (b : Bool) → (if b then [] else flag_word_fault s.rules s.args_override_self (long_of word) word h) ≡ []
          → AllFull (if b then (h, trailing position) else long_or_other s.rules waiting word (long_of word) h).0.rows
      by true none = all
      by false none = Full-long_or_other waiting word (long_of word) h none all

  Full-word : (names : Names) (is_trailing : Bool) (waiting : Waiting) (position : ℕ) (word : Text) (h : Held)
      → word_fault s names is_trailing waiting word h ≡ [] → AllFull h.rows
      → AllFull (word_met s.rules names is_trailing waiting position word h).0.rows
  Full-word names true waiting position word h none all = all
  Full-word names false waiting position word h none all =
      Full-other (subcommand_met names waiting word) waiting position word h none all

  Full-positional : (b : Bool) (h : Held) → (if b then [] else settle_fault s.rules s.args_override_self h) ≡ []
      → AllFull h.rows
      → AllFull (if b then h else settled s.rules h).rows
  Full-positional true h none all = all
  Full-positional false h none all = Full-settled s.rules s.args_override_self single h none all

  Full-to_positional : (o : Option Rule) (word : Text) (w : Walk) (h : Held)
      → option_map_or (λ a. positional_fault s.rules s.args_override_self a h) o (stray_fault s) ≡ [] → AllFull h.rows
      → AllFull (to_positional s.rules o word w h).held.rows
  Full-to_positional None word w h none all = all
  Full-to_positional (Some a) word w h none all = Full-positional (is_pending a h.pending && takes_several a) h none all

  Full-after_step : (word : Text) (w : Walk) (h : Held) (step : Step) → step_fault s w.position h step ≡ []
      → AllFull h.rows
      → AllFull (after_step s.rules word w h step).held.rows
  Full-after_step word w h (next waiting) none all = all
  Full-after_step word w h (trailing position) none all = all
  Full-after_step word w h (subcommand name) none all = all
  Full-after_step word w h value none all = Full-to_positional (arg_by_index s.rules w.position) word w h none all

  Full-turn : (names : Names) (o : Option (Text × List Text)) (w : Walk) (word : Text)
      → (let met = word_met s.rules names w.is_trailing w.waiting w.position word w.held in
      if is_some o then [] else or_else (word_fault s names w.is_trailing w.waiting word w.held)
      (step_fault s w.position met.0 met.1)) ≡ []
      → AllFull w.held.rows → AllFull (walked_from s.rules names o w word).held.rows
  Full-turn names (Some p) w word none all = all
  Full-turn names None w word none all =
      let parts = or_else-nil _ _ none in
      Full-after_step word w _ _ parts.1 (Full-word names w.is_trailing w.waiting w.position word w.held parts.0 all)

  pub Full-walk : (names : Names) (w : Walk) (words : List Text) → walk_fault s names w words ≡ [] → AllFull w.held.rows
      → AllFull (fold (walked s.rules names) w words).held.rows
  unfolding walked walk_fault
  Full-walk names w [] none all = all
  Full-walk names w (word ∷ words) none all =
      let parts = or_else-nil _ _ none in
      Full-walk names (walked s.rules names w word) words parts.1 (Full-turn names w.stopped w word parts.0 all)

-- ---- after the walk

Full-default : (a : Rule) (values : List Text) (rows : List Row) → AllFull rows
    → AllFull (default_rows a.id (reading_by a) values rows)
Full-default a [] rows all = all
Full-default a (v ∷ vs) rows all = Full-with_values _ _ _ (v ∷ vs) rows (omega arith) all

pub Full-defaults : (c : List Rule) (rows : List Row) → AllFull rows → AllFull (fold with_default rows c)
Full-defaults [] rows all = all
Full-defaults (a ∷ more) rows all =
    Full-defaults more _ (Full-if (has_row a.id rows) rows (default_rows a.id (reading_by a) a.defaults rows) all
    (Full-default a a.defaults rows all))

-- an argument that is given has a value
pub given_value : (id : Text) (rows : List Row) → AllFull rows → is_given id rows ≡ true
    → (v : Text) × (first_of id rows ≡ Some v)
given_value id rows all is = by (find (λ r. bytes_eq r.id id) rows) refl is
  where
    value_in : (values : List Text) → 0 < length values → (v : Text) × (slice_get values 0 ≡ Some v)
    value_in [] some = absurd (omega arith)
    value_in (v ∷ vs) some = (v, refl)

    full_row : (rs : List Row) → AllFull rs → Each (λ (r : Row). 0 < length r.values) rs
    full_row [] all = tt
    full_row (r ∷ rs) all = (all.0, full_row rs all.1)

    by : (o : Option Row) → find (λ r. bytes_eq r.id id) rows ≡ o
        → option_map_or (λ r. explicit_source r.source) o false ≡ true
        → (v : Text) × (option_and_then (λ r. slice_get r.values 0) (find (λ r. bytes_eq r.id id) rows) ≡ Some v)
    by None found is = let bad : ⊥ = cc in absurd bad
    by (Some r) found is =
        let full : 0 < length r.values =
        find-each (λ (r : Row). 0 < length r.values) _ rows r (full_row rows all) found in
        let v = value_in r.values full in
        (v.0, ap (option_and_then (λ (r : Row). slice_get r.values 0)) found ∙ v.1)
