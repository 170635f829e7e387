-- The laws of streams.
use Rattle.std.proofs.Common.{◌≡◌, ◌≢◌, ◌++◌, ◌∙◌, inl, inr, ℕ, Bool, true, false, List, [], ◌∷◌, length, map, ap, ap₂}
use Rattle.std.proofs.Common.{refl, sym, subst, append_assoc, append-nil}
use Rattle.std.specs.Prelude.{◌==◌, ◌⊎◌, Option, Some, None, if◌then◌else◌}
use Rattle.std.specs.List.{flat_map}
use Rattle.std.proofs.lemmas.Bool.{eq-eqb, eqb-true}
use Rattle.sq_feed.specs.declared.message.Kind.{Kind}
use Rattle.sq_feed.specs.declared.message.Kind.TheVariants.{Message, Status, ReceiverId, Unknown}
use Rattle.sq_feed.specs.declared.message.Found.TheVariants.{Whole}
use Rattle.sq_feed.specs.Kinds.{kind_of, message_len, message_of}
use Rattle.sq_feed.specs.Begun.{Begun, HoldWithRest, IsUnfinished, begun_symbols, cut_off, nothing_begun, rest_of, type_byte}
use Rattle.sq_feed.specs.Laws.{SentIsFoundAnywhere, StartSplits}
use Rattle.sq_feed.specs.Laws.{AreSent, AreTakes, GivesTheStream, IsFoundOnce, IsReadOnce, Sent, SentIsFound, Step, begun_by}
use Rattle.sq_feed.specs.Laws.{found_by, sent_bytes, sent_messages, taken_by}
use Rattle.sq_feed.specs.Stream.{Byte, IsSymbol, Spell, Start, Symbol, doubled, escape}
use Rattle.sq_feed.specs.Stream.{found_after, found_at, found_in, found_of, run, spelled, stray, symbols_from}
use Rattle.sq_feed.proofs.Readings.{enough, from_spelled, end_too_few}
use Rattle.sq_feed.proofs.Steps.{bytes_are, hold_more, hold_nothing, reads_rest, type_is_none}

-- ---- symbols

spell_more : (symbol : Symbol) (bytes : List ℕ) (symbols : List Symbol) → IsSymbol symbol → Spell bytes symbols
    → Spell (spelled symbol ++ bytes) (symbol ∷ symbols)
spell_more symbol bytes symbols is h = record {
  rest = h.rest;
  is_rest = h.is_rest;
  whole = ap (λ bs. spelled symbol ++ bs) h.whole ∙ sym (append_assoc (spelled symbol)
      (flat_map spelled symbols) h.rest);
  each = (is, h.each);
}

-- the bytes, with an escape in front if `after`
abbrev after_all : Bool → List ℕ → List ℕ
after_all after bytes = if after then escape ∷ bytes else bytes

not_escape : (byte : ℕ) → (byte == escape) ≡ false → byte ≢ escape
not_escape byte e is = let none : true ≡ false = sym (eq-eqb byte escape is) ∙ e in cc

reads_at : (after : Bool) (byte : ℕ) (more : List ℕ) (test : Bool) → (byte == escape) ≡ test
    → ((next : Bool) → Spell (after_all next more) (symbols_from next more))
    → Spell (after_all after (byte ∷ more)) (symbols_from after (byte ∷ more))
reads_at false byte more true e next =
    subst (λ (t : Bool). Spell (byte ∷ more) ((if t then [] else Byte byte ∷ []) ++ symbols_from t more)) (sym e)
    (subst (λ (b : ℕ). Spell (b ∷ more) (symbols_from true more)) (sym (eqb-true byte escape e)) (next true))
reads_at false byte more false e next =
    subst (λ (t : Bool). Spell (byte ∷ more) ((if t then [] else Byte byte ∷ []) ++ symbols_from t more)) (sym e)
    (subst (λ (bs : List ℕ). Spell (bs ++ more) (Byte byte ∷ symbols_from false more))
    (ap (λ (t : Bool). if t then escape ∷ escape ∷ [] else byte ∷ []) e)
    (spell_more (Byte byte) more (symbols_from false more) tt (next false)))
reads_at true byte more true e next =
    subst (λ (t : Bool). Spell (escape ∷ byte ∷ more) ((if t then Byte escape
    else Start byte) ∷ symbols_from false more))
    (sym e)
    (subst (λ (b : ℕ). Spell (escape ∷ b ∷ more) (Byte escape ∷ symbols_from false more)) (sym
    (eqb-true byte escape e))
    (spell_more (Byte escape) more (symbols_from false more) tt (next false)))
reads_at true byte more false e next =
    subst (λ (t : Bool). Spell (escape ∷ byte ∷ more) ((if t then Byte escape
    else Start byte) ∷ symbols_from false more))
    (sym e)
    (spell_more (Start byte) more (symbols_from false more) (not_escape byte e) (next false))

reads : (bytes : List ℕ) (after : Bool) → Spell (after_all after bytes) (symbols_from after bytes)
reads [] true = record { rest = escape ∷ []; is_rest = inr refl; whole = refl; each = tt }
reads [] false = record { rest = []; is_rest = inl refl; whole = refl; each = tt }
reads (byte ∷ more) after = reads_at after byte more (byte == escape) refl (reads more)

none_left : (rest : List ℕ) → (rest ≡ []) ⊎ (rest ≡ escape ∷ []) → [] ≡ symbols_from false rest
none_left rest is = elim is [
  | inl none ↦ sym (ap (symbols_from false) none)
  | inr one ↦ sym (ap (symbols_from false) one)
]

only_one : (bytes : List ℕ) (others : List Symbol) → Spell bytes others → others ≡ symbols_from false bytes
only_one bytes others h =
    sym (append-nil others) ∙ ap (λ ss. others ++ ss) (none_left h.rest h.is_rest)
    ∙ sym (from_spelled others h.rest h.each) ∙ ap (symbols_from false) (sym h.whole)

pub read_once : (bytes : List ℕ) → IsReadOnce bytes
read_once bytes = record { symbols = symbols_from false bytes; reads = reads bytes false; one = only_one bytes }

pub found_once : (bytes : List ℕ) → IsFoundOnce bytes
found_once bytes = record {
  holds = record { symbols = symbols_from false bytes; spell = reads bytes false; is = refl };
  one = λ found h. h.is ∙ ap found_of (only_one bytes h.symbols h.spell);
}

-- ---- messages that are sent

doubled_each : (bytes : List ℕ) → flat_map doubled bytes ≡ flat_map spelled (map Byte bytes)
doubled_each [] = refl
doubled_each (b ∷ bytes) = ap (λ bs. doubled b ++ bs) (doubled_each bytes)

hold_sent : (sent : Sent) → length sent.bytes ≡ message_len sent.size
    → HoldWithRest (sent_bytes sent) (Whole (message_of sent.size sent.bytes) ∷ []) []
unfolding HoldWithRest
hold_sent sent full more =
    ap (λ bs. found_in (escape ∷ type_byte sent.size ∷ bs ++ more)) (doubled_each sent.bytes)
    ∙ ap found_of (from_spelled (Start (type_byte sent.size) ∷ map Byte sent.bytes) more
    (type_is_none sent.size, bytes_are sent.bytes))
    ∙ enough sent.size sent.bytes (symbols_from false more) full

hold_all : (sent : List Sent) → AreSent sent → HoldWithRest (flat_map sent_bytes sent) (sent_messages sent) []
unfolding HoldWithRest
hold_all [] are more = refl
hold_all (sent ∷ others) (full, are) more =
    hold_more (sent_bytes sent) (flat_map sent_bytes others) [] [] (Whole (message_of sent.size sent.bytes) ∷ [])
    (sent_messages others) (hold_sent sent full) (hold_all others are) more

pub sent_is_found : SentIsFound
unfolding HoldWithRest
sent_is_found sent are =
    ap found_in (sym (append-nil (flat_map sent_bytes sent))) ∙ hold_all sent are [] ∙ append-nil (sent_messages sent)

run_front : (front : List Symbol) (kind : ℕ) (more : List Symbol) → run (front ++ Start kind ∷ more) ≡ run front
run_front [] kind more = refl
run_front (Start other ∷ front) kind more = refl
run_front (Byte byte ∷ front) kind more = ap (λ bs. byte ∷ bs) (run_front front kind more)

after_splits : (front : List Symbol) (kind : ℕ) (more : List Symbol)
    → found_after (front ++ Start kind ∷ more) ≡ found_after front ++ found_of (Start kind ∷ more)
after_splits [] kind more = refl
after_splits (Start other ∷ front) kind more =
    ap₂ (λ bs xs. found_at (kind_of other) bs ++ xs) (run_front front kind more) (after_splits front kind more)
    ∙ sym (append_assoc (found_at (kind_of other) (run front)) (found_after front) (found_of (Start kind ∷ more)))
after_splits (Byte byte ∷ front) kind more = after_splits front kind more

pub start_splits : StartSplits
start_splits front kind more =
    ap₂ (λ bs xs. stray bs ++ xs) (run_front front kind more) (after_splits front kind more)
    ∙ sym (append_assoc (stray (run front)) (found_after front) (found_of (Start kind ∷ more)))

pub sent_is_found_anywhere : SentIsFoundAnywhere
sent_is_found_anywhere front sent more each full =
    let start = Start (type_byte sent.size) in
    let symbols = start ∷ map Byte sent.bytes in
    ap found_of (from_spelled front (sent_bytes sent ++ more) each)
    ∙ ap (λ bs. found_of (front ++ symbols_from false (escape ∷ type_byte sent.size ∷ bs
    ++ more))) (doubled_each sent.bytes)
    ∙ ap (λ ss. found_of (front ++ ss)) (from_spelled symbols more (type_is_none sent.size, bytes_are sent.bytes))
    ∙ start_splits front (type_byte sent.size) (map Byte sent.bytes ++ symbols_from false more)
    ∙ ap (λ xs. found_of front ++ xs) (enough sent.size sent.bytes (symbols_from false more) full)

-- ---- calls

takes_hold : (steps : List Step) (before : Begun) → AreTakes before steps
    → HoldWithRest (rest_of before ++ taken_by steps) (found_by steps) (rest_of (begun_by before steps))
takes_hold [] before takes = hold_nothing (rest_of before)
takes_hold (step ∷ steps) before (held, few, takes) =
    subst (λ bs. HoldWithRest bs (step.found ++ found_by steps) (rest_of (begun_by step.after steps)))
    (append_assoc (rest_of before) step.taken (taken_by steps))
    (hold_more (rest_of before ++ step.taken) (taken_by steps) (rest_of step.after)
    (rest_of (begun_by step.after steps)) step.found (found_by steps) held (takes_hold steps step.after takes))

unfinished : (steps : List Step) (before : Begun) → IsUnfinished before.kind before.held → AreTakes before steps
    → IsUnfinished (begun_by before steps).kind (begun_by before steps).held
unfinished [] before few takes = few
unfinished (step ∷ steps) before few (held, next, takes) = unfinished steps step.after next takes

cut_at_end : (kind : Option Kind) (held : List ℕ) → IsUnfinished kind held
    → found_of (begun_symbols kind held ++ []) ≡ cut_off kind
cut_at_end None held few = refl
cut_at_end (Some (Message size)) held few = end_too_few size held few
cut_at_end (Some Status) held few = refl
cut_at_end (Some ReceiverId) held few = refl
cut_at_end (Some Unknown) held few = refl

pub rest_found : (begun : Begun) → IsUnfinished begun.kind begun.held
    → found_in (rest_of begun ++ []) ≡ cut_off begun.kind
rest_found begun few =
    ap found_of (reads_rest begun []) ∙ cut_at_end begun.kind begun.held few

pub gives_the_stream : GivesTheStream
unfolding HoldWithRest
gives_the_stream steps takes =
    let last = begun_by nothing_begun steps in
    ap (λ xs. found_by steps ++ xs) (sym (rest_found last (unfinished steps nothing_begun tt takes)))
    ∙ sym (takes_hold steps nothing_begun takes []) ∙ ap found_in (append-nil (taken_by steps))
