-- Readers of sources of a known or an unknown format.
use Rattle.std.proofs.Common.{◌≡◌, ◌⊎◌, ◌+◌, ◌-◌, ◌<◌, ◌≤◌, ◌++◌, ◌∙◌, ℕ, List, [], ◌∷◌, length, take, drop, refl, sym, ap, ap₂, arith, subst, inl, inr}
use Rattle.std.proofs.Common.{append_assoc, append-nil}
use Rattle.std.proofs.lemmas.List.{drop-drop, drop_all, take-append-drop}
use Rattle.std.specs.Prelude.{IfSome, Option, Some, None}
use Rattle.sq_feed.specs.declared.machine.Format.{Format}
use Rattle.sq_feed.specs.declared.machine.Format.TheVariants.{Beast, Avr, Csv, Log}
use Rattle.sq_feed.specs.declared.message.Found.{Found}
use Rattle.sq_feed.specs.declared.message.Found.TheVariants.{Whole, Foreign}
use Rattle.sq_feed.specs.declared.message.Message.{Message as OneMessage}
use Rattle.sq_feed.specs.declared.message.Stranger.{Stranger}
use Rattle.sq_feed.specs.declared.reader.Stage.{Stage}
use Rattle.sq_feed.specs.declared.reader.Stage.TheVariants.{Finding, Reading, Replaying, Ending, Naming, Over}
use Rattle.sq_feed.specs.declared.signs.Sign.{Sign}
use Rattle.sq_feed.specs.declared.signs.Sign.TheVariants.{Unclear, Shows, Other}
use Rattle.sq_feed.specs.Feeds.{Feeding, steps_left}
use Rattle.sq_feed.specs.Finding.{Finds, HasShown, finds_to_come, items_from, items_shown, line_sign}
use Rattle.sq_feed.specs.Follows.{Follows}
use Rattle.sq_feed.specs.Machines.{Begins, new_machine, to_come}
use Rattle.sq_feed.specs.Readers.{HasClosed, HasEnded, IsEnding, IsNew, Reads, awaited, calls_at, calls_left, items_as, new_reads, reads_at, unread}

-- the machine at the start of a source gives the items of the source
pub starts_with : (format : Format) (bytes : List ℕ) → to_come (new_machine format) bytes ≡ items_from format bytes
starts_with Beast bytes = refl
starts_with Avr bytes = refl
starts_with Csv bytes = refl
starts_with Log bytes = refl

pub new_is_new : (asked : Option Format) → IsNew asked (new_reads asked)
new_is_new None = record { same = refl; awaits = λ bytes. refl }
new_is_new (Some Beast) = record { same = refl; awaits = λ bytes. refl }
new_is_new (Some Avr) = record { same = refl; awaits = λ bytes. refl }
new_is_new (Some Csv) = record { same = refl; awaits = λ bytes. refl }
new_is_new (Some Log) = record { same = refl; awaits = λ bytes. refl }

-- no bytes have no items
pub items_nothing : (asked : Option Format) → items_as asked [] ≡ []
unfolding line_sign
items_nothing None = refl
items_nothing (Some Beast) = refl
items_nothing (Some Avr) = refl
items_nothing (Some Csv) = refl
items_nothing (Some Log) = refl

-- a message at the front of a piece, while a machine reads the source
pub whole_reading : (reads : Reads) (machine : Begins) (piece : List ℕ) (result : Option (OneMessage × ℕ))
    → reads.stage ≡ Reading → machine ≡ reads.machine
    → IfSome result (λ p. (0 < p.1) × (p.1 ≤ length piece)
    × Follows (to_come machine) (take p.1 piece) (Whole p.0 ∷ []) (to_come machine))
    → IfSome result (λ p. (0 < p.1) × (p.1 ≤ length piece)
    × Follows (awaited reads) (take p.1 piece) (Whole p.0 ∷ []) (awaited reads))
whole_reading reads machine piece result is same held =
    subst (λ (s : Stage). IfSome result (λ p. (0 < p.1) × (p.1 ≤ length piece)
    × Follows (reads_at s reads) (take p.1 piece) (Whole p.0 ∷ []) (reads_at s reads))) (sym is)
    (subst (λ (m : Begins). IfSome result (λ p. (0 < p.1) × (p.1 ≤ length piece)
    × Follows (to_come m) (take p.1 piece) (Whole p.0 ∷ []) (to_come m))) same held)

-- ---- bytes that are read again

-- the bytes that were read, and the others
split : (held : List ℕ) (from upto : ℕ) → from ≤ upto
    → drop from held ≡ take (upto - from) (drop from held) ++ drop upto held
split held from upto on =
    let sum : from + (upto - from) ≡ upto = omega (arith, on) in
    sym (take-append-drop (upto - from) (drop from held))
    ∙ ap (λ l. take (upto - from) (drop from held) ++ l) (drop-drop (upto - from) from held ∙ ap (λ k. drop k held) sum)

-- the machine read some of the bytes that showed the format
pub replay_more : (old new : Reads) (held : List ℕ) (found : List Found) → old.stage ≡ Replaying → new.stage ≡ Replaying
    → old.finder.held ≡ held → new.finder.held ≡ held → old.at ≤ new.at
    → Follows (to_come old.machine) (take (new.at - old.at) (unread old)) found (to_come new.machine)
    → Follows (awaited old) [] found (awaited new)
unfolding Follows
replay_more old new held found was is before same on follows more =
    let after : drop new.at old.finder.held ≡ unread new = ap (drop new.at) (before ∙ sym same) in
    ap (λ (s : Stage). reads_at s old more) was
    ∙ ap (λ l. to_come old.machine (l ++ more)) (split old.finder.held old.at new.at on
    ∙ ap (λ l. take (new.at - old.at) (unread old) ++ l) after)
    ∙ ap (to_come old.machine) (append_assoc (take (new.at - old.at) (unread old)) (unread new) more)
    ∙ follows (unread new ++ more)
    ∙ ap (λ (s : Stage). found ++ reads_at s new more) (sym is)

-- the machine has read all of them
pub replay_done : (old new : Reads) → old.stage ≡ Replaying → new.stage ≡ Reading → new.machine ≡ old.machine
    → length old.finder.held ≤ old.at → Follows (awaited old) [] [] (awaited new)
unfolding Follows
replay_done old new was is machine all more =
    ap (λ (s : Stage). reads_at s old more) was
    ∙ ap (λ l. to_come old.machine (l ++ more)) (drop_all old.at old.finder.held all)
    ∙ ap (λ (m : Begins). to_come m more) (sym machine)
    ∙ ap (λ (s : Stage). reads_at s new more) (sym is)

-- the machine read some of the bytes before the end of the source
pub end_more : (old new : Reads) (held : List ℕ) (found : List Found) → old.stage ≡ Ending → new.stage ≡ Ending
    → new.asked ≡ old.asked → old.finder.held ≡ held → new.finder.held ≡ held → old.at ≤ new.at
    → Follows (to_come old.machine) (take (new.at - old.at) (unread old)) found (to_come new.machine)
    → Follows (awaited old) [] found (awaited new)
unfolding Follows
end_more old new held found was is asked before same on follows more =
    let after : drop new.at old.finder.held ≡ unread new = ap (drop new.at) (before ∙ sym same) in
    ap (λ (s : Stage). reads_at s old more) was
    ∙ ap (λ l. to_come old.machine l ++ items_as old.asked more) (split old.finder.held old.at new.at on
    ∙ ap (λ l. take (new.at - old.at) (unread old) ++ l) after)
    ∙ ap (λ l. l ++ items_as old.asked more) (follows (unread new))
    ∙ append_assoc found (to_come new.machine (unread new)) (items_as old.asked more)
    ∙ ap (λ a. found ++ (to_come new.machine (unread new) ++ items_as a more)) (sym asked)
    ∙ ap (λ (s : Stage). found ++ reads_at s new more) (sym is)

-- the last item of a source, and the start of another one
pub end_done : (old new : Reads) (last : List Found) → old.stage ≡ Ending → IsNew old.asked new
    → last ≡ to_come old.machine [] → length old.finder.held ≤ old.at → Follows (awaited old) [] last (awaited new)
unfolding Follows
end_done old new last was anew is all more =
    ap (λ (s : Stage). reads_at s old more) was
    ∙ ap (λ l. to_come old.machine l ++ items_as old.asked more) (drop_all old.at old.finder.held all)
    ∙ ap (λ l. l ++ items_as old.asked more) (sym is) ∙ ap (λ l. last ++ l) (sym (anew.awaits more))

-- what a source was, and the start of another one
pub named_done : (old new : Reads) (stranger : Stranger) → old.stage ≡ Naming stranger → IsNew old.asked new
    → Follows (awaited old) [] (Foreign stranger ∷ []) (awaited new)
unfolding Follows
named_done old new stranger was anew more =
    ap (λ (s : Stage). reads_at s old more) was ∙ ap (λ l. Foreign stranger ∷ l) (sym (anew.awaits more))

-- ---- a source of unknown format

-- bytes that show nothing
pub finds_more : (old new : Reads) (finder : Finds) (bytes : List ℕ) (sign : Sign) → old.stage ≡ Finding
    → new.stage ≡ Finding → old.finder ≡ finder → sign ≡ Unclear → HasShown sign finder bytes new.finder
    → new.finder.held ≡ finder.held ++ bytes → Follows (awaited old) bytes [] (awaited new)
unfolding Follows
finds_more old new finder bytes sign was is same unclear shows held more =
    let none = subst (λ (s : Sign). HasShown s finder bytes new.finder) unclear shows in
    ap (λ (s : Stage). reads_at s old (bytes ++ more)) was
    ∙ ap (λ (f : Finds). finds_to_come f (bytes ++ more)) same
    ∙ ap₂ items_shown (none more) (sym (append_assoc finder.held bytes more) ∙ ap (λ l. l ++ more) (sym held))
    ∙ ap (λ (s : Stage). reads_at s new more) (sym is)

-- bytes that show a format
pub finds_format : (old new : Reads) (finder after : Finds) (bytes : List ℕ) (sign : Sign) (format : Format)
    → old.stage ≡ Finding → new.stage ≡ Replaying → new.at ≡ 0 → new.machine ≡ new_machine format
    → new.finder ≡ after → old.finder ≡ finder → sign ≡ Shows format → HasShown sign finder bytes after
    → after.held ≡ finder.held ++ bytes → Follows (awaited old) bytes [] (awaited new)
unfolding Follows
finds_format old new finder after bytes sign format was is start machine finds same shown shows held more =
    let all = subst (λ (s : Sign). HasShown s finder bytes after) shown shows in
    ap (λ (s : Stage). reads_at s old (bytes ++ more)) was
    ∙ ap (λ (f : Finds). finds_to_come f (bytes ++ more)) same
    ∙ ap₂ items_shown (all more) (sym (append_assoc finder.held bytes more) ∙ ap (λ l. l ++ more) (sym held))
    ∙ sym (starts_with format (after.held ++ more))
    ∙ ap (λ (m : Begins). to_come m (after.held ++ more)) (sym machine)
    ∙ ap (λ (f : Finds). to_come new.machine (f.held ++ more)) (sym finds)
    ∙ ap (λ k. to_come new.machine (drop k new.finder.held ++ more)) (sym start)
    ∙ ap (λ (s : Stage). reads_at s new more) (sym is)

-- bytes that show that there is no format
pub finds_other : (old new : Reads) (finder after : Finds) (bytes : List ℕ) (sign : Sign) (stranger : Stranger)
    → old.stage ≡ Finding → new.stage ≡ Over → old.finder ≡ finder → sign ≡ Other stranger
    → HasShown sign finder bytes after → Follows (awaited old) bytes (Foreign stranger ∷ []) (awaited new)
unfolding Follows
finds_other old new finder after bytes sign stranger was is same shown shows more =
    let all = subst (λ (s : Sign). HasShown s finder bytes after) shown shows in
    ap (λ (s : Stage). reads_at s old (bytes ++ more)) was
    ∙ ap (λ (f : Finds). finds_to_come f (bytes ++ more)) same
    ∙ ap (λ (s : Sign). items_shown s (finder.held ++ (bytes ++ more))) (all more)
    ∙ ap (λ (s : Stage). Foreign stranger ∷ reads_at s new more) (sym is)

-- a source of no known format continues without items
pub over_on : (reads : Reads) (bytes : List ℕ) → reads.stage ≡ Over → Follows (awaited reads) bytes [] (awaited reads)
unfolding Follows
over_on reads bytes is more =
    ap (λ (s : Stage). reads_at s reads (bytes ++ more)) is ∙ ap (λ (s : Stage). reads_at s reads more) (sym is)

-- ---- the end of a source

-- A step without a byte leaves an ended source at its end: its reader goes on, or a squitter is ready.
pub ended_step : (old new : Feeding) → HasEnded old.reader → 0 < steps_left old
    → (IsEnding old.reader.stage → HasEnded new.reader) → (0 < length old.ready → new.reader ≡ old.reader)
    → HasEnded new.reader
ended_step old new (inl ending) some ends ready = ends ending
ended_step old new (inr (anew, none)) some ends ready =
    subst HasEnded (sym (ready (omega (arith, none, some)))) (inr (anew, none))

-- without a byte, there is work left
pub work_left : (bytes work : ℕ) → (0 < bytes) ⊎ (0 < work) → bytes ≡ 0 → 0 < work
work_left bytes work (inl some) none = absurd (omega (arith, none, some))
work_left bytes work (inr some) none = some

-- without work left, an ended source is followed by another one
pub next_begins : (reads : Reads) → HasEnded reads → calls_left reads ≡ 0 → IsNew reads.asked reads
next_begins reads (inr (anew, none)) done = anew
next_begins reads (inl ending) done = by reads.stage refl
  where
    by : (s : Stage) → reads.stage ≡ s → IsNew reads.asked reads
    by Finding is = absurd (subst IsEnding is ending)
    by Reading is = absurd (subst IsEnding is ending)
    by Replaying is = absurd (subst IsEnding is ending)
    by Ending is =
        let some : length (unread reads) + 1 ≡ 0 = ap (λ (s : Stage). calls_at s reads) (sym is) ∙ done in
        absurd (omega (arith, some))
    by (Naming stranger) is =
        let some : 1 ≡ 0 = ap (λ (s : Stage). calls_at s reads) (sym is) ∙ done in absurd (omega (arith, some))
    by Over is = absurd (subst IsEnding is ending)

-- all items of an ended source were given
pub all_given : (old new : Reads) (found : List Found) → Follows (awaited old) [] found (awaited new) → HasEnded new
    → calls_left new ≡ 0 → found ≡ awaited old []
unfolding Follows
all_given old new found follows ended done =
    sym (append-nil found)
    ∙ ap (λ l. found ++ l) (sym (items_nothing new.asked) ∙ sym ((next_begins new ended done).awaits []))
    ∙ sym (follows [])

-- the last items of a source wait after its end
pub closed_items : (old closed : Reads) → HasClosed old closed → awaited closed [] ≡ awaited old []
closed_items old closed close =
    close.awaits [] ∙ ap (λ l. awaited old [] ++ l) (items_nothing old.asked) ∙ append-nil (awaited old [])

pub nothing_left : (reads : Reads) → HasEnded reads → calls_left reads ≡ 0 → awaited reads [] ≡ []
nothing_left reads ended done = (next_begins reads ended done).awaits [] ∙ items_nothing reads.asked

pub ending_works : (reads : Reads) → IsEnding reads.stage → 0 < calls_left reads
ending_works reads ending = by reads.stage refl
  where
    by : (s : Stage) → reads.stage ≡ s → 0 < calls_left reads
    by Finding is = absurd (subst IsEnding is ending)
    by Reading is = absurd (subst IsEnding is ending)
    by Replaying is = absurd (subst IsEnding is ending)
    by Ending is =
        let some : calls_left reads ≡ length (unread reads) + 1 = ap (λ (s : Stage). calls_at s reads) is in
        omega (arith, some)
    by (Naming stranger) is =
        let some : calls_left reads ≡ 1 = ap (λ (s : Stage). calls_at s reads) is in omega (arith, some)
    by Over is = absurd (subst IsEnding is ending)
