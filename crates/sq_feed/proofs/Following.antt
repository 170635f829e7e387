-- Taking bytes in order.
use Rattle.std.proofs.Common.{◌≡◌, ◌+◌, ◌<◌, ◌≤◌, ◌++◌, ◌∙◌, ℕ, List, [], ◌∷◌, length, take, get_or, refl, sym, ap, subst, append_assoc}
use Rattle.std.proofs.lemmas.List.{take_more}
use Rattle.sq_feed.specs.declared.machine.Format.TheVariants.{Beast, Avr, Csv, Log}
use Rattle.std.specs.Prelude.{IfSome, Option, Some, None}
use Rattle.sq_feed.specs.declared.message.Found.{Found}
use Rattle.sq_feed.specs.declared.message.Found.TheVariants.{Whole}
use Rattle.sq_feed.specs.declared.message.Message.{Message as OneMessage}
use Rattle.sq_feed.specs.Avr.{avr_to_come}
use Rattle.sq_feed.specs.Begun.{HoldWithRest, rest_of}
use Rattle.sq_feed.specs.Follows.{Follows, FollowsMore}
use Rattle.sq_feed.specs.Machines.{Begins, to_come, to_come_as}
use Rattle.sq_feed.specs.Rows.{rows_to_come}
use Rattle.sq_feed.specs.Stream.{found_in}

pub follows_nothing : (old : List ℕ → List Found) → Follows old [] [] old
unfolding Follows
follows_nothing old more = refl

pub follows_more : FollowsMore
unfolding Follows
follows_more old mid new a b xs ys first second more =
    ap old (append_assoc a b more) ∙ first (b ++ more) ∙ ap (λ zs. xs ++ zs) (second more)
    ∙ sym (append_assoc xs ys (new more))

-- one more byte of a piece
pub follows_byte : (old mid new : List ℕ → List Found) (piece : List ℕ) (at : ℕ) (found : List Found)
    → at < length piece
    → Follows old (take at piece) [] mid → Follows mid (get_or piece at 0 ∷ []) found new
    → Follows old (take (at + 1) piece) found new
follows_byte old mid new piece at found within first second =
    subst (λ bs. Follows old bs found new) (sym (take_more piece at 0 within))
    (follows_more old mid new (take at piece) (get_or piece at 0 ∷ []) [] found first second)

-- bytes after a rest are bytes to come
follows_hold : (rest bytes next : List ℕ) (found : List Found) → HoldWithRest (rest ++ bytes) found next
    → Follows (λ more. found_in (rest ++ more)) bytes found (λ more. found_in (next ++ more))
unfolding HoldWithRest Follows
follows_hold rest bytes next found held more =
    ap found_in (sym (append_assoc rest bytes more)) ∙ held more

pub beast_follows : (old new : Begins) (bytes : List ℕ) (found : List Found) → old.format ≡ Beast → new.format ≡ Beast
    → HoldWithRest (rest_of old.beast ++ bytes) found (rest_of new.beast)
    → Follows (to_come old) bytes found (to_come new)
unfolding Follows
beast_follows old new bytes found was is held more =
    ap (λ f. to_come_as f old (bytes ++ more)) was
    ∙ follows_hold (rest_of old.beast) bytes (rest_of new.beast) found held more
    ∙ ap (λ f. found ++ to_come_as f new more) (sym is)

pub avr_follows : (old new : Begins) (bytes : List ℕ) (found : List Found) → old.format ≡ Avr → new.format ≡ Avr
    → Follows (avr_to_come old.avr) bytes found (avr_to_come new.avr) → Follows (to_come old) bytes found (to_come new)
unfolding Follows
avr_follows old new bytes found was is follows more =
    ap (λ f. to_come_as f old (bytes ++ more)) was ∙ follows more ∙ ap (λ f. found ++ to_come_as f new more) (sym is)

pub csv_follows : (old new : Begins) (bytes : List ℕ) (found : List Found) → old.format ≡ Csv → new.format ≡ Csv
    → Follows (rows_to_come old.rows) bytes found (rows_to_come new.rows)
    → Follows (to_come old) bytes found (to_come new)
unfolding Follows
csv_follows old new bytes found was is follows more =
    ap (λ f. to_come_as f old (bytes ++ more)) was ∙ follows more ∙ ap (λ f. found ++ to_come_as f new more) (sym is)

pub log_follows : (old new : Begins) (bytes : List ℕ) (found : List Found) → old.format ≡ Log → new.format ≡ Log
    → Follows (rows_to_come old.rows) bytes found (rows_to_come new.rows)
    → Follows (to_come old) bytes found (to_come new)
unfolding Follows
log_follows old new bytes found was is follows more =
    ap (λ f. to_come_as f old (bytes ++ more)) was ∙ follows more ∙ ap (λ f. found ++ to_come_as f new more) (sym is)

-- ---- messages at the front of a piece

pub beast_whole : (machine : Begins) (piece : List ℕ) (result : Option (OneMessage × ℕ)) → machine.format ≡ Beast
    → IfSome result (λ p. (0 < p.1) × (p.1 ≤ length piece))
    → IfSome result (λ p. HoldWithRest (rest_of machine.beast
    ++ take p.1 piece) (Whole p.0 ∷ []) (rest_of machine.beast))
    → IfSome result (λ p. (0 < p.1) × (p.1 ≤ length piece)
    × Follows (to_come machine) (take p.1 piece) (Whole p.0 ∷ []) (to_come machine))
beast_whole machine piece None is fits held = tt
beast_whole machine piece (Some p) is fits held =
    (fits.0, fits.1, beast_follows machine machine (take p.1 piece) (Whole p.0 ∷ []) is is held)

pub avr_whole : (machine : Begins) (piece : List ℕ) (result : Option (OneMessage × ℕ)) → machine.format ≡ Avr
    → IfSome result (λ p. (0 < p.1) × (p.1 ≤ length piece)
    × Follows (avr_to_come machine.avr) (take p.1 piece) (Whole p.0 ∷ []) (avr_to_come machine.avr))
    → IfSome result (λ p. (0 < p.1) × (p.1 ≤ length piece)
    × Follows (to_come machine) (take p.1 piece) (Whole p.0 ∷ []) (to_come machine))
avr_whole machine piece None is held = tt
avr_whole machine piece (Some p) is (some, fits, word) =
    (some, fits, avr_follows machine machine (take p.1 piece) (Whole p.0 ∷ []) is is word)

pub rows_whole : (machine : Begins) (piece : List ℕ) (result : Option (OneMessage × ℕ))
    → ((bytes : List ℕ) (found : List Found) → Follows (rows_to_come machine.rows) bytes found
    (rows_to_come machine.rows)
    → Follows (to_come machine) bytes found (to_come machine))
    → IfSome result (λ p. (0 < p.1) × (p.1 ≤ length piece)
    × Follows (rows_to_come machine.rows) (take p.1 piece) (Whole p.0 ∷ []) (rows_to_come machine.rows))
    → IfSome result (λ p. (0 < p.1) × (p.1 ≤ length piece)
    × Follows (to_come machine) (take p.1 piece) (Whole p.0 ∷ []) (to_come machine))
rows_whole machine piece None follows held = tt
rows_whole machine piece (Some p) follows (some, fits, line) =
    (some, fits, follows (take p.1 piece) (Whole p.0 ∷ []) line)
