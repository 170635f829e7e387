-- Feeds that go on.
use Rattle.std.proofs.Common.{◌≡◌, ◌+◌, ◌-◌, ◌≤◌, ◌++◌, ◌∙◌, ℕ, List, [], ◌∷◌, length, take, drop, refl, sym, ap, subst}
use Rattle.std.proofs.Common.{append_assoc, append-nil, arith, take-add}
use Rattle.std.specs.List.{flat_map}
use Rattle.std.proofs.lemmas.List.{length-drop, take_all}
use Rattle.sq_feed.specs.declared.message.Found.{Found}
use Rattle.sq_feed.specs.declared.message.Timed.{Timed}
use Rattle.sq_feed.specs.Ears.{Hears, ear_after, ear_after_all, told_of, told_of_all}
use Rattle.sq_feed.specs.Feeds.{AreFed, Fed, Feeding, FeedsBoth, FeedsGoOn, FeedsTheWhole, HasFed, HasTold, last_fed, lines_of, nothing_fed}
use Rattle.sq_feed.specs.Follows.{Follows}
use Rattle.sq_feed.specs.Lines.{log_line}
use Rattle.sq_feed.proofs.Sourced.{new_is_new}
use Rattle.sq_feed.specs.Readers.{Reads, awaited, items_as}
use Rattle.sq_feed.proofs.Following.{follows_more, follows_nothing}

-- ---- several items

told_of_all-append : (arrival : ℕ) (ear : Hears) (xs ys : List Found)
    → told_of_all arrival ear (xs ++ ys) ≡ told_of_all arrival ear xs
    ++ told_of_all arrival (ear_after_all arrival ear xs) ys
told_of_all-append arrival ear [] ys = refl
told_of_all-append arrival ear (x ∷ xs) ys =
    ap (λ l. told_of arrival ear x ++ l) (told_of_all-append arrival (ear_after arrival ear x) xs ys)
    ∙ sym (append_assoc (told_of arrival ear x) (told_of_all arrival (ear_after arrival ear x) xs)
    (told_of_all arrival (ear_after_all arrival (ear_after arrival ear x) xs) ys))

ear_after_all-append : (arrival : ℕ) (ear : Hears) (xs ys : List Found)
    → ear_after_all arrival ear (xs ++ ys) ≡ ear_after_all arrival (ear_after_all arrival ear xs) ys
ear_after_all-append arrival ear [] ys = refl
ear_after_all-append arrival ear (x ∷ xs) ys = ear_after_all-append arrival (ear_after arrival ear x) xs ys

pub lines_of-append : (xs ys : List Timed) → lines_of (xs ++ ys) ≡ lines_of xs ++ lines_of ys
lines_of-append [] ys = refl
lines_of-append (x ∷ xs) ys =
    ap (λ l. log_line x.moment x.frame ++ l) (lines_of-append xs ys)
    ∙ sym (append_assoc (log_line x.moment x.frame) (lines_of xs) (lines_of ys))

-- ---- feeds

fed_nothing : (arrival : ℕ) (old : Feeding) → HasFed arrival old [] [] old
fed_nothing arrival old =
    record { same = refl; follows = follows_nothing (awaited old.reader); heard = refl }

pub told_nothing : (arrival : ℕ) (old : Feeding) → HasTold arrival old [] [] old
told_nothing arrival old = record {
  found = [];
  fed = fed_nothing arrival old;
  told_are = sym (append-nil old.ready);
}

-- the first squitter that was ready was given
pub told_ready : (arrival : ℕ) (old new : Feeding) (bytes : List ℕ) (told : List Timed) → bytes ≡ []
    → new.reader ≡ old.reader → new.ear ≡ old.ear → told ++ new.ready ≡ old.ready → HasTold arrival old bytes told new
told_ready arrival old new bytes told none reader ear is =
    subst (λ bs. HasTold arrival old bs told new) (sym none) (record {
      found = [];
      fed = record {
        same = ap (λ (r : Reads). r.asked) reader;
        follows = subst (λ (r : Reads). Follows (awaited old.reader) [] [] (awaited r)) (sym reader)
            (follows_nothing (awaited old.reader));
        heard = ear;
      };
      told_are = is ∙ sym (append-nil old.ready);
    })

-- an item was found while no squitter was ready, and these are its squitters
pub told_one : (arrival : ℕ) (old new : Feeding) (bytes : List ℕ) (found : Found) (told : List Timed)
    → old.ready ≡ [] → new.reader.asked ≡ old.reader.asked
    → Follows (awaited old.reader) bytes (found ∷ []) (awaited new.reader)
    → new.ear ≡ ear_after arrival old.ear found → told ++ new.ready ≡ told_of arrival old.ear found
    → HasTold arrival old bytes told new
told_one arrival old new bytes found told none same follows heard is = record {
  found = found ∷ [];
  fed = record { same = same; follows = follows; heard = heard };
  told_are = is ∙ sym (append-nil (told_of arrival old.ear found))
      ∙ ap (λ l. l ++ told_of_all arrival old.ear (found ∷ [])) (sym none);
}

-- bytes, and more bytes with the same arrival
pub fed_on : (arrival : ℕ) (old mid new : Feeding) (a b : List ℕ) (found more : List Found)
    → HasFed arrival old a found mid → HasFed arrival mid b more new → HasFed arrival old (a ++ b) (found ++ more) new
fed_on arrival old mid new a b found more x y = record {
  same = y.same ∙ x.same;
  follows = follows_more (awaited old.reader) (awaited mid.reader) (awaited new.reader) a b found more x.follows
      y.follows;
  heard = y.heard ∙ ap (λ k. ear_after_all arrival k more) x.heard
      ∙ sym (ear_after_all-append arrival old.ear found more);
}

-- the squitters of bytes, and of more bytes
pub told_on : (arrival : ℕ) (old mid : Feeding) (a : List ℕ) (found more : List Found) → HasFed arrival old a found mid
    → told_of_all arrival old.ear (found ++ more)
    ≡ told_of_all arrival old.ear found ++ told_of_all arrival mid.ear more
told_on arrival old mid a found more x =
    told_of_all-append arrival old.ear found more
    ∙ ap (λ (k : Hears). told_of_all arrival old.ear found ++ told_of_all arrival k more) (sym x.heard)

pub told_more : FeedsGoOn
told_more arrival old mid new a b t u x y = record {
  found = x.found ++ y.found;
  fed = fed_on arrival old mid new a b x.found y.found x.fed y.fed;
  told_are = append_assoc t u new.ready ∙ ap (λ l. t ++ l) y.told_are
      ∙ sym (append_assoc t mid.ready (told_of_all arrival mid.ear y.found))
      ∙ ap (λ l. l ++ told_of_all arrival mid.ear y.found) x.told_are
      ∙ append_assoc old.ready (told_of_all arrival old.ear x.found) (told_of_all arrival mid.ear y.found)
      ∙ ap (λ l. old.ready ++ l) (sym (told_on arrival old mid a x.found y.found x.fed));
}

-- the rest of a piece from an index on
pub rest_is : {X : Type 0} (piece : List X) (at : ℕ) → take (length piece - at) (drop at piece) ≡ drop at piece
rest_is piece at = take_all (length piece - at) (drop at piece) (omega (arith, length-drop at piece))

pub within_rest : {X : Type 0} (piece : List X) (at count : ℕ) → at ≤ length piece
    → count ≤ length (take (length piece - at) (drop at piece)) → at + count ≤ length piece
within_rest piece at count fits few =
    let fit : count ≤ length (drop at piece) = subst (λ l. count ≤ length l) (rest_is piece at) few in
    omega (arith, fits, fit, length-drop at piece)

-- more bytes of a piece
pub told_piece : (arrival : ℕ) (old mid new : Feeding) (piece : List ℕ) (at count : ℕ) (told more : List Timed)
    → HasTold arrival old (take at piece) told mid
    → HasTold arrival mid (take count (take (length piece - at) (drop at piece))) more new
    → HasTold arrival old (take (at + count) piece) (told ++ more) new
told_piece arrival old mid new piece at count told more x y =
    subst (λ bs. HasTold arrival old bs (told ++ more) new) (sym (take-add at count piece))
    (told_more arrival old mid new (take at piece) (take count (drop at piece)) told more x
    (subst (λ bs. HasTold arrival mid (take count bs) more new) (rest_is piece at) y))

-- ---- laws

all_follow : (calls : List Fed) (before : Feeding) → AreFed before calls
    → Follows (awaited before.reader) (flat_map (λ (c : Fed). c.bytes) calls) (flat_map (λ (c : Fed). c.found) calls)
    (awaited (last_fed before calls).reader)
all_follow [] before fed = follows_nothing (awaited before.reader)
all_follow (one ∷ more) before (fed, others) =
    follows_more (awaited before.reader) (awaited one.after.reader) (awaited
    (last_fed one.after more).reader) one.bytes
    (flat_map (λ (c : Fed). c.bytes) more) one.found (flat_map (λ (c : Fed). c.found) more) fed.follows
    (all_follow more one.after others)

same_asked : (calls : List Fed) (before : Feeding) → AreFed before calls
    → (last_fed before calls).reader.asked ≡ before.reader.asked
same_asked [] before fed = refl
same_asked (one ∷ more) before (fed, others) = same_asked more one.after others ∙ fed.same

pub feeds_the_whole : FeedsTheWhole
unfolding Follows
feeds_the_whole asked manner calls fed =
    let start = nothing_fed asked manner in
    let bytes = flat_map (λ (c : Fed). c.bytes) calls in
    sym (all_follow calls start fed []) ∙ ap (awaited start.reader) (append-nil bytes) ∙ (new_is_new asked).awaits bytes

pub feeds_both : FeedsBoth
unfolding Follows
feeds_both asked manner calls more closed fed close others =
    let start = nothing_fed asked manner in
    let last = last_fed start calls in
    let bytes = flat_map (λ (c : Fed). c.bytes) more in
    let items = flat_map (λ (c : Fed). c.found) calls in
    ap (λ l. items ++ l) (sym (all_follow more closed others []) ∙ ap (awaited closed.reader) (append-nil bytes)
    ∙ close.closed.awaits bytes
    ∙ ap (λ a. awaited last.reader [] ++ items_as a bytes) (same_asked calls start fed ∙ (new_is_new asked).same))
    ∙ sym (append_assoc items (awaited last.reader []) (items_as asked bytes))
    ∙ ap (λ l. l ++ items_as asked bytes) (feeds_the_whole asked manner calls fed)
