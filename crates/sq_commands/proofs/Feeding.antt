-- Calls of a feed, one after the other, and the lines that they put.
use Rattle.std.proofs.Common.{◌≡◌, ◌++◌, ◌∙◌, ℕ, zero, suc, List, [], ◌∷◌, Option, take, refl, sym}
use Rattle.std.proofs.Common.{ap, ap₂, append_assoc, append-nil, subst}
use Rattle.std.specs.Io.KnownBytes.{Appends}
use Rattle.sq_devices.specs.Calls.{HasPut, HasSent}
use Rattle.sq_devices.specs.Clocks.{Tells}
use Rattle.sq_devices.specs.Device.{WroteFront}
use Rattle.sq_devices.specs.declared.device.Sink.{Ghosts as SinkGhosts}
use Rattle.sq_devices.proofs.Puts.{HasPut-trans}
use Rattle.sq_feed.specs.Ears.{ear_after_all, ear_ended, told_ended, told_of_all}
use Rattle.sq_feed.specs.Feeds.{AreFed, Fed, Feeding, HasFed, HasSettled, HasTold, bytes_in, last_fed}
use Rattle.sq_feed.specs.Follows.{Follows}
use Rattle.sq_feed.specs.Readers.{Reads, awaited}
use Rattle.sq_feed.specs.declared.message.Found.{Found}
use Rattle.sq_feed.specs.declared.message.Timed.{Timed}
use Rattle.sq_feed.proofs.Feeding.{told_on}
use Rattle.sq_log.proofs.Running.{AppendsOrHides-after}
use Rattle.sq_commands.specs.Feed.{HasToldText, arrivals_in, squitters_in}

-- ---- texts that are put one after the other

-- a text was put, and then a prefix of the next
pub wrote_after : (a b c : Option (List ℕ)) (x y : List ℕ) → Appends a b x → WroteFront b c y → WroteFront a c (x ++ y)
wrote_after a b c x y first (part, (rest, is), grown) = (
  x ++ part,
  (rest, ap (λ l. x ++ l) is ∙ sym (append_assoc x part rest)),
  AppendsOrHides-after a b c x part first grown,
)

-- a text was put, and then the next was put and the sink finished
pub sent_after : {K : Type 0} (k : SinkGhosts K) (a b c : K) (x y : List ℕ) → HasPut k a b x → HasSent k b c y
    → HasSent k a c (x ++ y)
sent_after k a b c x y put (last, put', finished) = (last, HasPut-trans k a b last x y put put', finished)

-- ---- one piece

-- with these bytes a feed went on, and this holds of the squitters in them
abbrev pub HasFedText : ℕ → Feeding → List ℕ → Feeding → (List Timed → Type 0) → Type 0
HasFedText arrival old bytes new Of =
    (found : List Found) × HasFed arrival old bytes found new × Of (told_of_all arrival old.ear found)

-- No squitter was ready, and none is: those that were given are those in the bytes.
pub fed_text : (arrival : ℕ) (old new : Feeding) (bytes : List ℕ) (Of : List Timed → Type 0)
    → HasToldText arrival old bytes new Of → old.ready ≡ [] → new.ready ≡ [] → HasFedText arrival old bytes new Of
fed_text arrival old new bytes Of (told, has, of) none left =
    let is = sym (append-nil told) ∙ ap (λ l. told ++ l) (sym left) ∙ has.told_are
    ∙ ap (λ l. l ++ told_of_all arrival old.ear has.found) none in
    (has.found, has.fed, subst Of is of)

pub take_nothing : (n : ℕ) (bytes : List ℕ) → bytes ≡ [] → take n bytes ++ [] ≡ []
take_nothing zero bytes none = refl
take_nothing (suc n) [] none = refl
take_nothing (suc n) (byte ∷ bytes) none = absurd (cc none)

-- the squitters of a part of the last items, and the others
pub told_of_front : (arrival : ℕ) (old new : Feeding) (count : ℕ) (found : List Found)
    → HasFed arrival old (take count []) found new
    → told_of_all arrival old.ear found ++ told_of_all arrival new.ear (awaited new.reader [])
    ≡ told_of_all arrival old.ear (awaited old.reader [])
unfolding Follows
told_of_front arrival old new count found fed =
    sym (told_on arrival old new (take count []) found (awaited new.reader []) fed)
    ∙ ap (told_of_all arrival old.ear) (sym (fed.follows []) ∙ ap (awaited old.reader) (take_nothing count [] refl))

front_nothing : {X : Type 0} (x y : List X) → x ++ y ≡ [] → x ≡ []
front_nothing [] y none = refl
front_nothing (a ∷ x) y none = absurd (cc none)

-- without a byte, a reader that awaits nothing finds nothing
nothing_found : (old new : Reads) (bytes : List ℕ) (found : List Found)
    → Follows (awaited old) bytes found (awaited new) → bytes ++ [] ≡ [] → awaited old [] ≡ [] → found ≡ []
unfolding Follows
nothing_found old new bytes found follows empty none =
    front_nothing found (awaited new []) (sym (follows []) ∙ ap (awaited old) empty ∙ none)

-- the rows that waited at the end of a source, and nothing else
pub told_settled : (arrival : ℕ) (one two three : Feeding) (bytes : List ℕ) (told : List Timed)
    → HasTold arrival two bytes told three → bytes ++ [] ≡ [] → HasSettled one two → one.ready ≡ []
    → awaited one.reader [] ≡ [] → (told ++ three.ready ≡ told_ended one.ear) × (three.ear ≡ ear_ended one.ear)
told_settled arrival one two three bytes told has empty settled ready none =
    let found = nothing_found two.reader three.reader bytes has.found has.fed.follows empty
    (subst (λ (r : Reads). awaited r [] ≡ []) (sym settled.same_reader) none) in (
      has.told_are
          ∙ ap₂ (λ (l : List Timed) (m : List Found). l ++ told_of_all arrival two.ear m)
          (settled.told_are ∙ ap (λ l. l ++ told_ended one.ear) ready) found
          ∙ append-nil (told_ended one.ear),
      has.fed.heard ∙ ap (ear_after_all arrival two.ear) found ∙ settled.heard,
    )

-- ---- one call more

pub squitters_none : (before : Feeding) → squitters_in before [] ≡ []
unfolding squitters_in
squitters_none before = refl

module _ (one : Fed) where
  pub calls_fed : (before : Feeding) (calls : List Fed) → AreFed before calls
      → HasFed one.arrival (last_fed before calls) one.bytes one.found one.after → AreFed before (calls ++ one ∷ [])
  calls_fed before [] fed next = (next, tt)
  calls_fed before (first ∷ more) (fed, others) next = (fed, calls_fed first.after more others next)

  pub last_more : (before : Feeding) (calls : List Fed) → last_fed before (calls ++ one ∷ []) ≡ one.after
  last_more before [] = refl
  last_more before (first ∷ more) = last_more first.after more

  pub bytes_more : (calls : List Fed) → bytes_in (calls ++ one ∷ []) ≡ bytes_in calls ++ one.bytes
  bytes_more [] = append-nil one.bytes
  bytes_more (first ∷ more) =
      ap (λ l. first.bytes ++ l) (bytes_more more) ∙ sym (append_assoc first.bytes (bytes_in more) one.bytes)

  pub arrivals_more : (calls : List Fed) → arrivals_in (calls ++ one ∷ []) ≡ arrivals_in calls ++ one.arrival ∷ []
  arrivals_more [] = refl
  arrivals_more (first ∷ more) = ap (λ l. first.arrival ∷ l) (arrivals_more more)

  pub squitters_more : (before : Feeding) (calls : List Fed) → squitters_in before (calls ++ one ∷ [])
      ≡ squitters_in before calls ++ told_of_all one.arrival (last_fed before calls).ear one.found
  unfolding squitters_in
  squitters_more before [] = append-nil (told_of_all one.arrival before.ear one.found)
  squitters_more before (first ∷ more) =
      let own = told_of_all first.arrival before.ear first.found in
      ap (λ l. own ++ l) (squitters_more first.after more)
      ∙ sym (append_assoc own (squitters_in first.after more)
      (told_of_all one.arrival (last_fed first.after more).ear one.found))

-- one reading of a clock more
pub tells_more : {C : Type 0} (Told : C → ℕ → C → Type 0) (a b c : C) (moments : List ℕ) (moment : ℕ)
    → Tells Told a b moments → Told b moment c → Tells Told a c (moments ++ moment ∷ [])
tells_more Told a b c [] moment told one = (c, subst (λ d. Told d moment c) told one, refl)
tells_more Told a b c (first ∷ more) moment (next, is, told) one =
    (next, is, tells_more Told next b c more moment told one)
