-- Only the entries of its own address matter for a squitter: entries of other addresses change nothing.
use Rattle.std.proofs.Common.{◌≡◌, ◌∙◌, ℕ, Bool, true, false, not, cond, List, [], ◌∷◌, find, filter, length, Option}
use Rattle.std.proofs.Common.{Some, is_some, Ok, refl, sym, ap, arith, subst}
use Rattle.std.proofs.lemmas.Bool.{and_parts, eq-eqb, eqb-true, true≢false}
use Rattle.sq_angle.specs.declared.position.Position.{Position}
use Rattle.sq_message.specs.declared.squitter.Squitter.{Squitter}
use Rattle.sq_message.specs.declared.place.Place.{Place}
use Rattle.sq_message.specs.Parts.{squitter_parts}
use Rattle.sq_track.specs.declared.heard.Heard.{Heard}
use Rattle.sq_track.specs.History.{Entry, History, are_of_one_sender, are_even_and_odd, are_a_pair, parity_of}
use Rattle.sq_track.specs.History.{if_recent, is_fix_of, counterpart, last_fix, place_heard, place_of, squitter_of}
use Rattle.sq_track.specs.Answers.{IsHeard, IsHeardWith}
use Rattle.sq_track.specs.Replies.{Settings, IsInTime, IsReply, IsHistory, is_of_address, newest_of_each, present}
use Rattle.sq_track.specs.Replies.{of_address}
use Rattle.sq_track.specs.Laws.{OneAddressAlone, AloneIsHistory, AcceptedAlone}
use Rattle.sq_track.proofs.Histories.Entries.{sender_parts}
use Rattle.sq_track.proofs.Lists.Filters.{filter-cons_yes, filter-cons_no, Each, Each-filter, Each-filter_pass}
use Rattle.sq_track.proofs.Table.Remembering.{still_in_time}

-- a search after a filter finds the same if all that it looks for passes the filter
find_within : {X : Type 0} (p q : X → Bool) → ((x : X) → p x ≡ true → q x ≡ true) → (xs : List X)
    → find p (filter q xs) ≡ find p xs
find_within p q weaker [] = refl
find_within p q weaker (x ∷ xs) = by (p x) (q x) refl refl (find_within p q weaker xs)
  where
    by : (b c : Bool) → p x ≡ b → q x ≡ c → find p (filter q xs) ≡ find p xs
        → find p (filter q (x ∷ xs)) ≡ find p (x ∷ xs)
    by b true e f rest = ap (find p) (filter-cons_yes q x xs f) ∙ ap (λ o. cond (p x) (Some x) o) rest
    by true false e f rest = absurd (true≢false (sym (weaker x e) ∙ f))
    by false false e f rest = ap (find p) (filter-cons_no q x xs f) ∙ rest
        ∙ sym (ap (λ b. cond b (Some x) (find p xs)) e)

-- an entry of the same sender is one of the address
of_sender : (q : Squitter) (entry : Entry) → are_of_one_sender entry.squitter q ≡ true
    → is_of_address (squitter_parts q).address entry ≡ true
of_sender q entry e = eq-eqb (squitter_parts entry.squitter).address (squitter_parts q).address
    (sender_parts entry.squitter q e).0

module _ (window : ℕ) (history : History) (moment : ℕ) (q : Squitter) where
  abbrev alone : History
  alone = of_address (squitter_parts q).address history

  counterpart_alone : counterpart window alone moment q ≡ counterpart window history moment q
  counterpart_alone = ap (λ o. squitter_of (if_recent window moment o))
      (find_within (λ entry. are_a_pair entry.squitter q) (is_of_address (squitter_parts q).address)
      (λ entry e. of_sender q entry
      (and_parts (are_of_one_sender entry.squitter q)
      (are_even_and_odd (parity_of (squitter_parts entry.squitter).me)
      (parity_of (squitter_parts q).me)) e).0) history)

  last_fix_alone : last_fix window alone moment q ≡ last_fix window history moment q
  last_fix_alone = ap (λ o. place_of (if_recent window moment o))
      (find_within (is_fix_of q) (is_of_address (squitter_parts q).address)
      (λ entry e. of_sender q entry
      (and_parts (are_of_one_sender entry.squitter q) (is_some (place_heard entry.heard)) e).0) history)

  pub heard_alone : (site : Option Position) (heard : Heard) → IsHeard window site history moment q heard
      → IsHeard window site alone moment q heard
  heard_alone site heard h =
      subst (λ (o : Option Squitter). IsHeardWith site o (last_fix window alone moment q) q heard)
      (sym counterpart_alone)
      (subst (λ (o : Option Place). IsHeardWith site (counterpart window history moment q) o q heard)
      (sym last_fix_alone) h)

  pub heard_with_all : (site : Option Position) (heard : Heard) → IsHeard window site alone moment q heard
      → IsHeard window site history moment q heard
  heard_with_all site heard h =
      subst (λ (o : Option Squitter). IsHeardWith site o (last_fix window history moment q) q heard) counterpart_alone
      (subst (λ (o : Option Place). IsHeardWith site (counterpart window alone moment q) o q heard) last_fix_alone h)

pub one_address_alone : OneAddressAlone
one_address_alone window site history moment q heard =
    (heard_alone window history moment q site heard, heard_with_all window history moment q site heard)

-- ---- the entries of an address are a history

-- a timestamp in time for the whole history is in time for the address
in_time_alone : (s : Settings) (p : Entry → Bool) (h : History) (m : ℕ) → IsHistory s h → IsInTime h m
    → IsInTime (filter p h) m
in_time_alone s p [] m accepted in_time = tt
in_time_alone s p (entry ∷ earlier) m accepted in_time =
    by (p entry) refl (in_time_alone s p earlier m accepted.1
    (still_in_time earlier entry.moment m accepted.0.0.in_time in_time))
  where
    by : (b : Bool) → p entry ≡ b → IsInTime (filter p earlier) m → IsInTime (filter p (entry ∷ earlier)) m
    by true e rest = subst (λ h. IsInTime h m) (sym (filter-cons_yes p entry earlier e)) in_time
    by false e rest = subst (λ h. IsInTime h m) (sym (filter-cons_no p entry earlier e)) rest

newest_of : (P : Entry → Type 0) (h : History) → Each P h → Each P (newest_of_each h)
newest_of P [] each = tt
newest_of P (entry ∷ earlier) each = (
  each.0,
  Each-filter P (λ other. not (is_of_address (squitter_parts entry.squitter).address other))
      (newest_of_each earlier) (newest_of P earlier each.1),
)

none_passes : (p : Entry → Bool) (h : History) → Each (λ entry. p entry ≡ true) h
    → filter (λ entry. not (p entry)) h ≡ []
none_passes p [] each = refl
none_passes p (entry ∷ earlier) each =
    filter-cons_no (λ entry. not (p entry)) entry earlier (ap not each.0) ∙ none_passes p earlier each.1

-- among the entries of an address, no other address is present
no_others : (window m a : ℕ) (h : History)
    → filter (λ entry. not (is_of_address a entry)) (present window m (of_address a h)) ≡ []
no_others window m a h = none_passes (is_of_address a) (present window m (of_address a h))
    (newest_of (λ entry. is_of_address a entry ≡ true) _
    (Each-filter (λ entry. is_of_address a entry ≡ true) _ (of_address a h) (Each-filter_pass (is_of_address a) h)))

pub accepted_alone : AcceptedAlone
accepted_alone s h m q heard limit accepted reply = (
  record {
    in_time = in_time_alone s (is_of_address (squitter_parts q).address) h m accepted reply.0.in_time;
    room = λ full. absurd (omega (
      arith,
      limit,
      full.others,
      ap length (no_others s.window m (squitter_parts q).address h),
    ));
  },
  heard_alone s.window h m q s.site heard reply.1,
)

pub alone_is_history : AloneIsHistory
alone_is_history s [] a limit accepted = tt
alone_is_history s (entry ∷ earlier) a limit accepted =
    by (is_of_address a entry) refl (alone_is_history s earlier a limit accepted.1)
  where
    by : (b : Bool) → is_of_address a entry ≡ b → IsHistory s (of_address a earlier)
        → IsHistory s (of_address a (entry ∷ earlier))
    by true e rest =
        let same : (squitter_parts entry.squitter).address ≡ a = eqb-true (squitter_parts entry.squitter).address a e in
        let reply = subst (λ b. IsReply s (of_address b earlier) entry.moment entry.squitter (Ok entry.heard)) same
        (accepted_alone s earlier entry.moment entry.squitter entry.heard limit accepted.1 accepted.0) in
        subst (IsHistory s) (sym (filter-cons_yes (is_of_address a) entry earlier e)) (reply, rest)
    by false e rest = subst (IsHistory s) (sym (filter-cons_no (is_of_address a) entry earlier e)) rest
