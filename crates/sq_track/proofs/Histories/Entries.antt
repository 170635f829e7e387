-- The entries of a history that are found as the counterpart and as the last fix.
use Rattle.std.proofs.Common.{◌≡◌, ◌∙◌, ℕ, ◌+◌, ◌≤◌, Bool, true, false, cond, leb, eqb, [], ◌∷◌, Option, Some, None}
use Rattle.std.proofs.Common.{Contains, refl, sym, ap, subst, arith}
use Rattle.std.specs.List.{AllByRecursion}
use Rattle.std.proofs.lemmas.Bool.{false≢true, leb-true, eqb-true, eq-eqb, and_parts, and_from}
use Rattle.std.proofs.lemmas.List.Elements.{All-contains_itself, All-weaker, recursion_from_All}
use Rattle.sq_angle.specs.declared.position.Position.{Position}
use Rattle.sq_message.specs.declared.squitter.Me.{Me}
use Rattle.sq_message.specs.declared.squitter.Me.TheVariants as kinds
use Rattle.sq_message.specs.declared.squitter.Squitter.{Squitter}
use Rattle.sq_message.specs.Parts.{squitter_parts}
use Rattle.sq_track.specs.History.{Entry, History, are_of_one_kind, are_of_one_sender, if_recent}
use Rattle.sq_track.specs.Answers.{IsHeard}
use Rattle.sq_track.specs.Replies.{Settings, IsInTime, IsHistory}
use Rattle.sq_track.specs.Worlds.{Arrival, World, IsEntryOf, ArisesFrom}
use Rattle.sq_track.specs.Tame.{AreTogether}
use Rattle.sq_track.proofs.Lists.Found.{none_is_some, same_some, each_weaker}

-- the entry is of an arrival of the world
abbrev pub Arrived : World → Entry → Type 0
Arrived world entry = (arrival : Arrival) × Contains world arrival × IsEntryOf arrival entry

-- the entry is of an arrival of the world, at or before the timestamp
abbrev pub IsKnown : World → ℕ → Entry → Type 0
IsKnown world moment entry = (arrival : Arrival) × Contains world arrival × IsEntryOf arrival entry
    × (entry.moment ≤ moment)

-- each entry is in time, and has its result, by the earlier ones
abbrev pub IsChain : (window : ℕ) → Option Position → History → Type 0
IsChain window site [] = Unit {0}
IsChain window site (entry ∷ earlier) =
    IsInTime earlier entry.moment × IsHeard window site earlier entry.moment entry.squitter entry.heard
    × IsChain window site earlier

pub chain_of : (s : Settings) (history : History) → IsHistory s history → IsChain s.window s.site history
chain_of s [] h = tt
chain_of s (entry ∷ earlier) h = (h.0.0.in_time, h.0.1, chain_of s earlier h.1)

pub each_arrived : (world : World) (history : History) → ArisesFrom world history
    → AllByRecursion (Arrived world) history
each_arrived world history h = recursion_from_All (Arrived world) history
    (All-weaker (Contains history) (Arrived world) h history (All-contains_itself history))

pub each_known : (window : ℕ) (site : Option Position) (world : World) (history : History) (moment : ℕ)
    → IsChain window site history → AllByRecursion (Arrived world) history → IsInTime history moment
    → AllByRecursion (IsKnown world moment) history
each_known window site world [] moment accepted arrived in_time = tt
each_known window site world (entry ∷ earlier) moment accepted arrived in_time = (
  (arrived.0.0, arrived.0.1, arrived.0.2, in_time),
  each_weaker (IsKnown world entry.moment) (IsKnown world moment) earlier
      (λ e k. (k.0, k.1, k.2, omega (arith, k.3, in_time)))
      (each_known window site world earlier entry.moment accepted.2 arrived.1 accepted.0),
)

-- a recent entry, and its timestamp
pub recent_is : (window moment : ℕ) (o : Option Entry) (entry : Entry) → if_recent window moment o ≡ Some entry
    → (o ≡ Some entry) × (moment ≤ entry.moment + window)
recent_is window moment None entry e = none_is_some entry e
recent_is window moment (Some x) entry e = by (leb moment (x.moment + window)) refl
  where
    by : (b : Bool) → leb moment (x.moment + window) ≡ b → (Some x ≡ Some entry) × (moment ≤ entry.moment + window)
    by true f =
        let same : x ≡ entry = same_some x entry (sym (ap (λ b. cond b (Some x) None) f) ∙ e) in
        (ap Some same, subst (λ (y : Entry). moment ≤ y.moment + window) same (leb-true moment (x.moment + window) f))
    by false f = none_is_some entry (sym (ap (λ b. cond b (Some x) None) f) ∙ e)

kind_sym : (m n : Me) → are_of_one_kind m n ≡ true → are_of_one_kind n m ≡ true
kind_sym (kinds.Airborne a) (kinds.Airborne b) e = refl
kind_sym (kinds.Surface a) (kinds.Surface b) e = refl
kind_sym m n e = absurd (false≢true e)

-- squitters of one sender have the same address and kind
pub sender_parts : (q r : Squitter) → are_of_one_sender q r ≡ true
    → ((squitter_parts q).address ≡ (squitter_parts r).address)
    × (are_of_one_kind (squitter_parts q).me (squitter_parts r).me ≡ true)
sender_parts q r e =
    let p = and_parts (eqb (squitter_parts q).address (squitter_parts r).address)
    (are_of_one_kind (squitter_parts q).me (squitter_parts r).me) e in
    (eqb-true (squitter_parts q).address (squitter_parts r).address p.0, p.1)

pub sender_sym : (q r : Squitter) → are_of_one_sender q r ≡ true → are_of_one_sender r q ≡ true
sender_sym q r e =
    let p = sender_parts q r e in
    and_from (eqb (squitter_parts r).address (squitter_parts q).address)
    (are_of_one_kind (squitter_parts r).me (squitter_parts q).me)
    (eq-eqb (squitter_parts r).address (squitter_parts q).address (sym p.0))
    (kind_sym (squitter_parts q).me (squitter_parts r).me p.1)

pub together_sym : (window : ℕ) (a b : Arrival) → AreTogether window a b → AreTogether window b a
together_sym window a b h = record {
  sender = sender_sym a.squitter b.squitter h.sender;
  not_before = h.not_after;
  not_after = h.not_before;
}

-- a recent entry of the same sender comes together with the present arrival
pub together : (window : ℕ) (a b : Arrival) (entry : Entry) → IsEntryOf a entry
    → are_of_one_sender entry.squitter b.squitter ≡ true
    → entry.moment ≤ b.moment → b.moment ≤ entry.moment + window → AreTogether window a b
together window a b entry is sender before recent = record {
  sender = subst (λ (q : Squitter). are_of_one_sender q b.squitter ≡ true) is.squitter sender;
  not_before = omega (arith, is.moment, before);
  not_after = omega (arith, is.moment, recent);
}
