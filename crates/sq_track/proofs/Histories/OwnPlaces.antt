-- The place of a result is a point of the grid of the message's kind and parity.
use Rattle.std.proofs.Common.{◌≡◌, inl, inr, Option, Some, None, Result, Ok, Err, sym, subst}
use Rattle.std.proofs.lemmas.Bool.{cases_eq}
use Rattle.sq_angle.specs.declared.position.Position.{Position}
use Rattle.sq_cpr.specs.Span.{air, ground}
use Rattle.sq_cpr.specs.Grid.{IsGridPoint}
use Rattle.sq_message.specs.declared.squitter.Me.{Me}
use Rattle.sq_message.specs.declared.squitter.Me.TheVariants as kinds
use Rattle.sq_message.specs.declared.squitter.Squitter.{Squitter}
use Rattle.sq_message.specs.declared.place.Place.{Place}
use Rattle.sq_message.specs.declared.place.Place.TheVariants.{Air, Ground}
use Rattle.sq_message.specs.declared.place.PlaceFault.{PlaceFault}
use Rattle.sq_message.specs.declared.place.PlaceFault.TheVariants as faults
use Rattle.sq_message.specs.Kinds.{InAir, OnGround, PositionOf}
use Rattle.sq_message.specs.Parts.{SquitterParts, squitter_parts}
use Rattle.sq_message.specs.Places.{IsLocalPlace, IsPairPlace, IsPairPlaceOf, IsPlaceOfOneAddress}
use Rattle.sq_message.proofs.PlaceLemmas.{both_positions, one_or_two}
use Rattle.sq_track.specs.declared.heard.Heard.{Heard}
use Rattle.sq_track.specs.declared.heard.Heard.TheVariants.{Fix, Followed, Waiting, Split}
use Rattle.sq_track.specs.History.{place_heard}
use Rattle.sq_track.specs.Answers.{IsHeardByKept, IsHeardNearPosition, IsHeardOfPair, LooksToFix, heard_alone, heard_near}
use Rattle.sq_track.specs.Answers.{heard_of_pair}
use Rattle.sq_track.proofs.Lists.Found.{none_is_some}

-- a point of the grid of the message's kind and parity
abbrev pub IsOwnPlace : Me → Place → Type 0
IsOwnPlace (kinds.Airborne a) (Air p) = IsGridPoint air p × (p.parity ≡ a.parity)
IsOwnPlace (kinds.Surface s) (Ground p) = IsGridPoint ground p × (p.parity ≡ s.parity)
IsOwnPlace me place = ⊥

abbrev pub IfPlace : Me → Result Place PlaceFault → Type 0
IfPlace me (Ok place) = IsOwnPlace me place
IfPlace me (Err fault) = Unit {0}

pub local_own : (me : Me) (r : Position) (answer : Result Place PlaceFault) → IsLocalPlace me r answer
    → IfPlace me answer
local_own (kinds.Airborne a) r answer (Ok p, h, is) =
    subst (IfPlace (kinds.Airborne a)) (sym is) (h.of_grid, h.of_parity)
local_own (kinds.Airborne a) r answer (Err fault, h, is) = subst (IfPlace (kinds.Airborne a)) (sym is) tt
local_own (kinds.Surface s) r answer (Ok p, h, is) =
    subst (IfPlace (kinds.Surface s)) (sym is) (h.of_grid, h.of_parity)
local_own (kinds.Surface s) r answer (Err fault, h, is) = subst (IfPlace (kinds.Surface s)) (sym is) tt
local_own (kinds.Other o) r answer is = subst (IfPlace (kinds.Other o)) (sym is) tt

air_own : (o n : PositionOf InAir) (site : Option Position) (answer : Result Place PlaceFault)
    → IsPairPlaceOf InAir o n site answer → IfPlace (kinds.Airborne n) answer
air_own o n site answer (Ok p, h, is) = subst (IfPlace (kinds.Airborne n)) (sym is) (h.of_grid, h.parity)
air_own o n site answer (Err fault, h, is) = subst (IfPlace (kinds.Airborne n)) (sym is) tt

ground_own : (o n : PositionOf OnGround) (site : Option Position) (answer : Result Place PlaceFault)
    → IsPairPlaceOf OnGround o n site answer → IfPlace (kinds.Surface n) answer
ground_own o n None answer is = subst (IfPlace (kinds.Surface n)) (sym is) tt
ground_own o n (Some s) answer (Ok p, h, is) =
    subst (IfPlace (kinds.Surface n)) (sym is) (h.of_pair.of_grid, h.of_pair.parity)
ground_own o n (Some s) answer (Err fault, h, is) = subst (IfPlace (kinds.Surface n)) (sym is) tt

one_address_own : (m n : Me) (site : Option Position) (answer : Result Place PlaceFault)
    → IsPlaceOfOneAddress m n site answer → IfPlace n answer
one_address_own (kinds.Airborne o) (kinds.Airborne n) site answer h = elim (one_or_two o.parity n.parity) [
  | inl same ↦ subst (IfPlace (kinds.Airborne n)) (sym (h.0 same)) tt
  | inr differ ↦ air_own o n site answer (h.1 differ)
]
one_address_own (kinds.Surface o) (kinds.Surface n) site answer h = elim (one_or_two o.parity n.parity) [
  | inl same ↦ subst (IfPlace (kinds.Surface n)) (sym (h.0 same)) tt
  | inr differ ↦ ground_own o n site answer (h.1 differ)
]
one_address_own (kinds.Airborne o) (kinds.Surface n) site answer is = subst (IfPlace (kinds.Surface n)) (sym is) tt
one_address_own (kinds.Surface o) (kinds.Airborne n) site answer is = subst (IfPlace (kinds.Airborne n)) (sym is) tt
one_address_own m n site answer h = absurd h

pair_own : (older newer : SquitterParts) (site : Option Position) (answer : Result Place PlaceFault)
    → IsPairPlace older newer site answer → IfPlace newer.me answer
pair_own older newer site answer h = elim (both_positions older.me newer.me) [
  | inr never ↦ subst (IfPlace newer.me) (sym (h.not_positions never)) tt
  | inl two ↦ elim (cases_eq older.address newer.address) [
    | inr differ ↦ subst (IfPlace newer.me) (sym (h.other_address two differ)) tt
    | inl same ↦ one_address_own older.me newer.me site answer (h.same_address two same)
  ]
]

abbrev pub IfHeardPlace : Me → Heard → Type 0
IfHeardPlace me (Fix place) = IsOwnPlace me place
IfHeardPlace me (Followed place) = IsOwnPlace me place
IfHeardPlace me heard = Unit {0}

of_answer : (me : Me) (answer : Result Place PlaceFault) → IfPlace me answer → IfHeardPlace me (heard_of_pair answer)
of_answer me (Ok place) h = h
of_answer me (Err faults.NotPosition) h = tt
of_answer me (Err faults.OtherAddress) h = tt
of_answer me (Err faults.OtherKind) h = tt
of_answer me (Err faults.SameParity) h = tt
of_answer me (Err faults.NoSite) h = tt
of_answer me (Err faults.OutOfRange) h = tt
of_answer me (Err (faults.ZoneCounts even odd)) h = tt

alone_own : (me m : Me) → IfHeardPlace me (heard_alone m)
alone_own me (kinds.Airborne a) = tt
alone_own me (kinds.Surface s) = tt
alone_own me (kinds.Other o) = tt

pub of_pair_own : (site : Option Position) (older : Option Squitter) (q : Squitter) (heard : Heard)
    → IsHeardOfPair site older q heard → IfHeardPlace (squitter_parts q).me heard
of_pair_own site None q heard is =
    subst (IfHeardPlace (squitter_parts q).me) (sym is) (alone_own (squitter_parts q).me (squitter_parts q).me)
of_pair_own site (Some older) q heard (answer, h, is) =
    subst (IfHeardPlace (squitter_parts q).me) (sym is) (of_answer (squitter_parts q).me answer
    (pair_own (squitter_parts older) (squitter_parts q) site answer h))

pub of_near : (me : Me) (of_pair : Heard) (answer : Result Place PlaceFault) → IfHeardPlace me of_pair
    → IfPlace me answer → IfHeardPlace me (heard_near of_pair answer)
of_near me of_pair (Ok place) h k = k
of_near me of_pair (Err fault) h k = h

near_own : (fix : Option Position) (q : Squitter) (of_pair heard : Heard)
    → IfHeardPlace (squitter_parts q).me of_pair → IsHeardNearPosition fix q of_pair heard
    → IfHeardPlace (squitter_parts q).me heard
near_own None q of_pair heard h is = subst (IfHeardPlace (squitter_parts q).me) (sym is) h
near_own (Some position) q of_pair heard h (answer, local, is) =
    let me = (squitter_parts q).me in
    subst (IfHeardPlace me) (sym is) (of_near me of_pair answer h (local_own me position answer local))

after_own : (fix : Option Position) (q : Squitter) (of_pair heard : Heard)
    → IfHeardPlace (squitter_parts q).me of_pair → LooksToFix (IsHeardNearPosition fix q) of_pair heard
    → IfHeardPlace (squitter_parts q).me heard
after_own fix q Waiting heard h is = near_own fix q Waiting heard h is
after_own fix q (Split even odd) heard h is = near_own fix q (Split even odd) heard h is
after_own fix q of_pair heard h is = subst (IfHeardPlace (squitter_parts q).me) (sym is) h

-- the place of a result by the stored state
pub kept_own : (site : Option Position) (older : Option Squitter) (fix : Option Position) (q : Squitter) (heard : Heard)
    → IsHeardByKept site older fix q heard → IfHeardPlace (squitter_parts q).me heard
kept_own site older fix q heard by =
    after_own fix q by.of_pair heard (of_pair_own site older q by.of_pair by.pair) by.after

pub place_own : (me : Me) (heard : Heard) (place : Place) → place_heard heard ≡ Some place → IfHeardPlace me heard
    → IsOwnPlace me place
place_own me (Fix p) place e h = subst (IsOwnPlace me) (cc e) h
place_own me (Followed p) place e h = subst (IsOwnPlace me) (cc e) h
place_own me heard place e h = none_is_some place e
