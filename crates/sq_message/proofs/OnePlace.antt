-- Decoding squitters has exactly one result: one place or one error.
use Rattle.std.proofs.Common.{◌≡◌, ◌∙◌, Option, Some, None, Result, ap, inl, inr, refl, sym, Err}
use Rattle.sq_angle.specs.declared.position.Position.{Position}
use Rattle.sq_angle.specs.Angle.{degrees}
use Rattle.sq_angle.specs.Position.{lat_of, lon_of}
use Rattle.sq_cpr.specs.Code.{numbers_of}
use Rattle.sq_cpr.specs.Span.{ground}
use Rattle.sq_cpr.proofs.Decoding.NearLaw.{one_local_answer}
use Rattle.sq_cpr.proofs.Decoding.PairLaw.{one_pair_answer}
use Rattle.sq_cpr.proofs.Decoding.AirLaw.{one_air_pair_answer}
use Rattle.sq_message.specs.declared.squitter.Me.{Me}
use Rattle.sq_message.specs.declared.squitter.Me.TheVariants as kinds
use Rattle.sq_message.specs.declared.place.Place.{Place}
use Rattle.sq_message.specs.declared.place.Place.TheVariants.{Air, Ground}
use Rattle.sq_message.specs.declared.place.PlaceFault.{PlaceFault}
use Rattle.sq_message.specs.Kinds.{Kind, InAir, OnGround, PositionOf, place_at, span_of}
use Rattle.sq_message.specs.Parts.{squitter_parts}
use Rattle.sq_message.specs.Places.{place_of, of_local, of_pair, pair_by_parity, IsLocalPlace, IsLocalPlaceOf}
use Rattle.sq_message.specs.Places.{IsPairPlaceOf, IsPlaceOfOneAddress, IsPlaceOfOneKind, IsPosition}
use Rattle.sq_message.specs.Headline.{OneLocalPlace, OnePairPlace, SomeLocalPlace, SomePairPlace}
use Rattle.sq_message.proofs.PlaceLemmas.{one_or_two, past_or_fault, both_positions}
use Rattle.sq_message.proofs.SameZones.{fits}
use Rattle.std.proofs.lemmas.Bool.Decides.{eqb_tells}
use Rattle.sq_cpr.proofs.Decoding.SomeAnswers.{some_air_pair_answer, some_local_answer, some_pair_answer}
use Rattle.sq_message.specs.declared.place.PlaceFault.TheVariants.{NotPosition, OtherAddress, OtherKind, SameParity}
use Rattle.sq_message.specs.declared.place.PlaceFault.TheVariants.{NoSite}

one_local_of : (kind : Kind) (position : PositionOf kind) (reference : Position) (x y : Result Place PlaceFault)
    → IsLocalPlaceOf kind position reference x → IsLocalPlaceOf kind position reference y → x ≡ y
one_local_of kind position reference x y (found, h, is) (other, k, be) =
    let same = one_local_answer (span_of kind) (fits kind) (numbers_of position.code) position.parity
    (degrees (lat_of reference)) (degrees (lon_of reference)) found other
    reference.lat.in_range.positive reference.lon.in_range.positive h k in
    is ∙ ap (place_of (place_at kind) of_local) same ∙ sym be

one_near : (me : Me) (reference : Position) (x y : Result Place PlaceFault) → IsLocalPlace me reference x
    → IsLocalPlace me reference y → x ≡ y
one_near (kinds.Airborne a) reference x y h k = one_local_of InAir a reference x y h k
one_near (kinds.Surface s) reference x y h k = one_local_of OnGround s reference x y h k
one_near (kinds.Other o) reference x y h k = h ∙ sym k

pub one_local_place : OneLocalPlace
one_local_place q reference x y h k = one_near q.me reference x y h k

one_pair_of : (kind : Kind) (o n : PositionOf kind) (site : Option Position) (x y : Result Place PlaceFault)
    → IsPairPlaceOf kind o n site x → IsPairPlaceOf kind o n site y → x ≡ y
one_pair_of InAir o n site x y (found, h, is) (other, k, be) =
    let codes = pair_by_parity n.parity o.code n.code in
    is ∙ ap (place_of Air of_pair) (one_air_pair_answer codes found other h k) ∙ sym be
one_pair_of OnGround o n None x y h k = h ∙ sym k
one_pair_of OnGround o n (Some site) x y (found, h, is) (other, k, be) =
    let codes = pair_by_parity n.parity o.code n.code in
    let same = one_pair_answer ground refl codes (degrees (lat_of site)) (degrees (lon_of site)) found other
    site.lat.in_range.positive site.lon.in_range.positive h k in
    is ∙ ap (place_of Ground of_pair) same ∙ sym be

-- at most one result for equal parities, and for different ones
one_of_kind : (kind : Kind) (o n : PositionOf kind) (site : Option Position) (x y : Result Place PlaceFault)
    → IsPlaceOfOneKind kind o n site x → IsPlaceOfOneKind kind o n site y → x ≡ y
one_of_kind kind o n site x y h k = elim (one_or_two o.parity n.parity) [
  | inl same ↦ h.0 same ∙ sym (k.0 same)
  | inr differ ↦ one_pair_of kind o n site x y (h.1 differ) (k.1 differ)
]

one_of_address : (m n : Me) (site : Option Position) (x y : Result Place PlaceFault) → IsPlaceOfOneAddress m n site x
    → IsPlaceOfOneAddress m n site y → x ≡ y
one_of_address (kinds.Airborne o) (kinds.Airborne n) site x y h k = one_of_kind InAir o n site x y h k
one_of_address (kinds.Surface o) (kinds.Surface n) site x y h k = one_of_kind OnGround o n site x y h k
one_of_address (kinds.Airborne o) (kinds.Surface n) site x y h k = h ∙ sym k
one_of_address (kinds.Surface o) (kinds.Airborne n) site x y h k = h ∙ sym k
one_of_address m n site x y h k = absurd h

pub one_pair_place : OnePairPlace
one_pair_place older newer site x y h k = elim (past_or_fault (squitter_parts older) (squitter_parts newer) site) [
  | inl here ↦ one_of_address older.me newer.me site x y (h.same_address here.positions here.address)
      (k.same_address here.positions here.address)
  | inr refused ↦ refused.1 x h ∙ sym (refused.1 y k)
]

some_local_of : (kind : Kind) (position : PositionOf kind) (reference : Position)
    → (answer : Result Place PlaceFault) × IsLocalPlaceOf kind position reference answer
some_local_of kind position reference =
    let found = some_local_answer (span_of kind) (fits kind) (numbers_of position.code) position.parity
    (degrees (lat_of reference)) (degrees (lon_of reference))
    reference.lat.in_range.positive reference.lon.in_range.positive in
    (place_of (place_at kind) of_local found.0, (found.0, found.1, refl))

pub some_local : (me : Me) (reference : Position)
    → (answer : Result Place PlaceFault) × IsLocalPlace me reference answer
some_local (kinds.Airborne a) reference = some_local_of InAir a reference
some_local (kinds.Surface s) reference = some_local_of OnGround s reference
some_local (kinds.Other o) reference = (Err NotPosition, refl)

pub some_local_place : SomeLocalPlace
some_local_place q reference = some_local q.me reference

some_pair_of : (kind : Kind) (o n : PositionOf kind) (site : Option Position)
    → (answer : Result Place PlaceFault) × IsPairPlaceOf kind o n site answer
some_pair_of InAir o n site =
    let found = some_air_pair_answer (pair_by_parity n.parity o.code n.code) in
    (place_of Air of_pair found.0, (found.0, found.1, refl))
some_pair_of OnGround o n None = (Err NoSite, refl)
some_pair_of OnGround o n (Some site) =
    let found = some_pair_answer ground refl (pair_by_parity n.parity o.code n.code)
    (degrees (lat_of site)) (degrees (lon_of site)) site.lat.in_range.positive site.lon.in_range.positive in
    (place_of Ground of_pair found.0, (found.0, found.1, refl))

-- some result: an error for equal parities, and that of the codes for different ones
some_of_kind : (kind : Kind) (o n : PositionOf kind) (site : Option Position)
    → (answer : Result Place PlaceFault) × IsPlaceOfOneKind kind o n site answer
some_of_kind kind o n site = elim (one_or_two o.parity n.parity) [
  | inl same ↦ (Err SameParity, (λ _. refl, λ differ. absurd (differ same)))
  | inr differ ↦
      let some = some_pair_of kind o n site in
      (some.0, (λ same. absurd (differ same), λ _. some.1))
]

some_of_address : (m n : Me) (site : Option Position) → IsPosition m → IsPosition n
    → (answer : Result Place PlaceFault) × IsPlaceOfOneAddress m n site answer
some_of_address (kinds.Airborne o) (kinds.Airborne n) site p q = some_of_kind InAir o n site
some_of_address (kinds.Surface o) (kinds.Surface n) site p q = some_of_kind OnGround o n site
some_of_address (kinds.Airborne o) (kinds.Surface n) site p q = (Err OtherKind, refl)
some_of_address (kinds.Surface o) (kinds.Airborne n) site p q = (Err OtherKind, refl)
some_of_address (kinds.Airborne o) (kinds.Other n) site p q = absurd q
some_of_address (kinds.Surface o) (kinds.Other n) site p q = absurd q
some_of_address (kinds.Other o) n site p q = absurd p

pub some_pair_place : SomePairPlace
some_pair_place older newer site = elim (both_positions older.me newer.me) [
  | inr neither ↦ (
    Err NotPosition,
    record {
      not_positions = λ _. refl;
      other_address = λ both differ. absurd (neither both);
      same_address = λ both same. absurd (neither both);
    },
  )
  | inl both ↦ elim (eqb_tells older.address newer.address) [
    | inr differ ↦ (
      Err OtherAddress,
      record {
        not_positions = λ no. absurd (no both);
        other_address = λ _ _. refl;
        same_address = λ _ same. absurd (differ.1 same);
      },
    )
    | inl same ↦
        let some = some_of_address older.me newer.me site both.0 both.1 in (
          some.0,
          record {
            not_positions = λ no. absurd (no both);
            other_address = λ _ differ. absurd (differ same.1);
            same_address = λ _ _. some.1;
          },
        )
  ]
]
