-- How places and their errors follow from the results of the decoders.
use Rattle.std.proofs.Common.{◌≡◌, ◌≢◌, ◌⊎◌, Option, Some, None, Result, Ok, Err, inl, inr, refl, sym, ap, subst}
use Rattle.std.proofs.lemmas.Bool.Decides.{eqb_tells}
use Rattle.sq_angle.specs.declared.position.Position.{Position}
use Rattle.sq_angle.specs.Angle.{degrees}
use Rattle.sq_angle.specs.Position.{lat_of, lon_of}
use Rattle.sq_zones.specs.declared.parity.Parity.{Parity}
use Rattle.sq_zones.specs.declared.parity.Parity.TheVariants.{Even, Odd}
use Rattle.sq_cpr.specs.declared.code.Code.{Code}
use Rattle.sq_cpr.specs.Code.{CodeNumbers, numbers_of}
use Rattle.sq_cpr.specs.Span.{Span, ground}
use Rattle.sq_cpr.specs.Grid.{Point, IsGridPoint, HasCode, code_of}
use Rattle.sq_cpr.specs.Local.{LocalAnswerNear}
use Rattle.sq_cpr.specs.Pair.{of_parity, AirPairAnswer, PairAnswerAt}
use Rattle.sq_cpr.proofs.Grids.Codes.{one_code}
use Rattle.sq_cpr.proofs.Decoding.PairPoints.{pair_keeps_code, air_pair_keeps_code}
use Rattle.sq_message.specs.declared.squitter.Me.{Me}
use Rattle.sq_message.specs.declared.squitter.Me.TheVariants as kinds
use Rattle.sq_message.specs.declared.place.Place.{Place}
use Rattle.sq_message.specs.declared.place.Place.TheVariants.{Air, Ground}
use Rattle.sq_message.specs.declared.place.PlaceFault.{PlaceFault}
use Rattle.sq_message.specs.Kinds.{Kind, InAir, OnGround, PositionOf, me_at, place_at, span_of}
use Rattle.sq_message.specs.Parts.{SquitterParts}
use Rattle.sq_message.specs.Places.{place_of, of_local, of_pair, pair_by_parity, IsDecoded, IsPosition, IsLocalPlace}
use Rattle.sq_message.specs.Places.{IsLocalPlaceOf, IsPairPlace, IsPairPlaceOf, IsPlaceOfOneAddress, IsPlaceOfOneKind}

-- ---- places and points

-- a place is not an error
pub no_fault : {X : Type 0} (place : Place) (fault : PlaceFault)
    → ◌≡◌ {A = Result Place PlaceFault} (Ok place) (Err fault) → X
no_fault place fault e = absurd (cc e)

-- a result that is a place of the kind comes from the place's point
placed : {F : Type 0} (kind : Kind) (named : F → PlaceFault) (found : Result Point F) (point : Point)
    → ◌≡◌ {A = Result Place PlaceFault} (Ok (place_at kind point)) (place_of (place_at kind) named found)
    → found ≡ Ok point
placed InAir named (Ok q) p e = let same : q ≡ p = cc (sym e) in ap Ok same
placed OnGround named (Ok q) p e = let same : q ≡ p = cc (sym e) in ap Ok same
placed kind named (Err f) p e = no_fault (place_at kind p) (named f) e

-- ---- pairs

-- a message is a position or it is not
positions : (me : Me) → IsPosition me ⊎ (¬ (IsPosition me))
positions (kinds.Airborne a) = inl tt
positions (kinds.Surface s) = inl tt
positions (kinds.Other o) = inr (λ x. x)

-- squitters of a pair are both positions, or they are not
pub both_positions : (older newer : Me)
    → (IsPosition older × IsPosition newer) ⊎ (¬ (IsPosition older × IsPosition newer))
both_positions older newer = elim (positions older) [
  | inl a ↦ elim (positions newer) [
    | inl b ↦ inl (a, b)
    | inr other ↦ inr (λ (x : IsPosition older × IsPosition newer). other x.1)
  ]
  | inr other ↦ inr (λ (x : IsPosition older × IsPosition newer). other x.0)
]

-- a pair without the first two errors: both squitters are positions of one address
pub record IsPast (older newer : SquitterParts) : Type 0 where
  pub positions : IsPosition older.me × IsPosition newer.me
  pub address : older.address ≡ newer.address

-- a pair is without the first two errors, or every result is one error
pub past_or_fault : (older newer : SquitterParts) (site : Option Position)
    → IsPast older newer ⊎ ((fault : PlaceFault)
    × ((answer : Result Place PlaceFault) → IsPairPlace older newer site answer → answer ≡ Err fault))
past_or_fault older newer site = elim (both_positions older.me newer.me) [
  | inl both ↦ elim (eqb_tells older.address newer.address) [
    | inl same ↦ inl (record { positions = both; address = same.1 })
    | inr other ↦ inr (_, λ answer h. h.other_address both other.1)
  ]
  | inr neither ↦ inr (_, λ answer h. h.not_positions neither)
]

-- a pair with a place is without the first two errors
pub past : (older newer : SquitterParts) (site : Option Position) (place : Place)
    → IsPairPlace older newer site (Ok place) → IsPast older newer
past older newer site place h = elim (past_or_fault older newer site) [
  | inl here ↦ here
  | inr refused ↦ no_fault place refused.0 (refused.1 (Ok place) h)
]

-- two parities are the same or different
pub one_or_two : (p q : Parity) → (p ≡ q) ⊎ (p ≢ q)
one_or_two Even Even = inl refl
one_or_two Even Odd = inr (λ (e : ◌≡◌ {A = Parity} Even Odd). absurd (cc e))
one_or_two Odd Even = inr (λ (e : ◌≡◌ {A = Parity} Odd Even). absurd (cc e))
one_or_two Odd Odd = inl refl

-- ---- decoded points

-- a point of the grid, with this parity and code
pub record IsPointOf (span : Span) (code : CodeNumbers) (parity : Parity) (point : Point) : Type 0 where
  pub of_grid : IsGridPoint span point
  pub of_parity : point.parity ≡ parity
  pub has_code : HasCode point code

-- the newest of an even and an odd code is the newer one
newest_code : (newest : Parity) (older newer : Code)
    → of_parity newest (pair_by_parity newest older newer).even (pair_by_parity newest older newer).odd
    ≡ numbers_of newer
newest_code Even older newer = refl
newest_code Odd older newer = refl

-- a point decoded from two positions of one kind and different parities has the newer code and parity
pair_point : (kind : Kind) (older newer : PositionOf kind) (site : Option Position) (p : Point)
    → IsPairPlaceOf kind older newer site (Ok (place_at kind p))
    → IsPointOf (span_of kind) (numbers_of newer.code) newer.parity p
pair_point InAir older newer site p (found, decoded, is) =
    let codes = pair_by_parity newer.parity older.code newer.code in
    let here = subst (AirPairAnswer codes) (placed InAir of_pair found p is) decoded in
    record {
      of_grid = here.of_grid;
      of_parity = here.parity;
      has_code = subst (HasCode p) (newest_code newer.parity older.code newer.code)
          (air_pair_keeps_code codes p here).1;
    }
pair_point OnGround older newer None p h = no_fault (Ground p) _ h
pair_point OnGround older newer (Some site) p (found, decoded, is) =
    let codes = pair_by_parity newer.parity older.code newer.code in
    let here = subst (PairAnswerAt ground codes site) (placed OnGround of_pair found p is) decoded in
    record {
      of_grid = here.of_pair.of_grid;
      of_parity = here.of_pair.parity;
      has_code = subst (HasCode p) (newest_code newer.parity older.code newer.code)
          (pair_keeps_code ground codes (degrees (lat_of site)) (degrees (lon_of site)) p here).1;
    }

kind_point : (kind : Kind) (older newer : PositionOf kind) (site : Option Position) (p : Point)
    → IsPlaceOfOneKind kind older newer site (Ok (place_at kind p))
    → IsPointOf (span_of kind) (numbers_of newer.code) newer.parity p
kind_point kind older newer site p h = elim (one_or_two older.parity newer.parity) [
  | inl same ↦ no_fault (place_at kind p) _ (h.0 same)
  | inr differ ↦ pair_point kind older newer site p (h.1 differ)
]

-- a point decoded from two positions of one address has the newer code and parity
one_address_point : (kind : Kind) (older : Me) (newer : PositionOf kind) (site : Option Position) (p : Point)
    → IsPlaceOfOneAddress older (me_at kind newer) site (Ok (place_at kind p))
    → IsPointOf (span_of kind) (numbers_of newer.code) newer.parity p
one_address_point InAir (kinds.Airborne older) newer site p h = kind_point InAir older newer site p h
one_address_point InAir (kinds.Surface older) newer site p h = no_fault (Air p) _ h
one_address_point InAir (kinds.Other older) newer site p h = absurd h
one_address_point OnGround (kinds.Airborne older) newer site p h = no_fault (Ground p) _ h
one_address_point OnGround (kinds.Surface older) newer site p h = kind_point OnGround older newer site p h
one_address_point OnGround (kinds.Other older) newer site p h = absurd h

-- the result of decoding a position of the kind near a reference
pub local_of : (kind : Kind) (position : PositionOf kind) (reference : Position) (answer : Result Place PlaceFault)
    → IsLocalPlace (me_at kind position) reference answer → IsLocalPlaceOf kind position reference answer
local_of InAir position reference answer h = h
local_of OnGround position reference answer h = h

-- a point decoded from a squitter has the squitter's code and parity
pub decoded_point : (kind : Kind) (squitter : SquitterParts) (position : PositionOf kind) (p : Point)
    → squitter.me ≡ me_at kind position → IsDecoded squitter (place_at kind p)
    → IsPointOf (span_of kind) (numbers_of position.code) position.parity p
decoded_point kind squitter position p is (inl (reference, h)) =
    let (found, decoded, is_place) = local_of kind position reference (Ok (place_at kind p))
    (subst (λ me. IsLocalPlace me reference (Ok (place_at kind p))) is h) in
    let here = subst (LocalAnswerNear (span_of kind) (numbers_of position.code) position.parity reference)
    (placed kind of_local found p is_place) decoded in
    record { of_grid = here.of_grid; of_parity = here.of_parity; has_code = here.has_code }
decoded_point kind squitter position p is (inr (older, site, h)) =
    let here = past older squitter site (place_at kind p) h in
    one_address_point kind older.me position site p
    (subst (λ me. IsPlaceOfOneAddress older.me me site (Ok (place_at kind p))) is
    (h.same_address here.positions here.address))

-- ---- codes

-- a point has no code but its own
pub own_code : (point : Point) (code : Code) → HasCode point (numbers_of code) → numbers_of code ≡ code_of point
own_code point code h = sym ((one_code point (numbers_of code)).0 (h, code.lat_below, code.lon_below))

pub has_code : (point : Point) (code : Code) → numbers_of code ≡ code_of point → HasCode point (numbers_of code)
has_code point code is = ((one_code point (numbers_of code)).1 (sym is)).0
