-- Arrivals in numbers, of either kind: their places, their senders, how far apart they are, and that they exist.
use Rattle.std.proofs.Common.{◌≡◌, ◌≢◌, ◌∙◌, ◌∷◌, [], ℕ, ◌+◌, ◌≤◌, ◌<◌, ◌^◌, true, Some, arith, refl, sym, ap, subst}
use Rattle.std.proofs.Common.{eq-eqb}
use Rattle.std.specs.Prelude.{max, min}
use Rattle.std.proofs.lemmas.Bool.{and_from}
use Rattle.sq_angle.specs.Bounds.{IsAngle, IsPosition}
use Rattle.sq_angle.specs.Fraction.{Fraction}
use Rattle.sq_angle.specs.declared.position.Position.{Position}
use Rattle.sq_zones.specs.declared.parity.Parity.{Parity}
use Rattle.sq_zones.specs.declared.parity.Parity.TheVariants.{Even, Odd}
use Rattle.sq_cpr.specs.Span.{Span}
use Rattle.sq_cpr.specs.declared.code.Code.{Code}
use Rattle.sq_cpr.specs.Code.{numbers_of}
use Rattle.sq_cpr.specs.Grid.{Point, code_of}
use Rattle.sq_cpr.specs.Rounds.{PositionRoundsTo}
use Rattle.sq_cpr.specs.Slow.{AreSlow, AreSlowForFollowing, AreWithin, DifferByLess, DifferByLessAround}
use Rattle.sq_cpr.specs.Slow.{following_limit, slow_limit}
use Rattle.sq_angle.specs.Fraction.{whole}
use Rattle.sq_message.specs.declared.place.Place.TheVariants.{Air, Ground}
use Rattle.sq_message.specs.Kinds.{HeadParts, InAir, Kind, OnGround, me_of, place_at, span_of}
use Rattle.sq_message.specs.Parts.{squitter_parts}
use Rattle.sq_message.specs.Places.{IsAt}
use Rattle.sq_track.specs.History.{Entry, are_of_one_kind, are_of_one_sender, parity_of}
use Rattle.sq_track.specs.Laws.{as_waiting}
use Rattle.sq_track.specs.Replies.{of_address}
use Rattle.sq_track.specs.Tame.{ArePairTogether, AreTogether}
use Rattle.sq_track.specs.WorkedArrivals.{IsArrivalFrom}
use Rattle.sq_track.specs.Worlds.{Arrival, IsEncodedFrom, IsPlaceOf, IsTruePlace}
use Rattle.sq_track.proofs.Worlds.Pinned.{of_address_exactly}

-- ---- messages of a kind

parity_of_me : (kind : Kind) (head : HeadParts kind) (grid : Parity) (code : Code)
    → parity_of (me_of kind head grid code) ≡ Some grid
parity_of_me InAir head grid code = refl
parity_of_me OnGround head grid code = refl

one_kind : (kind : Kind) (head other : HeadParts kind) (g r : Parity) (c d : Code)
    → are_of_one_kind (me_of kind head g c) (me_of kind other r d) ≡ true
one_kind InAir head other g r c d = refl
one_kind OnGround head other g r c d = refl

place_of_me : (kind : Kind) (head : HeadParts kind) (grid : Parity) (code : Code) (x : Position) (p : Point)
    → p.parity ≡ grid → PositionRoundsTo (span_of kind) x p → IsPlaceOf (me_of kind head grid code) x (place_at kind p)
place_of_me InAir head grid code x p same rounds = (same, rounds)
place_of_me OnGround head grid code x p same rounds = (same, rounds)

encoded_me : (kind : Kind) (head : HeadParts kind) (code : Code) (x : Position) (p : Point)
    → numbers_of code ≡ code_of p → PositionRoundsTo (span_of kind) x p
    → IsEncodedFrom (me_of kind head p.parity code) x
encoded_me InAir head code x p same rounds = (Air p, (refl, rounds), same)
encoded_me OnGround head code x p same rounds = (Ground p, (refl, rounds), same)

-- ---- one arrival, and two

module _ {kind : Kind} {sender time : ℕ} {grid : Parity} {north east : Fraction} (a : Arrival)
    (h : IsArrivalFrom kind sender grid time north east a) where
  -- the point of its grid that the position rounds to is its true place
  pub true_place : (p : Point) → p.parity ≡ grid → PositionRoundsTo (span_of kind) a.position p
      → IsTruePlace a (place_at kind p)
  true_place p same rounds =
      subst (λ m. IsPlaceOf m a.position (place_at kind p)) (sym h.me)
      (place_of_me kind h.head grid h.code a.position p same rounds)

  pub of_grid : parity_of (squitter_parts a.squitter).me ≡ Some grid
  of_grid = ap parity_of h.me ∙ parity_of_me kind h.head grid h.code

module _ {kind : Kind} {sender t s : ℕ} {g r : Parity} {n e n' e' : Fraction} (a b : Arrival)
    (h : IsArrivalFrom kind sender g t n e a) (k : IsArrivalFrom kind sender r s n' e' b) where
  one_sender : are_of_one_sender a.squitter b.squitter ≡ true
  one_sender =
      and_from _ _ (eq-eqb _ _ (h.address ∙ sym k.address))
      (subst (λ m. are_of_one_kind m (squitter_parts b.squitter).me ≡ true) (sym h.me)
      (subst (λ m. are_of_one_kind (me_of kind h.head g h.code) m ≡ true) (sym k.me)
      (one_kind kind h.head k.head g r h.code k.code)))

  pub are_together : (window : ℕ) → t ≤ s + window → s ≤ t + window → AreTogether window a b
  are_together window p q = record {
    sender = one_sender;
    not_before = omega (arith, h.moment, k.moment, p);
    not_after = omega (arith, h.moment, k.moment, q);
  }

  pub are_pair : (window : ℕ) → g ≡ Even → r ≡ Odd → t ≤ s + window → s ≤ t + window → ArePairTogether window a b
  are_pair window even odd p q = record {
    together = are_together window p q;
    even = of_grid a h ∙ ap Some even;
    odd = of_grid b k ∙ ap Some odd;
  }

  -- the entries of the second's address, if another address was heard in between
  pub own_entries : (other : Entry) → (squitter_parts other.squitter).address ≢ sender
      → of_address (squitter_parts b.squitter).address (other ∷ as_waiting a ∷ []) ≡ as_waiting a ∷ []
  own_entries other is =
      let address = (squitter_parts b.squitter).address in
      of_address_exactly.other address other (as_waiting a ∷ []) (λ e. is (e ∙ k.address))
      ∙ of_address_exactly.own address (as_waiting a) [] (h.address ∙ sym k.address)
      ∙ ap (λ rest. as_waiting a ∷ rest) (of_address_exactly.none address)

-- ---- how far apart two positions are

-- a property of two fractions holds for two equal ones
of_two : (P : Fraction → Fraction → Type 0) (x y x' y' : Fraction) → x' ≡ x → y' ≡ y → P x y → P x' y'
of_two P x y x' y' same other p = subst (λ f. P f y') (sym same) (subst (P x) (sym other) p)

module _ {n e n' e' : Fraction} (x y : Position) (h : IsAt n e x) (k : IsAt n' e' y) where
  pub slow_by : (span : Span) (p q : Point) → DifferByLess (slow_limit span.degrees 60 59) n n'
      → DifferByLessAround (slow_limit span.degrees p.zones q.zones) e e' → AreSlow span p q x y
  slow_by span p q latitudes longitudes = record {
    latitudes = of_two (DifferByLess (slow_limit span.degrees 60 59)) _ _ _ _ h.lat k.lat latitudes;
    longitudes = λ same many.
        of_two (DifferByLessAround (slow_limit span.degrees p.zones q.zones)) _ _ _ _ h.lon k.lon longitudes;
  }

  pub following_by : (span : Span) (p q : Point) → DifferByLess (following_limit span.degrees 60 59) n n'
      → DifferByLessAround (following_limit span.degrees (max p.zones q.zones) (min p.zones q.zones)) e e'
      → AreSlowForFollowing span p q x y
  following_by span p q latitudes longitudes = record {
    latitudes = of_two (DifferByLess (following_limit span.degrees 60 59)) _ _ _ _ h.lat k.lat latitudes;
    longitudes = of_two (DifferByLessAround (following_limit span.degrees (max p.zones q.zones)
        (min p.zones q.zones))) _ _ _ _ h.lon k.lon longitudes;
  }

  pub within_by : (limit : ℕ) → DifferByLess (whole limit) n n' → DifferByLessAround (whole limit) e e'
      → AreWithin limit x y
  within_by limit latitudes longitudes = record {
    latitudes = of_two (DifferByLess (whole limit)) _ _ _ _ h.lat k.lat latitudes;
    longitudes = of_two (DifferByLessAround (whole limit)) _ _ _ _ h.lon k.lon longitudes;
  }

-- ---- existence

-- a position exists for any two valid angles of a position
pub some_position : (north east : Fraction) → IsAngle north.num north.den → IsAngle east.num east.den
    → IsPosition north east → (x : Position) × IsAt north east x
some_position north east lat lon both = (
  record {
    lat = record { num = north.num; den = north.den; in_range = lat };
    lon = record { num = east.num; den = east.den; in_range = lon };
    in_range = both;
  },
  record { lat = refl; lon = refl },
)

abbrev pub code_of_numbers : (lat lon : ℕ) → lat < 131072 → lon < 131072 → Code
code_of_numbers lat lon north east = record { lat = lat; lon = lon; lat_below = north; lon_below = east }

-- an arrival from a position that rounds to this point, with the code of the point
pub some_arrival : (kind : Kind) (head : HeadParts kind) → head.ca < 8 → head.address < 2 ^ 24
    → (time : ℕ) (point : Point) (lat lon : ℕ) (north : lat < 131072) (east : lon < 131072)
    → numbers_of (code_of_numbers lat lon north east) ≡ code_of point → {n e : Fraction} (x : Position) → IsAt n e x
    → PositionRoundsTo (span_of kind) x point
    → (a : Arrival) × IsArrivalFrom kind head.address point.parity time n e a
some_arrival kind head ca address time point lat lon north east same x at rounds =
    let code = code_of_numbers lat lon north east in (
      record {
        moment = time;
        squitter = record {
          ca = head.ca;
          address = head.address;
          me = me_of kind head point.parity code;
          ca_in = ca;
          address_in = address;
        };
        position = x;
        encoded = encoded_me kind head code x point same rounds;
      },
      record { moment = refl; address = refl; head = head; code = code; me = refl; place = at },
    )
