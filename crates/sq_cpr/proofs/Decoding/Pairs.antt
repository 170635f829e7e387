-- Close pairs with codes, and representatives: existence and uniqueness, over the definitions with fractions.
use Rattle.std.proofs.Common.{◌≡◌, ℕ, ◌-◌, ◌*◌, ◌<◌, max, ◌∙◌, refl, sym, arith, ℤ, pos, ◌+ℤ◌, ◌*ℤ◌, inl}
use Rattle.sq_angle.specs.Fraction.{Fraction}
use Rattle.sq_angle.specs.Whole.{ExactlyOne, IsCongruent}
use Rattle.sq_angle.proofs.Congruence.{congruent_refl, congruent_trans}
use Rattle.sq_zones.specs.declared.parity.Parity.{Parity}
use Rattle.sq_zones.specs.declared.parity.Parity.TheVariants.{Even, Odd}
use Rattle.sq_cpr.specs.Grid.{codes_of_zone}
use Rattle.sq_cpr.specs.Near.{IsRepresentative, angle_at}
use Rattle.sq_cpr.specs.Close.{IsClosePair, zones_of}
use Rattle.sq_cpr.specs.Multiplied.{IsZoneIndex}
use Rattle.sq_cpr.specs.Pair.{of_parity}
use Rattle.sq_cpr.proofs.Distances.Agree.{close_from_lies, lies_from_close, representative_from_within}
use Rattle.sq_cpr.proofs.Distances.Agree.{within_from_representative}
use Rattle.sq_cpr.proofs.Decoding.OneWithin.{one_within}
use Rattle.sq_cpr.proofs.Decoding.ZonePairs.{Paired, paired_zones, close_at, zone_at, has_code, close_turned_even}
use Rattle.sq_cpr.proofs.Decoding.ZonePairs.{close_turned_odd, code_of_turn}

pub some_zones : (parity : Parity) (count : ℕ) → 0 < zones_of parity count
some_zones parity count = omega arith

pub paired_latitudes : Paired 60 59
paired_latitudes = inl refl

pub paired_longitudes : (count : ℕ) → 0 < count → Paired (zones_of Even count) (zones_of Odd count)
paired_longitudes count h = let e : max (count - 0) 1 ≡ count = omega arith in rw e (paired_zones count h)

-- indices that lie t zones above their codes are a close pair
pub close_pair : (w n m y0 y1 : ℕ) (t a0 a1 : ℤ) → 0 < w → 0 < n → 0 < m → Paired n m → IsZoneIndex n m y0 y1 t →
    IsCongruent (n * codes_of_zone) a0 (pos y0 +ℤ pos codes_of_zone *ℤ t)
    → IsCongruent (m * codes_of_zone) a1 (pos y1 +ℤ pos codes_of_zone *ℤ t) → IsClosePair w n m y0 y1 a0 a1
close_pair w n m y0 y1 t a0 a1 p q r e z h k =
    record {
      even_code = has_code n y0 t a0 h;
      odd_code = has_code m y1 t a1 k;
      close = close_from_lies w n m a0 a1 p q r (close_at n m y0 y1 t a0 a1 e z h k);
    }

-- both of a close pair lie t zones above their codes
pub pair_at : (w n m y0 y1 : ℕ) (t p q : ℤ) → 0 < w → 0 < n → 0 < m → Paired n m → IsZoneIndex n m y0 y1 t
    → IsClosePair w n m y0 y1 p q →
    IsCongruent (n * codes_of_zone) p (pos y0 +ℤ pos codes_of_zone *ℤ t)
    × IsCongruent (m * codes_of_zone) q (pos y1 +ℤ pos codes_of_zone *ℤ t)
pair_at w n m y0 y1 t p q a b c e z h =
    zone_at n m y0 y1 t p q e z h.even_code h.odd_code (lies_from_close w n m p q a b c h.close)

-- a close pair remains close if one index changes by whole spans
pub turned_even : (w n m y0 y1 : ℕ) (p q r : ℤ) → 0 < w → 0 < n → 0 < m → IsCongruent (n * codes_of_zone) r p
    → IsClosePair w n m y0 y1 p q → IsClosePair w n m y0 y1 r q
turned_even w n m y0 y1 p q r a b c h k =
    record {
      even_code = congruent_trans (code_of_turn n h) k.even_code;
      odd_code = k.odd_code;
      close = close_from_lies w n m r q a b c
          (close_turned_even n m p q r h (lies_from_close w n m p q a b c k.close));
    }

pub turned_odd : (w n m y0 y1 : ℕ) (p q r : ℤ) → 0 < w → 0 < n → 0 < m → IsCongruent (m * codes_of_zone) r q
    → IsClosePair w n m y0 y1 p q → IsClosePair w n m y0 y1 p r
turned_odd w n m y0 y1 p q r a b c h k =
    record {
      even_code = k.even_code;
      odd_code = congruent_trans (code_of_turn m h) k.odd_code;
      close = close_from_lies w n m p r a b c
          (close_turned_odd n m p q r h (lies_from_close w n m p q a b c k.close));
    }

-- exactly one of the indices that differ by whole spans is a representative
pub one_representative : (w n : ℕ) (base : ℤ) (r : Fraction) → 0 < w → 0 < n → 0 < r.den →
    ExactlyOne (λ (index : ℤ). IsCongruent (n * codes_of_zone) index base × IsRepresentative w r (angle_at w n index))
one_representative w n base r p q s =
    let one = one_within n w n base r q p s in (
      one.0,
      (one.1.0, representative_from_within w n one.0 r one.1.1),
      λ y (h : IsCongruent (n * codes_of_zone) y base × IsRepresentative w r (angle_at w n y)). one.2 y
          (h.0, within_from_representative w n y r h.1),
    )

pub same_representative : (w n : ℕ) (base a b : ℤ) (r : Fraction) → 0 < w → 0 < n → 0 < r.den →
    IsCongruent (n * codes_of_zone) a base → IsRepresentative w r (angle_at w n a) →
    IsCongruent (n * codes_of_zone) b base → IsRepresentative w r (angle_at w n b) → a ≡ b
same_representative w n base a b r p q s j k l m =
    let one = one_representative w n base r p q s in
    one.2 a (j, k) ∙ sym (one.2 b (l, m))

-- an index t zones above the newest code is the newest of some close pair
pub newest_of_pair : (w count y0 y1 : ℕ) (newest : Parity) (t index : ℤ) → 0 < w → 0 < count
    → IsZoneIndex (zones_of Even count) (zones_of Odd count) y0 y1 t →
    IsCongruent (zones_of newest count * codes_of_zone) index (pos (of_parity newest y0 y1) +ℤ pos codes_of_zone *ℤ t) →
    (p q : ℤ) × IsClosePair w (zones_of Even count) (zones_of Odd count) y0 y1 p q × (index ≡ of_parity newest p q)
newest_of_pair w count y0 y1 Even t index p h z k =
    let other : ℤ = pos y1 +ℤ pos codes_of_zone *ℤ t in (
      index,
      other,
      close_pair w (zones_of Even count) (zones_of Odd count) y0 y1 t index other p
          (some_zones Even count) (some_zones Odd count) (paired_longitudes count h) z k
          (congruent_refl (zones_of Odd count * codes_of_zone) other),
      refl,
    )
newest_of_pair w count y0 y1 Odd t index p h z k =
    let other : ℤ = pos y0 +ℤ pos codes_of_zone *ℤ t in (
      other,
      index,
      close_pair w (zones_of Even count) (zones_of Odd count) y0 y1 t other index p
          (some_zones Even count) (some_zones Odd count) (paired_longitudes count h) z
          (congruent_refl (zones_of Even count * codes_of_zone) other) k,
      refl,
    )
