-- Words of a position and of a site are read in one way.
use Rattle.std.proofs.Common.{◌≡◌, ℕ, List, Option, None, Some, Result, Ok, Err, ap, refl, inl, inr}
use Rattle.sq_angle.specs.declared.position.Position.{Position}
use Rattle.sq_angle.proofs.OnePosition.{one_position}
use Rattle.sq_commands.specs.declared.arguments.ArgumentFault.{ArgumentFault}
use Rattle.sq_commands.specs.Arguments.{IsPositionFault, IsPositionReading, IsPositionWords, IsSiteFault, IsSiteReading}
use Rattle.sq_commands.specs.Arguments.{IsSiteWords}
use Rattle.sq_commands.proofs.ArgumentLemmas.{one_angle_read}
use Rattle.sq_commands.proofs.FaultLemmas.{good_angle, one_position_fault, one_site_fault}

-- words spell one position
pub one_position_words : (lat lon : List ℕ) (x y : Position) → IsPositionWords lat lon x → IsPositionWords lat lon y
    → x ≡ y
one_position_words lat lon x y h k =
    one_position x y (one_angle_read lat x.lat y.lat h.0 k.0) (one_angle_read lon x.lon y.lon h.1 k.1)

-- words that spell a position have no fault
pub good_position : (lat lon : List ℕ) (x : Position) (fault : ArgumentFault) → IsPositionWords lat lon x
    → IsPositionFault lat lon fault → ⊥
good_position lat lon x fault h (inl (why, is, bad)) =
    good_angle 90 lat why (x.lat, h.0, x.in_range.latitude) bad
good_position lat lon x fault h (inr (why, is, good, bad)) =
    good_angle 180 lon why (x.lon, h.1, x.in_range.longitude) bad

-- words of a position have one reading
pub one_position_reading : (lat lon : List ℕ) (r s : Result Position ArgumentFault) → IsPositionReading lat lon r
    → IsPositionReading lat lon s → r ≡ s
one_position_reading lat lon (Ok x) (Ok y) h k = ap Ok (one_position_words lat lon x y h k)
one_position_reading lat lon (Ok x) (Err fault) h k = absurd (good_position lat lon x fault h k)
one_position_reading lat lon (Err fault) (Ok y) h k = absurd (good_position lat lon y fault k h)
one_position_reading lat lon (Err f) (Err g) h k = ap Err (one_position_fault lat lon f g h k)

-- words spell one site, or none
pub one_site_words : (lat lon : Option (List ℕ)) (x y : Option Position) → IsSiteWords lat lon x
    → IsSiteWords lat lon y → x ≡ y
one_site_words None None None None h k = refl
one_site_words None None None (Some y) h k = absurd k
one_site_words None None (Some x) y h k = absurd h
one_site_words None (Some lon) x y h k = absurd h
one_site_words (Some lat) None x y h k = absurd h
one_site_words (Some lat) (Some lon) None y h k = absurd h
one_site_words (Some lat) (Some lon) (Some x) None h k = absurd k
one_site_words (Some lat) (Some lon) (Some x) (Some y) h k = ap Some (one_position_words lat lon x y h k)

-- words that spell a site or none have no fault
pub good_site : (lat lon : Option (List ℕ)) (x : Option Position) (fault : ArgumentFault) → IsSiteWords lat lon x
    → IsSiteFault lat lon fault → ⊥
good_site None None x fault h bad = bad
good_site None (Some lon) x fault h bad = h
good_site (Some lat) None x fault h bad = h
good_site (Some lat) (Some lon) None fault h bad = h
good_site (Some lat) (Some lon) (Some x) fault h bad = good_position lat lon x fault h bad

-- words of a site have one reading
pub one_site_reading : (lat lon : Option (List ℕ)) (r s : Result (Option Position) ArgumentFault)
    → IsSiteReading lat lon r → IsSiteReading lat lon s → r ≡ s
one_site_reading lat lon (Ok x) (Ok y) h k = ap Ok (one_site_words lat lon x y h k)
one_site_reading lat lon (Ok x) (Err fault) h k = absurd (good_site lat lon x fault h k)
one_site_reading lat lon (Err fault) (Ok y) h k = absurd (good_site lat lon y fault k h)
one_site_reading lat lon (Err f) (Err g) h k = ap Err (one_site_fault lat lon f g h k)
