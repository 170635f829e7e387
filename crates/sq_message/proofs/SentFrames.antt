-- Sent frames, and the results of reading them near a reference, reading them as a pair, and sending them again.
use Rattle.std.proofs.Common.{◌≡◌, ◌∙◌, Result, Ok, ap, refl, subst, ◌≢◌, Option, None, Some, sym, Err}
use Rattle.sq_bits.specs.declared.frame.Frame.{Frame}
use Rattle.sq_bits.specs.Frames.{IsFrame}
use Rattle.sq_angle.specs.declared.position.Position.{Position}
use Rattle.sq_angle.specs.Angle.{degrees}
use Rattle.sq_angle.specs.Position.{lat_of, lon_of}
use Rattle.sq_angle.specs.Fraction.{Fraction}
use Rattle.sq_zones.specs.declared.parity.Parity.{Parity}
use Rattle.sq_zones.specs.declared.parity.Parity.TheVariants.{Even, Odd}
use Rattle.sq_cpr.specs.declared.code.Code.{Code}
use Rattle.sq_cpr.specs.Code.{numbers_of}
use Rattle.sq_cpr.specs.Grid.{Point, IsGridPoint, HasCode, latitude, longitude}
use Rattle.sq_cpr.specs.Near.{IsStrictlyNearPosition}
use Rattle.sq_cpr.proofs.Decoding.NearLaw.{strictly_near_point_is_local}
use Rattle.sq_cpr.specs.Span.{ground, Span, FitsCircle}
use Rattle.sq_cpr.specs.Close.{AreClosePoints}
use Rattle.sq_cpr.specs.Pair.{of_parity, AirPairAnswer, PairAnswerAt}
use Rattle.sq_cpr.proofs.Decoding.PairPoints.{close_air_points_are_answered, close_ground_points_are_answered}
use Rattle.sq_cpr.specs.Rounds.{PositionRoundsTo, RoundsTo}
use Rattle.sq_cpr.proofs.Grids.Points.{rounds_once, rounds_to_itself}
use Rattle.sq_message.specs.declared.squitter.Squitter.{Squitter}
use Rattle.sq_message.specs.declared.place.Place.{Place}
use Rattle.sq_message.specs.declared.place.PlaceFault.{PlaceFault}
use Rattle.sq_message.specs.Kinds.{Kind, HeadParts, InAir, OnGround, PositionOf, me_of, place_at, span_of}
use Rattle.sq_message.specs.Parts.{squitter_parts, SquitterParts}
use Rattle.sq_message.specs.Places.{IsLocalPlace, of_local, place_of, IsPlaceOfOneAddress, IsPairPlace, IsPosition}
use Rattle.sq_message.specs.Places.{of_pair, pair_by_parity, IsDecoded, IsSentAt, IsSentAtPoint, head_at}
use Rattle.sq_message.specs.Places.{place_latitude, place_longitude}
use Rattle.sq_message.specs.Sending.{IsSquitterOf, IsFrameOf}
use Rattle.sq_message.specs.Headline.{NearReference, ClosePair, LieAt, WrittenAgain, SentAgain}
use Rattle.sq_message.specs.declared.squitter.Me.{Me}
use Rattle.sq_message.specs.declared.place.Place.TheVariants.{Air, Ground}
use Rattle.sq_message.specs.Calls.{HasNoPlaceNear, HaveNoPlace, IsPlaceOfPair}
use Rattle.sq_message.specs.Spelling.{IsReading, Spells}
use Rattle.sq_message.proofs.One.{read_exactly, one_squitter, one_frame}
use Rattle.sq_message.proofs.PlaceLemmas.{has_code, local_of, no_fault, IsPointOf, decoded_point, own_code}
use Rattle.sq_message.proofs.SameZones.{fits, same_sent}
use Rattle.sq_message.proofs.OnePlace.{one_local_place, one_pair_place}

-- ---- near a reference

-- a squitter sent from a point decodes to that point with a reference strictly near it
local_of_sent : (kind : Kind) (q : Squitter) (head : HeadParts kind) (point : Point) (reference : Position)
    (answer : Result Place PlaceFault)
    → IsSquitterOf kind head point (squitter_parts q) → IsGridPoint (span_of kind) point
    → IsStrictlyNearPosition (span_of kind) reference point
    → IsLocalPlace q.me reference answer → answer ≡ Ok (place_at kind point)
local_of_sent kind q head point reference answer sent of_grid near h =
    let position : PositionOf kind = record { parity = point.parity; code = sent.code; fields = head.fields } in
    let (found, decoded, is) = local_of kind position reference answer
    (subst (λ me. IsLocalPlace me reference answer) sent.me h) in
    let law = strictly_near_point_is_local (span_of kind) (fits kind) (numbers_of sent.code) point.parity
    (degrees (lat_of reference)) (degrees (lon_of reference)) found point in
    is ∙ ap (place_of (place_at kind) of_local)
    (law reference.lat.in_range.positive reference.lon.in_range.positive decoded of_grid refl
    (has_code point sent.code sent.numbers) near)

pub near_reference : (kind : Kind) → NearReference kind
near_reference kind head parity position reference point frame h near reading read = (
  h.squitter,
  read_exactly frame reading read h.squitter h.spelled,
  λ answer is. local_of_sent kind h.squitter head point reference answer h.sent h.rounds.of_grid near is,
)

-- ---- pairs

-- odd and even are different
two : (p q : Parity) → p ≡ Odd → q ≡ Even → p ≢ q
two p q odd even same = let bad : ◌≡◌ {A = Parity} Odd Even = sym odd ∙ same ∙ even in absurd (cc bad)

two_back : (p q : Parity) → p ≡ Even → q ≡ Odd → p ≢ q
two_back p q even odd same = let bad : ◌≡◌ {A = Parity} Even Odd = sym even ∙ same ∙ odd in absurd (cc bad)

-- the message of a head is a position
is_position : (kind : Kind) (head : HeadParts kind) (parity : Parity) (code : Code)
    → IsPosition (me_of kind head parity code)
is_position InAir head parity code = tt
is_position OnGround head parity code = tt

-- the result of decoding two positions of one address, by their messages
same_address : (older newer : Squitter) (m n : Me) (site : Option Position) (answer : Result Place PlaceFault)
    → older.me ≡ m → newer.me ≡ n → IsPosition m → IsPosition n
    → older.address ≡ newer.address → IsPairPlace (squitter_parts older) (squitter_parts newer) site answer
    → IsPlaceOfOneAddress m n site answer
same_address older newer m n site answer is_m is_n first second address h =
    let both : IsPosition older.me × IsPosition newer.me =
    (subst IsPosition (sym is_m) first, subst IsPosition (sym is_n) second) in
    let here = h.same_address both address in
    subst (λ x. IsPlaceOfOneAddress m x site answer) is_n
    (subst (λ x. IsPlaceOfOneAddress x newer.me site answer) is_m here)

-- a pair of different parities with the codes of close points decodes to the point of the newest
decoded_close : (kind : Kind) (site : Option Position) (first second : HeadParts kind) (p q newest : Parity)
    (c d : Code) (answer : Result Place PlaceFault) (a b : Point)
    → p ≢ q → q ≡ newest → IsGridPoint (span_of kind) a → IsGridPoint (span_of kind) b
    → HasCode a (pair_by_parity newest c d).even
    → HasCode b (pair_by_parity newest c d).odd
    → AreClosePoints (span_of kind) a b → LieAt kind site a b
    → IsPlaceOfOneAddress (me_of kind first p c) (me_of kind second q d) site answer
    → answer ≡ Ok (place_at kind (of_parity newest a b))
decoded_close InAir site first second p q newest c d answer a b differ at a_is b_is a_code b_code near lie h =
    let (found, decoded, is) = h.1 differ in
    let there = subst (λ r. AirPairAnswer (pair_by_parity r c d) found) at decoded in
    is ∙ ap (place_of Air of_pair)
    (close_air_points_are_answered (pair_by_parity newest c d) found a b there a_is b_is a_code b_code near)
decoded_close OnGround None first second p q newest c d answer a b differ at a_is b_is a_code b_code near lie h =
    absurd lie
decoded_close OnGround (Some site) first second p q newest c d answer a b differ at a_is b_is a_code b_code near lie h =
    let (found, decoded, is) = h.1 differ in
    let there = subst (λ r. PairAnswerAt ground (pair_by_parity r c d) site found) at decoded in
    is ∙ ap (place_of Ground of_pair)
    (close_ground_points_are_answered (pair_by_parity newest c d) site found a b there a_is b_is a_code
    b_code near lie.0 lie.1)

pub close_pair : (kind : Kind) → ClosePair kind
close_pair kind even_head odd_head x y a b even odd Even site address h k near lie earlier later first second = (
  k.squitter,
  h.squitter,
  read_exactly odd earlier first k.squitter k.spelled,
  read_exactly even later second h.squitter h.spelled,
  λ answer is.
      let o = k.sent in
      let n = h.sent in
      decoded_close kind site odd_head even_head b.parity a.parity Even o.code n.code answer a b
      (two b.parity a.parity k.of_parity h.of_parity) h.of_parity
      h.rounds.of_grid k.rounds.of_grid (has_code a n.code n.numbers) (has_code b o.code o.numbers) near lie
      (same_address k.squitter h.squitter _ _ site answer o.me n.me
      (is_position kind odd_head b.parity o.code) (is_position kind even_head a.parity n.code)
      (o.address ∙ sym address ∙ sym n.address) is),
)
close_pair kind even_head odd_head x y a b even odd Odd site address h k near lie earlier later first second = (
  h.squitter,
  k.squitter,
  read_exactly even earlier first h.squitter h.spelled,
  read_exactly odd later second k.squitter k.spelled,
  λ answer is.
      let o = h.sent in
      let n = k.sent in
      decoded_close kind site even_head odd_head a.parity b.parity Odd o.code n.code answer a b
      (two_back a.parity b.parity h.of_parity k.of_parity) k.of_parity
      h.rounds.of_grid k.rounds.of_grid (has_code a o.code o.numbers) (has_code b n.code n.numbers) near lie
      (same_address h.squitter k.squitter _ _ site answer o.me n.me
      (is_position kind even_head a.parity o.code) (is_position kind odd_head b.parity n.code)
      (o.address ∙ address ∙ sym n.address) is),
)

-- ---- the results of calls

-- the frame of a squitter that is sent from each point to which the position rounds
pub frame_of_sent : (kind : Kind) (head : HeadParts kind) (parity : Parity) (x : Position) (f : Frame) (q : Squitter)
    → ((point : Point) → point.parity ≡ parity → PositionRoundsTo (span_of kind) x point
    → IsSquitterOf kind head point (squitter_parts q))
    → IsFrame f → Spells f q → IsFrameOf kind head parity x f
frame_of_sent kind head parity x f q sent is spelled = λ point same rounds.
    record {
      of_parity = same;
      rounds = rounds;
      squitter = q;
      sent = sent point same rounds;
      is_frame = is;
      spelled = spelled;
    }

-- a sent frame read with a reference strictly near the point gives that point
pub near_of_sent : (kind : Kind) (head : HeadParts kind) (parity : Parity) (x r : Position) (f : Frame) (q : Squitter)
    (answer : Result Place PlaceFault)
    → IsFrameOf kind head parity x f → IsReading f (Ok q) → IsLocalPlace (squitter_parts q).me r answer
    → (point : Point) → point.parity ≡ parity → PositionRoundsTo (span_of kind) x point
    → IsStrictlyNearPosition (span_of kind) r point → answer ≡ Ok (place_at kind point)
near_of_sent kind head parity x r f q answer sent read placed point same rounds near =
    let (p, is, answers) = near_reference kind head parity x r point f (sent point same rounds) near (Ok q) read in
    let one : q ≡ p = cc is in
    answers answer (subst (λ (s : Squitter). IsLocalPlace (squitter_parts s).me r answer) one placed)

-- equal squitters have the same result as a pair
pub moved : (p q older newer : Squitter) (site : Option Position) (answer : Result Place PlaceFault) → p ≡ older
    → q ≡ newer → IsPlaceOfPair p q site answer → IsPlaceOfPair older newer site answer
moved p q older newer site answer first second placed =
    subst (λ (s : Squitter). IsPlaceOfPair older s site answer) second
    (subst (λ (s : Squitter). IsPlaceOfPair s q site answer) first placed)

-- if the points to which the positions round are close and lie as `LieAt` says, the result is the newest one's point
abbrev IsPlaceOfClose : Kind → Option Position → Parity → (even odd : Position) → Result Place PlaceFault → Type 0
IsPlaceOfClose kind site newest even odd answer =
    (a b : Point) → PositionRoundsTo (span_of kind) even a → PositionRoundsTo (span_of kind) odd b
    → AreClosePoints (span_of kind) a b → LieAt kind site a b → answer ≡ Ok (place_at kind (of_parity newest a b))

-- the frames of close points read as a pair give the point of the newest
pub pair_of_sent : (kind : Kind) (even_head odd_head : HeadParts kind) (x y : Position) (f g : Frame) (p q : Squitter)
    (newest : Parity) (site : Option Position) (answer : Result Place PlaceFault)
    → even_head.address ≡ odd_head.address → IsFrameOf kind even_head Even x f
    → IsFrameOf kind odd_head Odd y g → IsReading f (Ok p) → IsReading g (Ok q)
    → IsPlaceOfPair (of_parity newest q p) (of_parity newest p q) site answer
    → IsPlaceOfClose kind site newest x y answer
pair_of_sent kind even_head odd_head x y f g p q Even site answer address even odd first second placed =
    λ a b a_rounds b_rounds close lie.
    let (older, newer, was, is, answers) = close_pair kind even_head odd_head x y a b f g Even site address
    (even a close.even a_rounds) (odd b close.odd b_rounds) close lie (Ok q) (Ok p) second first in
    answers answer (moved q p older newer site answer (cc was) (cc is) placed)
pair_of_sent kind even_head odd_head x y f g p q Odd site answer address even odd first second placed =
    λ a b a_rounds b_rounds close lie.
    let (older, newer, was, is, answers) = close_pair kind even_head odd_head x y a b f g Odd site address
    (even a close.even a_rounds) (odd b close.odd b_rounds) close lie (Ok p) (Ok q) first second in
    answers answer (moved p q older newer site answer (cc was) (cc is) placed)

-- a frame with an error near a reference has no place there
pub no_place_near : (f : Frame) (q : Squitter) (r : Position) (fault : PlaceFault) → IsReading f (Ok q)
    → IsLocalPlace (squitter_parts q).me r (Err fault) → HasNoPlaceNear f r
no_place_near f q r fault read refused = λ p place other placed.
    let here = subst (λ (s : Squitter). IsLocalPlace (squitter_parts s).me r (Ok place))
    (one_squitter f p q other read) placed in
    no_fault place fault (one_local_place q r (Ok place) (Err fault) here refused)

-- two frames with an error as a pair have no place
pub no_place : (f g : Frame) (p q : Squitter) (site : Option Position) (fault : PlaceFault) → IsReading f (Ok p)
    → IsReading g (Ok q) → IsPlaceOfPair p q site (Err fault) → HaveNoPlace f g site
no_place f g p q site fault first second refused = λ x y place other_first other_second placed.
    let there = moved x y p q site (Ok place) (one_squitter f x p other_first first)
    (one_squitter g y q other_second second) placed in
    no_fault place fault (one_pair_place p q site (Ok place) (Err fault) there refused)

-- ---- sent again

-- a squitter that decodes to a point is the squitter sent from that point with its head
decoded_is_sent : (kind : Kind) (head : HeadParts kind) (parity : Parity) (code : Code) (q : Squitter) (p : Point)
    → q.ca ≡ head.ca → q.address ≡ head.address → q.me ≡ me_of kind head parity code
    → IsPointOf (span_of kind) (numbers_of code) parity p → IsSquitterOf kind head p (squitter_parts q)
decoded_is_sent kind head parity code q p ca address is point = record {
  ca = ca;
  address = address;
  code = code;
  me = is ∙ ap (λ (x : Parity). me_of kind head x code) (sym point.of_parity);
  numbers = own_code p code point.has_code;
}

-- a point decoded from a squitter is sent as that squitter
point_again : (kind : Kind) (q sent : Squitter) (p : Point) → IsDecoded (squitter_parts q) (place_at kind p)
    → IsSentAtPoint kind (squitter_parts q) p (squitter_parts sent) → sent ≡ q
point_again kind q sent p h (position, is, again) =
    let head = head_at kind (squitter_parts q) position in
    same_sent kind head p sent q again (decoded_is_sent kind head position.parity position.code q p refl refl is
    (decoded_point kind (squitter_parts q) position p is h))

-- a place decoded from a squitter is sent as that squitter
pub sent_again : (q sent : Squitter) (place : Place) → IsDecoded (squitter_parts q) place
    → IsSentAt (squitter_parts q) place (squitter_parts sent) → sent ≡ q
sent_again q sent (Air p) h again = point_again InAir q sent p h again
sent_again q sent (Ground p) h again = point_again OnGround q sent p h again

pub written_again : WrittenAgain
written_again q sent place f g is_f spells h again is_g spelled =
    one_frame g f q is_g is_f (subst (Spells g) (sent_again q sent place h again) spelled) spells

-- a point's own position rounds to no other point of its parity
rounds_back : (span : Span) → FitsCircle span → (lat lon : Fraction) (p q : Point) → IsGridPoint span p
    → lat ≡ latitude span p
    → lon ≡ longitude span p
    → q.parity ≡ p.parity → RoundsTo span lat lon q → q ≡ p
rounds_back span circle lat lon p q of_grid at_lat at_lon same rounds =
    let own = rounds_to_itself span circle p of_grid in
    let there = subst (λ y. RoundsTo span (latitude span p) y q) at_lon
    (subst (λ x. RoundsTo span x lon q) at_lat rounds) in
    rounds_once span (latitude span p) (longitude span p) q p same there own

-- the coordinates of a point's place are those of the point
place_is_point : (kind : Kind) (p : Point)
    → (place_latitude (place_at kind p) ≡ latitude (span_of kind) p)
    × (place_longitude (place_at kind p) ≡ longitude (span_of kind) p)
place_is_point InAir p = (refl, refl)
place_is_point OnGround p = (refl, refl)

pub sent_from_its_position : (kind : Kind) → SentAgain kind
sent_from_its_position kind q head parity code p rounded x f g is_f spells is h at k =
    let me = ap (λ (s : SquitterParts). s.me) is in
    let point = decoded_point kind (squitter_parts q) (record { parity = parity; code = code; fields = head.fields })
    p me h in
    let there = place_is_point kind p in
    let same = rounds_back (span_of kind) (fits kind) (degrees (lat_of x)) (degrees (lon_of x)) p rounded point.of_grid
    (at.lat ∙ there.0) (at.lon ∙ there.1) (k.of_parity ∙ sym point.of_parity) k.rounds in
    let sent = subst (λ y. IsSquitterOf kind head y (squitter_parts k.squitter)) same k.sent in
    let own = decoded_is_sent kind head parity code q p (ap (λ (s : SquitterParts). s.ca) is)
    (ap (λ (s : SquitterParts). s.address) is) me point in
    let squitter = same_sent kind head p k.squitter q sent own in
    one_frame g f q k.is_frame is_f (subst (Spells g) squitter k.spelled) spells
