-- Worked arrivals on the ground, in numbers: two even and two odd squitters of one address, on the other side of 180
-- degrees from their site, and their results.
use Rattle.std.specs.Prelude.{◌≡◌, ◌∷◌, [], ℕ, pos, List, map, Option, Some, None, Result}
use Rattle.std.specs.List.{AllZip}
use Rattle.sq_angle.specs.declared.position.Position.{Position}
use Rattle.sq_zones.specs.declared.parity.Parity.TheVariants.{Even, Odd}
use Rattle.sq_cpr.specs.Grid.{Point, point_at}
use Rattle.sq_message.specs.declared.place.Place.TheVariants.{Ground}
use Rattle.sq_message.specs.Kinds.{OnGround}
use Rattle.sq_message.specs.Parts.{squitter_parts}
use Rattle.sq_message.specs.Places.{IsAt}
use Rattle.sq_track.specs.declared.heard.Heard.{Heard}
use Rattle.sq_track.specs.declared.heard.Heard.TheVariants.{Fix, Followed, NoSite}
use Rattle.sq_track.specs.declared.heard.TrackFault.{TrackFault}
use Rattle.sq_track.specs.Answers.{IsHeard}
use Rattle.sq_track.specs.History.{Entry}
use Rattle.sq_track.specs.Laws.{as_fix, as_waiting}
use Rattle.sq_track.specs.Replies.{AreReplies}
use Rattle.sq_track.specs.Tame.{IsSlow, IsSlowForFollowing}
use Rattle.sq_track.specs.WorkedArrivals.{IsArrivalFrom, parts, west}
use Rattle.sq_track.specs.Worlds.{Arrival, IfHeard, IsTruePlace, IsTruePlaceHeard, received_of}

-- 484175, even, at 0 ms from 52.32304 -175.2695274
abbrev pub IsFirst : Arrival → Type 0
IsFirst arrival = IsArrivalFrom OnGround 0x484175 Even 0 (parts 523230400 10000000) (west 1752695274 10000000) arrival

-- 484175, odd, at 6000 ms from 52.3206071 -175.2652653
abbrev pub IsSecond : Arrival → Type 0
IsSecond arrival =
    IsArrivalFrom OnGround 0x484175 Odd 6000 (parts 523206071 10000000) (west 1752652653 10000000) arrival

-- 484175, odd, at 9000 ms from 52.32 -175.264
abbrev pub IsThird : Arrival → Type 0
IsThird arrival = IsArrivalFrom OnGround 0x484175 Odd 9000 (parts 5232 100) (west 175264 1000) arrival

-- 484175, even, at 12000 ms from 52.3194 -175.2629
abbrev pub IsFourth : Arrival → Type 0
IsFourth arrival = IsArrivalFrom OnGround 0x484175 Even 12000 (parts 523194 10000) (west 1752629 10000) arrival

-- the site is 51.99 179.375
abbrev pub IsSite : Position → Type 0
IsSite site = IsAt (parts 51990 1000) (parts 179375 1000) site

-- the points that these positions round to
abbrev pub first_point : Point
first_point = point_at Even (pos 4572057) 36 9685197

abbrev pub second_point : Point
second_point = point_at Odd (pos 4495647) 35 9416381

abbrev pub third_point : Point
third_point = point_at Odd (pos 4495595) 35 9416445

abbrev pub fourth_point : Point
fourth_point = point_at Even (pos 4571739) 36 9685544

-- their true places
abbrev pub TruePlaces : Type 0
TruePlaces =
    (a b c d : Arrival) → IsFirst a → IsSecond b → IsThird c → IsFourth d
    → IsTruePlace a (Ground first_point) × IsTruePlace b (Ground second_point) × IsTruePlace c (Ground third_point)
    × IsTruePlace d (Ground fourth_point)

-- for a window of 10 s, the world of the first and the second is slow, with the site and without one, and slow for
-- following
abbrev pub TwoAreSlow : Type 0
TwoAreSlow =
    (site : Position) (a b : Arrival) → IsSite site → IsFirst a → IsSecond b
    → IsSlow 10000 (Some site) (a ∷ b ∷ []) × IsSlow 10000 None (a ∷ b ∷ []) × IsSlowForFollowing 10000 (a ∷ b ∷ [])

-- a tracker with the site that hears the first and the second gives only true places
abbrev pub TwoAreTrue : Type 0
TwoAreTrue =
    (limit : ℕ) (site : Position) (a b : Arrival) (replies : List (Result Heard TrackFault))
    → IsSite site → IsFirst a → IsSecond b
    → AreReplies (record { limit = limit; window = 10000; site = Some site }) [] (map received_of (a ∷ b ∷ [])) replies
    → AllZip (IfHeard IsTruePlaceHeard) (a ∷ b ∷ []) replies

-- after the first, the second gives the fix of its own point
abbrev pub SecondIsFixed : Type 0
SecondIsFixed =
    (site : Position) (a b : Arrival) → IsSite site → IsFirst a → IsSecond b
    → IsHeard 10000 (Some site) (as_waiting a ∷ []) 6000 b.squitter (Fix (Ground second_point))

-- without a site the result is `NoSite`
abbrev pub SecondWantsASite : Type 0
SecondWantsASite =
    (a b : Arrival) → IsFirst a → IsSecond b → IsHeard 10000 None (as_waiting a ∷ []) 6000 b.squitter NoSite

-- the second gives its fix also if another address, 40621D, was heard in between
abbrev pub SecondIsFixedAmongOthers : Type 0
SecondIsFixedAmongOthers =
    (site : Position) (a b : Arrival) (other : Entry) → (squitter_parts other.squitter).address ≡ 0x40621D
    → IsSite site → IsFirst a → IsSecond b
    → IsHeard 10000 (Some site) (other ∷ as_waiting a ∷ []) 6000 b.squitter (Fix (Ground second_point))

-- after that fix, the third is followed to its own point
abbrev pub ThirdIsFollowed : Type 0
ThirdIsFollowed =
    (site : Option Position) (b c : Arrival) → IsSecond b → IsThird c
    → IsHeard 10000 site (as_fix b (Ground second_point) ∷ []) 9000 c.squitter (Followed (Ground third_point))

-- if only the second was heard before, the fourth, an even one after an odd one, gives the fix of its own point
abbrev pub FourthIsFixed : Type 0
FourthIsFixed =
    (site : Position) (b d : Arrival) → IsSite site → IsSecond b → IsFourth d
    → IsHeard 10000 (Some site) (as_waiting b ∷ []) 12000 d.squitter (Fix (Ground fourth_point))

-- such arrivals, and such a site, exist
abbrev pub SomeWorked : Type 0
SomeWorked = (a b c d : Arrival) × (site : Position) × IsFirst a × IsSecond b × IsThird c × IsFourth d × IsSite site
