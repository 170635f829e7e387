-- Worked arrivals, in numbers: three squitters of one address, one even and two odd, and their results.
use Rattle.std.specs.Prelude.{◌≡◌, ◌∷◌, [], ℕ, pos, List, map, Option, Result}
use Rattle.std.specs.List.{AllZip}
use Rattle.sq_angle.specs.declared.position.Position.{Position}
use Rattle.sq_zones.specs.declared.parity.Parity.TheVariants.{Even, Odd}
use Rattle.sq_cpr.specs.Grid.{Point, point_at}
use Rattle.sq_message.specs.declared.place.Place.TheVariants.{Air}
use Rattle.sq_message.specs.Kinds.{InAir}
use Rattle.sq_message.specs.Parts.{squitter_parts}
use Rattle.sq_track.specs.declared.heard.Heard.{Heard}
use Rattle.sq_track.specs.declared.heard.Heard.TheVariants.{Fix, Followed}
use Rattle.sq_track.specs.declared.heard.TrackFault.{TrackFault}
use Rattle.sq_track.specs.Answers.{IsHeard}
use Rattle.sq_track.specs.History.{Entry}
use Rattle.sq_track.specs.Laws.{as_fix, as_waiting}
use Rattle.sq_track.specs.Replies.{AreReplies}
use Rattle.sq_track.specs.Tame.{IsSlow, IsSlowForFollowing}
use Rattle.sq_track.specs.WorkedArrivals.{IsArrivalFrom, parts}
use Rattle.sq_track.specs.Worlds.{Arrival, IfHeard, IsTruePlace, IsTruePlaceHeard, received_of}

-- 40621D, even, at 0 ms from 52.2572021 3.9193726
abbrev pub IsFirst : Arrival → Type 0
IsFirst arrival = IsArrivalFrom InAir 0x40621D Even 0 (parts 522572021 10000000) (parts 39193726 10000000) arrival

-- 40621D, odd, at 6000 ms from 52.26578 3.93891
abbrev pub IsSecond : Arrival → Type 0
IsSecond arrival = IsArrivalFrom InAir 0x40621D Odd 6000 (parts 5226578 100000) (parts 393891 100000) arrival

-- 40621D, odd, at 9000 ms from 52.27 3.948
abbrev pub IsThird : Arrival → Type 0
IsThird arrival = IsArrivalFrom InAir 0x40621D Odd 9000 (parts 5227 100) (parts 3948 1000) arrival

-- the points that these positions round to
abbrev pub first_point : Point
first_point = point_at Even (pos 1141576) 36 51372

abbrev pub second_point : Point
second_point = point_at Odd (pos 1122734) 35 50194

abbrev pub third_point : Point
third_point = point_at Odd (pos 1122825) 35 50310

-- their true places
abbrev pub TruePlaces : Type 0
TruePlaces =
    (a b c : Arrival) → IsFirst a → IsSecond b → IsThird c
    → IsTruePlace a (Air first_point) × IsTruePlace b (Air second_point) × IsTruePlace c (Air third_point)

-- for a window of 10 s, the world of the first and the second is slow, and slow for following
abbrev pub TwoAreSlow : Type 0
TwoAreSlow =
    (site : Option Position) (a b : Arrival) → IsFirst a → IsSecond b
    → IsSlow 10000 site (a ∷ b ∷ []) × IsSlowForFollowing 10000 (a ∷ b ∷ [])

-- a tracker that hears the first and the second gives only true places
abbrev pub TwoAreTrue : Type 0
TwoAreTrue =
    (limit : ℕ) (site : Option Position) (a b : Arrival) (replies : List (Result Heard TrackFault))
    → IsFirst a → IsSecond b
    → AreReplies (record { limit = limit; window = 10000; site = site }) [] (map received_of (a ∷ b ∷ [])) replies
    → AllZip (IfHeard IsTruePlaceHeard) (a ∷ b ∷ []) replies

-- after the first, the second gives the fix of its own point
abbrev pub SecondIsFixed : Type 0
SecondIsFixed =
    (site : Option Position) (a b : Arrival) → IsFirst a → IsSecond b
    → IsHeard 10000 site (as_waiting a ∷ []) 6000 b.squitter (Fix (Air second_point))

-- the second gives its fix also if another address, 484175, was heard in between
abbrev pub SecondIsFixedAmongOthers : Type 0
SecondIsFixedAmongOthers =
    (site : Option Position) (a b : Arrival) (other : Entry) → (squitter_parts other.squitter).address ≡ 0x484175
    → IsFirst a → IsSecond b
    → IsHeard 10000 site (other ∷ as_waiting a ∷ []) 6000 b.squitter (Fix (Air second_point))

-- after that fix, the third is followed to its own point
abbrev pub ThirdIsFollowed : Type 0
ThirdIsFollowed =
    (site : Option Position) (b c : Arrival) → IsSecond b → IsThird c
    → IsHeard 10000 site (as_fix b (Air second_point) ∷ []) 9000 c.squitter (Followed (Air third_point))

-- such arrivals exist
abbrev pub SomeWorked : Type 0
SomeWorked = (a b c : Arrival) × IsFirst a × IsSecond b × IsThird c
