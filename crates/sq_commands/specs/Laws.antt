-- What the laws say.
use Rattle.std.specs.Prelude.{◌≡◌, ℕ, List, Option}
use Rattle.sq_commands.specs.Requests.{AskedEncode, AskedFeed, AskedTrack}
use Rattle.sq_commands.specs.declared.arguments.ArgumentFault.{ArgumentFault}
use Rattle.sq_commands.specs.Arguments.{IsPositionFault, IsSiteFault}
use Rattle.sq_commands.specs.Encode.{IsEncodeFault}
use Rattle.sq_commands.specs.Feed.{IsFeedFault}
use Rattle.sq_commands.specs.Track.{IsTrackFault}

-- a position has one first fault
abbrev pub OnePositionFault : Type 0
OnePositionFault = (lat lon : List ℕ) (a b : ArgumentFault) → IsPositionFault lat lon a → IsPositionFault lat lon b
    → a ≡ b

-- a site has one first fault
abbrev pub OneSiteFault : Type 0
OneSiteFault = (lat lon : Option (List ℕ)) (a b : ArgumentFault) → IsSiteFault lat lon a → IsSiteFault lat lon b → a ≡ b

-- the arguments of `encode` have one first fault
abbrev pub OneEncodeFault : Type 0
OneEncodeFault = (words : AskedEncode) (a b : ArgumentFault) → IsEncodeFault words a → IsEncodeFault words b → a ≡ b

-- the arguments of `track` have one first fault
abbrev pub OneTrackFault : Type 0
OneTrackFault = (words : AskedTrack) (a b : ArgumentFault) → IsTrackFault words a → IsTrackFault words b → a ≡ b

-- the arguments of `feed` have one first fault
abbrev pub OneFeedFault : Type 0
OneFeedFault = (words : AskedFeed) (a b : ArgumentFault) → IsFeedFault words a → IsFeedFault words b → a ≡ b
