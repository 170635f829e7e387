-- Laws that say exactly what the definitions about worlds and results mean.
use Rattle.std.specs.Prelude.{◌≡◌, ◌≢◌, ◌↔◌, [], ◌∷◌, ℕ, ℤ, pos, neg_ℤ, ◌*ℤ◌, nat_eq, IsTrue, Contains, Option, Some, None}
use Rattle.std.specs.Prelude.{Ok, Err}
use Rattle.std.specs.Map.{lookup}
use Rattle.sq_angle.specs.Angle.{degrees}
use Rattle.sq_angle.specs.Fraction.{plus, ◌≃◌}
use Rattle.sq_angle.specs.Position.{lat_of, lon_of}
use Rattle.sq_angle.specs.declared.position.Position.{Position}
use Rattle.sq_cpr.specs.Span.{air, ground}
use Rattle.sq_cpr.specs.Grid.{Point, latitude, longitude}
use Rattle.sq_cpr.specs.Near.{IsStrictlyNearPoint}
use Rattle.sq_cpr.specs.Close.{AreTamePoints}
use Rattle.sq_cpr.specs.Slow.{AreSlow, AreSlowForFollowing, AreWithin, IsPointWithin}
use Rattle.sq_message.specs.declared.place.Place.{Place}
use Rattle.sq_message.specs.declared.place.Place.TheVariants.{Air, Ground}
use Rattle.sq_message.specs.declared.other.Other.{Other}
use Rattle.sq_message.specs.declared.squitter.Me.{Me}
use Rattle.sq_message.specs.declared.squitter.Me.TheVariants as kinds
use Rattle.sq_message.specs.declared.squitter.Squitter.{Squitter}
use Rattle.sq_cpr.specs.declared.code.Code.{Code}
use Rattle.sq_message.specs.Kinds.{Kind, HeadParts, InAir, OnGround, me_of}
use Rattle.sq_message.specs.Parts.{Airborne, Surface, squitter_parts}
use Rattle.sq_message.specs.Places.{IsPosition, IsPositionOf}
use Rattle.sq_zones.specs.declared.parity.Parity.{Parity}
use Rattle.sq_zones.specs.declared.parity.Parity.TheVariants.{Even, Odd}
use Rattle.sq_track.specs.declared.contact.Contact.{Contact}
use Rattle.sq_message.specs.declared.received.Received.{Received}
use Rattle.sq_track.specs.declared.contact.Side.{Side}
use Rattle.sq_track.specs.declared.heard.Heard.{Heard}
use Rattle.sq_track.specs.declared.heard.Heard.TheVariants.{Fix, Followed, Far}
use Rattle.sq_track.specs.declared.heard.TrackFault.TheVariants.{Memory}
use Rattle.sq_track.specs.Answers.{IsHeard}
use Rattle.sq_track.specs.ByEntries.{IsHeardByEntries}
use Rattle.sq_track.specs.Held.{Held, StandsFor, contact_of}
use Rattle.sq_track.specs.History.{Entry, History, are_of_one_sender, parity_of, place_heard}
use Rattle.sq_track.specs.Kept.{IsContactHearing, Remembers, of_other_parity}
use Rattle.sq_track.specs.Laws.{AreTrueInSlowWorlds}
use Rattle.sq_track.specs.Replies.{Settings, IsAcceptable, IsInTime, IsReply, of_address}
use Rattle.sq_track.specs.Worlds.{Arrival, World, IsEncodedFrom, IsTruePlace, IsTrueFix, IsTruePlaceHeard, IfHeard}
use Rattle.sq_track.specs.Worlds.{ArisesFrom, received_of}
use Rattle.sq_track.specs.Tame.{AreTamePlaces, AreSlowPlaces, AreNearPlaces, AreSlowToFollow, ArePairTogether, IsTame}
use Rattle.sq_track.specs.Tame.{AreTogether, IsSlow, IsSlowForFollowing, IsTameForFollowing, IsNearSite}
use Rattle.sq_track.specs.Tame.{IsPositionNearSite, IsSenderNearSite}
use Rattle.sq_track.specs.Standing.{AreOnePlace, IsStanding}

-- any squitter may arrive at any timestamp, from each position that its code was encoded from
abbrev pub SomeArrival : Type 0
SomeArrival =
    (moment : ℕ) (squitter : Squitter) (position : Position) → IsEncodedFrom (squitter_parts squitter).me position
    → (arrival : Arrival) × (arrival.moment ≡ moment) × (arrival.squitter ≡ squitter) × (arrival.position ≡ position)

-- a message without a position may come from anywhere
abbrev pub OtherIsEncoded : Type 0
OtherIsEncoded = (me : Me) (position : Position) → ¬ IsPosition me → IsEncodedFrom me position

-- the exact conditions for slow, tame and near places of one kind, and for positions near a site
pub record PlacesExactly : Type 0 where
  pub near_no_site : (x : Position) → IsPositionNearSite None x
  pub near_a_site : (site x : Position) → IsPositionNearSite (Some site) x ↔ AreWithin 44 x site
  pub sent_on_ground : (site x : Position) (surface : Surface)
      → IsSenderNearSite (Some site) (kinds.Surface surface) x ↔ AreWithin 44 x site
  pub sent_in_air : (site : Option Position) (x : Position) (airborne : Airborne)
      → IsSenderNearSite site (kinds.Airborne airborne) x
  pub sent_of_kind_other : (site : Option Position) (x : Position) (other : Other)
      → IsSenderNearSite site (kinds.Other other) x
  pub point_near_no_site : (p : Point) → IsNearSite None p
  pub point_near_a_site : (site : Position) (p : Point) → IsNearSite (Some site) p ↔ IsPointWithin 45 ground p site
  pub near_in_air : (p q : Point) → AreNearPlaces (Air p) (Air q)
      ↔ (IsStrictlyNearPoint air (latitude air q) (longitude air q) p
      × IsStrictlyNearPoint air (latitude air p) (longitude air p) q)
  pub near_on_ground : (p q : Point) → AreNearPlaces (Ground p) (Ground q)
      ↔ (IsStrictlyNearPoint ground (latitude ground q) (longitude ground q) p
      × IsStrictlyNearPoint ground (latitude ground p) (longitude ground p) q)
  pub slow_in_air : (site : Option Position) (p q : Point) (x y : Position)
      → AreSlowPlaces site (Air p) (Air q) x y ↔ AreSlow air p q x y
  pub slow_on_ground : (p q : Point) (x y : Position)
      → AreSlowPlaces None (Ground p) (Ground q) x y ↔ AreSlow ground p q x y
  pub slow_at_a_site : (site : Position) (p q : Point) (x y : Position)
      → AreSlowPlaces (Some site) (Ground p) (Ground q) x y
      ↔ (AreSlow ground p q x y × AreWithin 44 x site × AreWithin 44 y site)
  pub following_in_air : (p q : Point) (x y : Position)
      → AreSlowToFollow (Air p) (Air q) x y ↔ AreSlowForFollowing air p q x y
  pub following_on_ground : (p q : Point) (x y : Position)
      → AreSlowToFollow (Ground p) (Ground q) x y ↔ AreSlowForFollowing ground p q x y
  pub tame_in_air : (site : Option Position) (p q : Point) → AreTamePlaces site (Air p) (Air q) ↔ AreTamePoints air p q
  pub tame_on_ground : (p q : Point) → AreTamePlaces None (Ground p) (Ground q) ↔ AreTamePoints ground p q
  pub tame_at_a_site : (site : Position) (p q : Point) → AreTamePlaces (Some site) (Ground p) (Ground q)
      ↔ (AreTamePoints ground p q × IsPointWithin 45 ground p site × IsPointWithin 45 ground q site)

-- two arrivals of one parity are slow wherever they come from
abbrev pub OneParityIsSlow : Type 0
OneParityIsSlow =
    (window : ℕ) (site : Option Position) (a b : Arrival)
    → parity_of (squitter_parts a.squitter).me ≡ parity_of (squitter_parts b.squitter).me
    → IsSlow window site (a ∷ b ∷ [])

-- an even and an odd arrival that come together are tame exactly if their true places are
abbrev pub TamePairExactly : Type 0
TamePairExactly =
    (window : ℕ) (site : Option Position) (a b : Arrival) (p q : Place) → ArePairTogether window a b
    → IsTruePlace a p → IsTruePlace b q
    → IsTame window site (a ∷ b ∷ []) ↔ AreTamePlaces site p q

-- a world is tame exactly if any two of its arrivals are
abbrev pub TameByPairs : Type 0
TameByPairs =
    (window : ℕ) (site : Option Position) (world : World)
    → IsTame window site world
    ↔ ((a b : Arrival) → Contains world a → Contains world b → IsTame window site (a ∷ b ∷ []))

-- a world is tame for following exactly if any two of its arrivals are
abbrev pub TameForFollowingByPairs : Type 0
TameForFollowingByPairs =
    (window : ℕ) (world : World)
    → IsTameForFollowing window world
    ↔ ((a b : Arrival) → Contains world a → Contains world b → IsTameForFollowing window (a ∷ b ∷ []))

-- two arrivals that come together are tame for following exactly if their true places are strictly near one another
abbrev pub TameForFollowingPairExactly : Type 0
TameForFollowingPairExactly =
    (window : ℕ) (a b : Arrival) (p q : Place) → AreTogether window a b → IsTruePlace a p → IsTruePlace b q
    → IsTameForFollowing window (a ∷ b ∷ []) ↔ AreNearPlaces p q

-- positions are one place exactly if their latitudes are equal and their longitudes differ by whole turns of 360
-- degrees
abbrev pub OnePlaceExactly : Type 0
OnePlaceExactly =
    (x y : Position) → AreOnePlace x y
    ↔ ((degrees (lat_of x) ≃ degrees (lat_of y))
    × ((turns : ℤ)
    × (plus (degrees (lon_of x)) (record { num = pos 360 *ℤ turns; den = 1 }) ≃ degrees (lon_of y))))

-- half a degree north at 180 degrees is one place, as other fractions and with the other sign
abbrev pub OnePlaceAt180 : Type 0
OnePlaceAt180 =
    (x y : Position) → degrees (lat_of x) ≡ record { num = pos 1; den = 2 }
    → degrees (lon_of x) ≡ record { num = pos 180; den = 1 }
    → degrees (lat_of y) ≡ record { num = pos 2; den = 4 }
    → degrees (lon_of y) ≡ record { num = neg_ℤ (pos 540); den = 3 }
    → AreOnePlace x y

-- a world stands still exactly if all arrivals of a sender come from one place
abbrev pub StandsExactly : Type 0
StandsExactly =
    (world : World) → IsStanding world
    ↔ ((a b : Arrival) → Contains world a → Contains world b → IsTrue (are_of_one_sender a.squitter b.squitter)
    → AreOnePlace a.position b.position)

-- a world stands still if each sender keeps one position
abbrev pub OnePositionStands : Type 0
OnePositionStands =
    (world : World)
    → ((a b : Arrival) → Contains world a → Contains world b → IsTrue (are_of_one_sender a.squitter b.squitter)
    → a.position ≡ b.position)
    → IsStanding world

-- the entries of an address are those with that address, in order
pub record OfAddressExactly : Type 0 where
  pub none : (address : ℕ) → of_address address [] ≡ []
  pub own : (address : ℕ) (entry : Entry) (history : History) → (squitter_parts entry.squitter).address ≡ address
      → of_address address (entry ∷ history) ≡ entry ∷ of_address address history
  pub other : (address : ℕ) (entry : Entry) (history : History) → (squitter_parts entry.squitter).address ≢ address
      → of_address address (entry ∷ history) ≡ of_address address history

-- the exact meaning of a true result
pub record SaidExactly : Type 0 where
  pub fix : (a : Arrival) (place : Place) → IsTrueFix a (Fix place) ↔ IsTruePlace a place
  pub far : (a : Arrival) → ¬ IsTrueFix a Far
  pub fix_too : (a : Arrival) (place : Place) → IsTruePlaceHeard a (Fix place) ↔ IsTruePlace a place
  pub followed : (a : Arrival) (place : Place) → IsTruePlaceHeard a (Followed place) ↔ IsTruePlace a place
  pub far_too : (a : Arrival) → ¬ IsTruePlaceHeard a Far
  pub heard : (a : Arrival) (heard : Heard) → IfHeard IsTrueFix a (Ok heard) ↔ IsTrueFix a heard
  pub heard_too : (a : Arrival) (heard : Heard) → IfHeard IsTruePlaceHeard a (Ok heard) ↔ IsTruePlaceHeard a heard

-- out of memory is a possible reply exactly if the call may be accepted
abbrev pub MemoryExactly : Type 0
MemoryExactly =
    (settings : Settings) (history : History) (moment : ℕ) (squitter : Squitter)
    → IsReply settings history moment squitter (Err Memory) ↔ IsAcceptable settings history moment squitter

-- the position of this parity that a side holds
abbrev pub kept_of : Parity → Side → Option Received
kept_of Even side = side.even
kept_of Odd side = side.odd

-- the side of a contact for this kind
abbrev pub side_of : Kind → Contact → Side
side_of InAir contact = contact.airborne
side_of OnGround contact = contact.surface

abbrev pub other_kind : Kind → Kind
other_kind InAir = OnGround
other_kind OnGround = InAir

-- a squitter has at most one result by what a contact holds
abbrev pub OneHearing : Type 0
OneHearing =
    (window : ℕ) (site : Option Position) (moment : ℕ) (squitter : Squitter) (before x y : Contact)
    (heard other : Heard) → IsContactHearing window site moment squitter before heard x
    → IsContactHearing window site moment squitter before other y → heard ≡ other

-- the result is the one by each history that the contact remembers, and afterwards the contact remembers the history
-- with the squitter in front
abbrev pub HearingRemembers : Type 0
HearingRemembers =
    (window : ℕ) (site : Option Position) (moment : ℕ) (squitter : Squitter) (before after : Contact)
    (heard : Heard) (history : History) → IsContactHearing window site moment squitter before heard after
    → Remembers window (squitter_parts squitter).address history before → IsInTime history moment
    → IsHeard window site history moment squitter heard
    × Remembers window (squitter_parts squitter).address
    (record { moment = moment; squitter = squitter; heard = heard } ∷ history) after

-- A position squitter is stored under its kind and parity, and the contact has its timestamp. The last fix becomes
-- the position of the result's place; without a place it is unchanged. The frame of the other parity and the side of
-- the other kind are unchanged.
abbrev pub KeepsPosition : (moment : ℕ) → Squitter → Heard → Kind → Parity → (before after : Contact) → Type 0
KeepsPosition moment squitter heard kind parity before after =
    (kept_of parity (side_of kind after) ≡ Some (record { moment = moment; squitter = squitter }))
    × (of_other_parity parity (side_of kind after) ≡ of_other_parity parity (side_of kind before))
    × ((place : Place) → place_heard heard ≡ Some place → (position : Position) × IsPositionOf place position
    × ((side_of kind after).fix ≡ Some (record { moment = moment; position = position })))
    × (place_heard heard ≡ None → (side_of kind after).fix ≡ (side_of kind before).fix)
    × (side_of (other_kind kind) after ≡ side_of (other_kind kind) before) × (after.moment ≡ moment)

-- a contact keeps a position squitter
abbrev pub HearingKeeps : Type 0
HearingKeeps =
    (window : ℕ) (site : Option Position) (moment : ℕ) (squitter : Squitter) (before after : Contact)
    (heard : Heard) (kind : Kind) (head : HeadParts kind) (parity : Parity) (code : Code)
    → IsContactHearing window site moment squitter before heard after
    → (squitter_parts squitter).me ≡ me_of kind head parity code
    → KeepsPosition moment squitter heard kind parity before after

-- a message without a position changes nothing
abbrev pub HearingKeepsNothing : Type 0
HearingKeepsNothing =
    (window : ℕ) (site : Option Position) (moment : ℕ) (squitter : Squitter) (before after : Contact)
    (heard : Heard) → IsContactHearing window site moment squitter before heard after
    → ¬ IsPosition (squitter_parts squitter).me → after ≡ before

-- the result for one arrival of a slow world is true, if the tracker's replies are true in slow worlds
abbrev pub TrueOfOne : Type 0
TrueOfOne =
    (tracker : Held) (world : World) (history : History) (arrival : Arrival) (heard : Heard)
    → AreTrueInSlowWorlds tracker (received_of arrival ∷ []) (Ok heard ∷ []) → StandsFor tracker history
    → ArisesFrom world history → IsSlow tracker.window tracker.site world → IsSlowForFollowing tracker.window world
    → Contains world arrival → IsTruePlaceHeard arrival heard

-- An accepted position squitter is kept by the entry of its address, whatever the tracker held before. Where the
-- tracker held no entry of the address, it is kept by a blank one.
abbrev pub EntryKeeps : Type 0
EntryKeeps =
    (moment : ℕ) (squitter : Squitter) (old new : Held) (heard : Heard) (kind : Kind) (head : HeadParts kind)
    (parity : Parity) (code : Code)
    → IsHeardByEntries moment squitter old new (Ok heard)
    → (squitter_parts squitter).me ≡ me_of kind head parity code
    → (after : Contact) × (lookup (nat_eq (squitter_parts squitter).address) new.contacts ≡ Some after)
    × KeepsPosition moment squitter heard kind parity (contact_of old.contacts (squitter_parts squitter).address) after

-- Two trackers with the same window and site that hold the same entry of an address, whatever it is, give the same
-- result for an accepted position of the address. Afterwards they hold the same entry of it again.
abbrev pub AsTheTracker : Type 0
AsTheTracker =
    (moment : ℕ) (squitter : Squitter) (t u new other : Held) (heard reply : Heard)
    → IsPosition (squitter_parts squitter).me → t.window ≡ u.window → t.site ≡ u.site
    → lookup (nat_eq (squitter_parts squitter).address) t.contacts
    ≡ lookup (nat_eq (squitter_parts squitter).address) u.contacts
    → IsHeardByEntries moment squitter t new (Ok heard) → IsHeardByEntries moment squitter u other (Ok reply)
    → (heard ≡ reply) × (lookup (nat_eq (squitter_parts squitter).address) new.contacts
    ≡ lookup (nat_eq (squitter_parts squitter).address) other.contacts)
