-- What a tracker may hold for an address: only positions of that address, each in the field of its kind and parity,
-- and fixes at points of the grid of their kind.
use Rattle.std.specs.Prelude.{◌≡◌, ⊤, ℕ, ◌+◌, Bool, true, false, not, ◌&&◌, ◌||◌, ◌==◌, nat_le, Option, Some, None}
use Rattle.std.specs.Prelude.{is_some}
use Rattle.sq_angle.specs.declared.position.Position.{Position}
use Rattle.sq_cpr.specs.Grid.{IsGridPoint, Point, latitude, longitude}
use Rattle.sq_cpr.specs.Span.{Span, air, ground}
use Rattle.sq_zones.specs.declared.parity.Parity.{Parity}
use Rattle.sq_zones.specs.declared.parity.Parity.TheVariants.{Even, Odd}
use Rattle.sq_message.specs.declared.received.Received.{Received}
use Rattle.sq_message.specs.declared.squitter.Me.{Me}
use Rattle.sq_message.specs.declared.squitter.Me.TheVariants as kinds
use Rattle.sq_message.specs.Parts.{squitter_parts}
use Rattle.sq_message.specs.Places.{IsAt}
use Rattle.sq_track.specs.declared.contact.Contact.{Contact}
use Rattle.sq_track.specs.declared.contact.LastFix.{LastFix}
use Rattle.sq_track.specs.declared.contact.Side.{Side}

abbrev pub are_one_parity : Parity → Parity → Bool
are_one_parity Even Even = true
are_one_parity Odd Odd = true
are_one_parity p q = false

-- the message is a position of the parity, in the air or on the ground
abbrev pub is_position_of : (in_air : Bool) → Parity → Me → Bool
is_position_of in_air parity (kinds.Airborne a) = in_air && are_one_parity parity a.parity
is_position_of in_air parity (kinds.Surface s) = not in_air && are_one_parity parity s.parity
is_position_of in_air parity (kinds.Other other) = false

-- a stored frame is a position of this address, kind and parity, at or before the newest
abbrev pub is_frame_of : (address newest : ℕ) → (in_air : Bool) → Parity → Option Received → Bool
is_frame_of address newest in_air parity None = true
is_frame_of address newest in_air parity (Some frame) = nat_le frame.moment newest
    && ((squitter_parts frame.squitter).address == address
    && is_position_of in_air parity (squitter_parts frame.squitter).me)

-- the frame was received at or after the timestamp
abbrev pub is_since : (moment : ℕ) → Option Received → Bool
is_since moment None = false
is_since moment (Some frame) = nat_le moment frame.moment

-- the side holds a position that was received at or after the timestamp
abbrev pub has_since : (moment : ℕ) → Side → Bool
has_since moment side = is_since moment side.even || is_since moment side.odd

abbrev pub is_side_of : (address newest : ℕ) → (in_air : Bool) → Side → Bool
is_side_of address newest in_air side = is_frame_of address newest in_air Even side.even
    && is_frame_of address newest in_air Odd side.odd

-- a tracker may hold the frames of the contact for the address
abbrev pub is_contact_of : (address : ℕ) → Contact → Bool
is_contact_of address c = is_side_of address c.moment true c.airborne
    && (is_side_of address c.moment false c.surface
    && (has_since c.moment c.airborne || has_since c.moment c.surface))

-- an address with its newest position at this timestamp is present at the last timestamp
abbrev pub is_present_at : (window : ℕ) → (last : Option ℕ) → (moment : ℕ) → Bool
is_present_at window None moment = false
is_present_at window (Some last) moment = nat_le moment last && nat_le last (moment + window)

-- ---- fixes

-- the position is that of a point of the span's grid with this parity, as the same fractions
abbrev pub IsPointAt : Span → Parity → Position → Type 0
IsPointAt span parity position = (point : Point) × (point.parity ≡ parity) × IsGridPoint span point
    × IsAt (latitude span point) (longitude span point) position

-- the side holds a frame of this parity that was received at or after the timestamp, and a frame of the other parity
abbrev pub has_frames_of : Parity → (moment : ℕ) → Side → Bool
has_frames_of Even moment side = is_since moment side.even && is_some side.odd
has_frames_of Odd moment side = is_since moment side.odd && is_some side.even

-- A fix of a side, at a point of this parity. The first fix comes from a pair, and the squitter that gave a fix is kept
-- until a newer one of its parity comes. So frames of both parities are there.
pub record IsPlacedFix (span : Span) (parity : Parity) (side : Side) (fix : LastFix) : Type 0 where
  pub frames : has_frames_of parity fix.moment side ≡ true
  pub position : IsPointAt span parity fix.position

-- the fix of the side, if there is one, is at a point of either parity
abbrev pub IfPlaced : Span → Side → Option LastFix → Type 0
IfPlaced span side None = ⊤
IfPlaced span side (Some fix) = (parity : Parity) × IsPlacedFix span parity side fix

-- each fix of the contact is at a point of its kind's grid
abbrev pub AreFixesPlaced : Contact → Type 0
AreFixesPlaced c = IfPlaced air c.airborne c.airborne.fix × IfPlaced ground c.surface c.surface.fix
