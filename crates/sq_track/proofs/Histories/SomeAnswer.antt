-- Every history and call has a result.
use Rattle.std.proofs.Common.{◌≡◌, ◌∙◌, ◌⊎◌, inl, inr, ℕ, ◌*◌, ◌≤◌, ◌<◌, ◌^◌, Bool, true, false, cond, leb, ltb, []}
use Rattle.std.proofs.Common.{◌∷◌, ℤ, pos, ◌-ℤ◌, length, filter, find, not, Option, Some, None, IfSome, Ok, Err}
use Rattle.std.proofs.Common.{refl, sym, subst, arith}
use Rattle.std.specs.List.{AllByRecursion}
use Rattle.std.proofs.lemmas.Bool.{cases_lt, leb-true, leb-false, ltb-true, ltb-false}
use Rattle.std.proofs.lemmas.Int.{ints}
use Rattle.sq_angle.specs.declared.position.Position.{Position}
use Rattle.sq_angle.specs.declared.angle.Angle.{Angle}
use Rattle.sq_angle.specs.Angle.{degrees}
use Rattle.sq_angle.specs.Bounds.{IsAngle, IsPosition as IsOnGlobe}
use Rattle.sq_angle.specs.Fraction.{Fraction, IsWithin}
use Rattle.sq_angle.specs.Position.{lat_of, lon_of}
use Rattle.sq_zones.specs.declared.parity.Parity.{Parity}
use Rattle.sq_zones.specs.declared.parity.Parity.TheVariants.{Even, Odd}
use Rattle.sq_zones.proofs.ZoneBounds.{lon_zones_at-least, lon_zones_at-most}
use Rattle.sq_cpr.specs.Span.{Span, air, ground}
use Rattle.sq_cpr.specs.Grid.{Point, IsGridPoint, IsLatitude, grid_latitude, grid_longitude, latitude, longitude}
use Rattle.sq_message.specs.declared.squitter.Me.{Me}
use Rattle.sq_message.specs.declared.squitter.Me.TheVariants as kinds
use Rattle.sq_message.specs.declared.squitter.Squitter.{Squitter}
use Rattle.sq_message.specs.declared.place.Place.{Place}
use Rattle.sq_message.specs.declared.place.Place.TheVariants.{Air, Ground}
use Rattle.sq_message.specs.Parts.{squitter_parts}
use Rattle.sq_message.specs.Places.{IsPositionOf}
use Rattle.sq_message.proofs.OnePlace.{some_local, some_pair_place}
use Rattle.sq_track.specs.declared.heard.Heard.{Heard}
use Rattle.sq_track.specs.declared.heard.Heard.TheVariants.{Waiting, Split}
use Rattle.sq_track.specs.declared.heard.TrackFault.TheVariants.{MomentBack, Full}
use Rattle.sq_track.specs.History.{Entry, History, counterpart, last_fix, if_recent, is_fix_of}
use Rattle.sq_track.specs.History as past
use Rattle.sq_track.specs.Answers.{heard_alone, heard_of_pair, heard_near, IsHeardOfPair, IsHeardNear, IsHeardAfter}
use Rattle.sq_track.specs.Replies.{Settings, IsHistory, IsFull, is_position, is_of_address, last_moment, present}
use Rattle.sq_track.specs.Laws.{SomeAnswer, SomeReply}
use Rattle.sq_track.proofs.Lists.Found.{found, none_is_some}
use Rattle.sq_track.proofs.Histories.Entries.{recent_is}
use Rattle.sq_track.proofs.Histories.OwnPlaces.{IfHeardPlace, IsOwnPlace, local_own, of_near, of_pair_own, place_own}

-- ---- the place of a result lies on a grid, so it has a position

abbrev pub IsOnGrid : Place → Type 0
IsOnGrid (Air p) = IsGridPoint air p
IsOnGrid (Ground p) = IsGridPoint ground p

pub own_on_grid : (me : Me) (place : Place) → IsOwnPlace me place → IsOnGrid place
own_on_grid (kinds.Airborne a) (Air p) own = own.0
own_on_grid (kinds.Surface s) (Ground p) own = own.0
own_on_grid me place own = absurd own

near_own : (fix : Option Place) (q : Squitter) (of_pair heard : Heard) → IfHeardPlace (squitter_parts q).me of_pair
    → IsHeardNear fix q of_pair heard → IfHeardPlace (squitter_parts q).me heard
near_own None q of_pair heard h is = subst (IfHeardPlace (squitter_parts q).me) (sym is) h
near_own (Some fix) q of_pair heard h (answer, (r, at, local), is) =
    let me = (squitter_parts q).me in
    subst (IfHeardPlace me) (sym is) (of_near me of_pair answer h (local_own me r answer local))

after_own : (fix : Option Place) (q : Squitter) (of_pair heard : Heard) → IfHeardPlace (squitter_parts q).me of_pair
    → IsHeardAfter fix q of_pair heard → IfHeardPlace (squitter_parts q).me heard
after_own fix q Waiting heard h is = near_own fix q Waiting heard h is
after_own fix q (Split even odd) heard h is = near_own fix q (Split even odd) heard h is
after_own fix q of_pair heard h is = subst (IfHeardPlace (squitter_parts q).me) (sym is) h

each_own : (s : Settings) (history : History) → IsHistory s history
    → AllByRecursion (λ entry. IfHeardPlace (squitter_parts entry.squitter).me entry.heard) history
each_own s [] h = tt
each_own s (entry ∷ earlier) h = (
  after_own (last_fix s.window earlier entry.moment entry.squitter) entry.squitter h.0.1.of_pair entry.heard
      (of_pair_own s.site (counterpart s.window earlier entry.moment entry.squitter) entry.squitter h.0.1.of_pair
      h.0.1.pair) h.0.1.after,
  each_own s earlier h.1,
)

last_on_grid : (s : Settings) (history : History) (moment : ℕ) (q : Squitter) (place : Place) → IsHistory s history
    → last_fix s.window history moment q ≡ Some place → IsOnGrid place
last_on_grid s history moment q place accepted = by (if_recent s.window moment (find (is_fix_of q) history)) refl
  where
    by : (o : Option Entry) → if_recent s.window moment (find (is_fix_of q) history) ≡ o → past.place_of o ≡ Some place
        → IsOnGrid place
    by None e f = none_is_some place f
    by (Some c) e f =
        let here = recent_is s.window moment (find (is_fix_of q) history) c e in
        let me = (squitter_parts c.squitter).me in
        own_on_grid me place (place_own me c.heard place f
        (found (is_fix_of q) (λ entry. IfHeardPlace (squitter_parts entry.squitter).me entry.heard) history c here.0
        (each_own s history accepted)).0)

-- the position of fractions within their limits
made : (lat lon : Fraction) → IsAngle lat.num lat.den → IsAngle lon.num lon.den → IsOnGlobe lat lon
    → (x : Position) × (degrees (lat_of x) ≡ lat) × (degrees (lon_of x) ≡ lon)
made lat lon a b h =
    let north : Angle = record { num = lat.num; den = lat.den; in_range = a } in
    let east : Angle = record { num = lon.num; den = lon.den; in_range = b } in
    (record { lat = north; lon = east; in_range = h }, refl, refl)

lat_angle : (w : ℕ) (parity : Parity) (a : ℤ) → IsLatitude w parity a
    → IsAngle (grid_latitude w parity a).num (grid_latitude w parity a).den
lat_angle w Even a h = record { positive = omega arith; at_most = omega arith; within = omega (arith, h) }
lat_angle w Odd a h = record { positive = omega arith; at_most = omega arith; within = omega (arith, h) }

-- a longitude of the grid lies within 180 degrees
lon_within : (w zones b : ℕ) → w * b < 360 * (zones * 2 ^ 17) → IsWithin 180 (grid_longitude w zones b)
lon_within w zones b small = by (ltb (w * b) (180 * (zones * 2 ^ 17))) refl
  where
    by : (east : Bool) → ltb (w * b) (180 * (zones * 2 ^ 17)) ≡ east
        → IsWithin 180 (record {
          num = cond east (pos (w * b)) (pos (w * b) -ℤ pos (360 * (zones * 2 ^ 17)));
          den = zones * 2 ^ 17;
        })
    by true e = let l = ltb-true (w * b) (180 * (zones * 2 ^ 17)) e in omega (arith, l)
    by false e = let l = ltb-false (w * b) (180 * (zones * 2 ^ 17)) e in omega (arith, ints, l, small)

lon_angle : (w zones b : ℕ) → 1 ≤ zones → zones ≤ 59 → IsWithin 180 (grid_longitude w zones b)
    → IsAngle (grid_longitude w zones b).num (grid_longitude w zones b).den
lon_angle w zones b some few h =
    record { positive = omega (arith, some); at_most = omega (arith, few); within = omega (arith, h) }

zones_within : (span : Span) (p : Point) → IsGridPoint span p → (1 ≤ p.zones) × (p.zones ≤ 59)
zones_within span p h = (
  rw h.zones (lon_zones_at-least p.parity (latitude span p)),
  rw h.zones (lon_zones_at-most p.parity (latitude span p)),
)

pub position_of_place : (place : Place) → IsOnGrid place → (x : Position) × IsPositionOf place x
position_of_place (Air p) h =
    let z = zones_within air p h in
    let east = lon_within 360 p.zones p.lon_index (omega (arith, h.east_west)) in
    let x = made (latitude air p) (longitude air p) (lat_angle 360 p.parity p.lat_index h.north_south)
    (lon_angle 360 p.zones p.lon_index z.0 z.1 east)
    (record { latitude = h.north_south; longitude = east }) in
    (x.0, record { lat = x.1; lon = x.2 })
position_of_place (Ground p) h =
    let z = zones_within ground p h in
    let east = lon_within 90 p.zones p.lon_index (omega (arith, h.east_west)) in
    let x = made (latitude ground p) (longitude ground p) (lat_angle 90 p.parity p.lat_index h.north_south)
    (lon_angle 90 p.zones p.lon_index z.0 z.1 east)
    (record { latitude = h.north_south; longitude = east }) in
    (x.0, record { lat = x.1; lon = x.2 })

-- ---- the result

pub some_of_pair : (site : Option Position) (older : Option Squitter) (q : Squitter)
    → (heard : Heard) × IsHeardOfPair site older q heard
some_of_pair site None q = (heard_alone (squitter_parts q).me, refl)
some_of_pair site (Some older) q =
    let some = some_pair_place older q site in
    (heard_of_pair some.0, (some.0, some.1, refl))

some_near : (fix : Option Place) (q : Squitter) (of_pair : Heard)
    → ((place : Place) → fix ≡ Some place → IsOnGrid place) → (heard : Heard) × IsHeardNear fix q of_pair heard
some_near None q of_pair h = (of_pair, refl)
some_near (Some fix) q of_pair h =
    let at = position_of_place fix (h fix refl) in
    let local = some_local (squitter_parts q).me at.0 in
    (heard_near of_pair local.0, (local.0, (at.0, at.1, local.1), refl))

some_after : (fix : Option Place) (q : Squitter) (of_pair : Heard)
    → ((place : Place) → fix ≡ Some place → IsOnGrid place) → (heard : Heard) × IsHeardAfter fix q of_pair heard
some_after fix q Waiting h = some_near fix q Waiting h
some_after fix q (Split even odd) h = some_near fix q (Split even odd) h
some_after fix q of_pair h = (of_pair, refl)

pub some_answer : SomeAnswer
some_answer s history moment q accepted =
    let pair = some_of_pair s.site (counterpart s.window history moment q) q in
    let after = some_after (last_fix s.window history moment q) q pair.0
    (λ place e. last_on_grid s history moment q place accepted e) in
    (after.0, record { of_pair = pair.0; pair = pair.1; after = after.1 })

-- ---- the reply

-- a timestamp is in time, or before the last one
pub in_time_or_back : (o : Option ℕ) (moment : ℕ)
    → IfSome o (λ last. last ≤ moment) ⊎ ((last : ℕ) × (o ≡ Some last) × (moment < last))
in_time_or_back None moment = inl tt
in_time_or_back (Some last) moment = elim (cases_lt moment last) [
  | inl back ↦ inr (last, refl, back)
  | inr at_least ↦ inl at_least
]

full_or_room : (s : Settings) (history : History) (moment : ℕ) (q : Squitter)
    → IsFull s history moment q ⊎ (¬ (IsFull s history moment q))
full_or_room s history moment q = by (is_position (squitter_parts q).me) refl (leb s.limit others) refl
  where
    others : ℕ
    others = length (filter (λ entry. not (is_of_address (squitter_parts q).address entry))
        (present s.window moment history))

    by : (b : Bool) → is_position (squitter_parts q).me ≡ b → (c : Bool) → leb s.limit others ≡ c
        → IsFull s history moment q ⊎ (¬ (IsFull s history moment q))
    by true e true f = inl (record { position = e; others = leb-true s.limit others f })
    by true e false f = inr (λ full. let l = leb-false s.limit others f in absurd (omega (arith, l, full.others)))
    by false e c f = inr (λ full. let bad : ◌≡◌ {A = Bool} true false = sym full.position ∙ e in absurd (cc bad))

pub some_reply : SomeReply
some_reply s history moment q accepted = elim (in_time_or_back (last_moment history) moment) [
  | inr back ↦ (Err (MomentBack back.0), (back.1, back.2), λ bad. absurd (cc bad))
  | inl in_time ↦ elim (full_or_room s history moment q) [
    | inl full ↦ (Err Full, (in_time, full), λ bad. absurd (cc bad))
    | inr room ↦
        let some = some_answer s history moment q accepted in
        (Ok some.0, (record { in_time = in_time; room = room }, some.1), λ bad. absurd (cc bad))
  ]
]
