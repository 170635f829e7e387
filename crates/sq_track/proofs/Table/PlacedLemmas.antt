-- The fixes that a tracker keeps are at points of the grid, beside frames of both parities.
use Rattle.std.proofs.Common.{◌≡◌, ◌∙◌, ◌⊎◌, ℕ, ◌≤◌, true, false, leb, Option, Some, None, is_some, inl, inr, refl, sym, ap}
use Rattle.std.proofs.Common.{arith, subst}
use Rattle.std.proofs.lemmas.Bool.{false≢true, le-leb}
use Rattle.sq_angle.specs.declared.position.Position.{Position}
use Rattle.sq_cpr.specs.Span.{Span, air, ground}
use Rattle.sq_zones.specs.declared.parity.Parity.{Parity}
use Rattle.sq_zones.specs.declared.parity.Parity.TheVariants.{Even, Odd}
use Rattle.sq_message.specs.Parts.{Airborne, Surface, squitter_parts}
use Rattle.sq_message.specs.Places.{IsPositionOf}
use Rattle.sq_message.specs.declared.place.Place.{Place}
use Rattle.sq_message.specs.declared.place.Place.TheVariants.{Air, Ground}
use Rattle.sq_message.specs.declared.received.Received.{Received}
use Rattle.sq_message.specs.declared.squitter.Me.{Me}
use Rattle.sq_message.specs.declared.squitter.Me.TheVariants as kinds
use Rattle.sq_message.specs.declared.squitter.Squitter.{Squitter}
use Rattle.sq_track.specs.declared.contact.Contact.{Contact}
use Rattle.sq_track.specs.declared.contact.LastFix.{LastFix}
use Rattle.sq_track.specs.declared.contact.Side.{Side}
use Rattle.sq_track.specs.declared.heard.Heard.{Heard}
use Rattle.sq_track.specs.declared.heard.Heard.TheVariants.{Waiting, Split}
use Rattle.sq_track.specs.Answers.{IsHeardByKept, IsHeardNearPosition, LooksToFix, heard_alone}
use Rattle.sq_track.specs.History.{place_heard}
use Rattle.sq_track.specs.Kept.{IsFixAfter, IsFixWith, IsHearingByKept, contact_with, fix_in, of_other_parity, pair_in}
use Rattle.sq_track.specs.Kept.{recent_position, recent_squitter, side_with}
use Rattle.sq_track.specs.Owned.{AreFixesPlaced, IfPlaced, IsPointAt, has_frames_of, is_since}
use Rattle.sq_track.specs.Replies.{is_position}
use Rattle.sq_track.proofs.Histories.OwnPlaces.{IfHeardPlace, IsOwnPlace, kept_own, place_own}
use Rattle.sq_track.proofs.Lists.Found.{none_is_some}
use Rattle.sq_track.proofs.Table.OwnLemmas.{AreOwn, both, first, fix_no_later, second}

-- ---- a side with a new frame

-- the frames of a fix are there also with a newer frame
frames_with : (r p : Parity) (k : ℕ) (frame : Received) (fix : Option LastFix) (s : Side) → k ≤ frame.moment
    → has_frames_of r k s ≡ true → has_frames_of r k (side_with p frame fix s) ≡ true
frames_with Even Even k frame fix s le h =
    both (leb k frame.moment) _ (le-leb k frame.moment le) (second (is_since k s.even) _ h)
frames_with Even Odd k frame fix s le h = both (is_since k s.even) _ (first (is_since k s.even) _ h) refl
frames_with Odd Odd k frame fix s le h =
    both (leb k frame.moment) _ (le-leb k frame.moment le) (second (is_since k s.odd) _ h)
frames_with Odd Even k frame fix s le h = both (is_since k s.odd) _ (first (is_since k s.odd) _ h) refl

placed_stays : (span : Span) (p : Parity) (frame : Received) (s : Side) (fix : Option LastFix)
    → ((f : LastFix) → fix ≡ Some f → f.moment ≤ frame.moment) → IfPlaced span s fix
    → IfPlaced span (side_with p frame fix s) fix
placed_stays span p frame s None before placed = tt
placed_stays span p frame s (Some f) before (r, is) =
    (r, record { frames = frames_with r p f.moment frame (Some f) s (before f refl) is.frames; position = is.position })

-- the frames of a new fix: its own, and the one of the other parity
frames_new : (p : Parity) (frame : Received) (fix : Option LastFix) (s : Side)
    → is_some (of_other_parity p s) ≡ true → has_frames_of p frame.moment (side_with p frame fix s) ≡ true
frames_new Even frame fix s other =
    both (leb frame.moment frame.moment) _ (le-leb frame.moment frame.moment (omega arith)) other
frames_new Odd frame fix s other =
    both (leb frame.moment frame.moment) _ (le-leb frame.moment frame.moment (omega arith)) other

-- ---- a side with a fix holds frames of both parities

since_some : (k : ℕ) (o : Option Received) → is_since k o ≡ true → is_some o ≡ true
since_some k None e = absurd (false≢true e)
since_some k (Some frame) e = refl

kept_by_fix : (span : Span) (s : Side) (fix : Option LastFix) (p : Parity) → IfPlaced span s fix → is_some fix ≡ true
    → is_some (of_other_parity p s) ≡ true
kept_by_fix span s None p placed e = absurd (false≢true e)
kept_by_fix span s (Some f) p (r, is) e = by p r is.frames
  where
    by : (p r : Parity) → has_frames_of r f.moment s ≡ true → is_some (of_other_parity p s) ≡ true
    by Even Even h = second (is_since f.moment s.even) _ h
    by Even Odd h = since_some f.moment s.odd (first (is_since f.moment s.odd) _ h)
    by Odd Even h = since_some f.moment s.even (first (is_since f.moment s.even) _ h)
    by Odd Odd h = second (is_since f.moment s.odd) _ h

-- ---- a result with a place comes from a counterpart or from a fix

looks_nowhere : (q : Squitter) (of_pair heard : Heard) → LooksToFix (IsHeardNearPosition None q) of_pair heard
    → heard ≡ of_pair
looks_nowhere q Waiting heard is = is
looks_nowhere q (Split even odd) heard is = is
looks_nowhere q of_pair heard is = is

alone_nowhere : (me : Me) → place_heard (heard_alone me) ≡ None
alone_nowhere (kinds.Airborne a) = refl
alone_nowhere (kinds.Surface s) = refl
alone_nowhere (kinds.Other o) = refl

from_kept : (site : Option Position) (older : Option Squitter) (fix : Option Position) (q : Squitter) (heard : Heard)
    (place : Place) → IsHeardByKept site older fix q heard → place_heard heard ≡ Some place
    → (is_some older ≡ true) ⊎ (is_some fix ≡ true)
from_kept site (Some older) fix q heard place by e = inl refl
from_kept site None (Some position) q heard place by e = inr refl
from_kept site None None q heard place by e =
    none_is_some place (sym (alone_nowhere (squitter_parts q).me)
    ∙ ap place_heard (sym (looks_nowhere q by.of_pair heard by.after ∙ by.pair)) ∙ e)

recent_frame : (w m : ℕ) (o : Option Received) → is_some (recent_squitter w m o) ≡ true → is_some o ≡ true
recent_frame w m None e = e
recent_frame w m (Some frame) e = refl

recent_fix : (w m : ℕ) (o : Option LastFix) → is_some (recent_position w m o) ≡ true → is_some o ≡ true
recent_fix w m None e = e
recent_fix w m (Some fix) e = refl

-- ---- a side after a squitter of its kind

fix_with : (p : Parity) (frame : Received) (fix : Option LastFix) (s : Side) → (side_with p frame fix s).fix ≡ fix
fix_with Even frame fix s = refl
fix_with Odd frame fix s = refl

module _ (span : Span) (p : Parity) (frame : Received) (s : Side) (heard : Heard)
    (own : (place : Place) → place_heard heard ≡ Some place → (position : Position) → IsPositionOf place position
    → IsPointAt span p position) (other : (place : Place) → place_heard heard ≡ Some place
    → is_some (of_other_parity p s) ≡ true) where
  side_placed : (fix : Option LastFix) → ((f : LastFix) → s.fix ≡ Some f → f.moment ≤ frame.moment)
      → IfPlaced span s s.fix → IsFixAfter frame.moment heard s.fix fix
      → IfPlaced span (side_with p frame fix s) (side_with p frame fix s).fix
  side_placed fix before placed fixed =
      subst (IfPlaced span (side_with p frame fix s)) (sym (fix_with p frame fix s)) (by (place_heard heard) refl)
    where
      by : (o : Option Place) → place_heard heard ≡ o → IfPlaced span (side_with p frame fix s) fix
      by None e =
          let same : fix ≡ s.fix = subst (λ (o : Option Place). IsFixWith frame.moment o s.fix fix) e fixed in
          subst (λ (o : Option LastFix). IfPlaced span (side_with p frame o s) o) (sym same)
          (placed_stays span p frame s s.fix before placed)
      by (Some place) e =
          let (position, at, is) =
          subst (λ (o : Option Place). IsFixWith frame.moment o s.fix fix) e fixed in
          let new : Option LastFix = Some (record { moment = frame.moment; position = position }) in
          subst (λ (o : Option LastFix). IfPlaced span (side_with p frame o s) o) (sym is) (
            p,
            record { frames = frames_new p frame new s (other place e); position = own place e position at },
          )

air_point : (x : Airborne) (place : Place) → IsOwnPlace (kinds.Airborne x) place → (position : Position)
    → IsPositionOf place position → IsPointAt air x.parity position
air_point x (Air point) own position at = (point, own.1, own.0, at)
air_point x (Ground point) own position at = absurd own

ground_point : (x : Surface) (place : Place) → IsOwnPlace (kinds.Surface x) place → (position : Position)
    → IsPositionOf place position → IsPointAt ground x.parity position
ground_point x (Air point) own position at = absurd own
ground_point x (Ground point) own position at = (point, own.1, own.0, at)

-- ---- a contact after a squitter

module _ (a w : ℕ) (site : Option Position) (frame : Received) (heard : Heard) (fix : Option LastFix) (c : Contact)
    (sides : AreOwn a c) (le : c.moment ≤ frame.moment) where
  placed_with : (me : Me) → is_position me ≡ true → IfHeardPlace me heard
      → IsHeardByKept site (recent_squitter w frame.moment (pair_in c me))
      (recent_position w frame.moment (fix_in c me)) frame.squitter heard
      → IsFixAfter frame.moment heard (fix_in c me) fix → AreFixesPlaced (contact_with me frame fix c)
  placed_with (kinds.Airborne x) pos at by fixed = (
    side_placed air x.parity frame c.airborne heard
        (λ place e. air_point x place (place_own (kinds.Airborne x) heard place e at))
        (λ place e. elim (from_kept site _ _ frame.squitter heard place by e) [
          | inl older ↦ recent_frame w frame.moment (of_other_parity x.parity c.airborne) older
          | inr near ↦ kept_by_fix air c.airborne c.airborne.fix x.parity sides.2.0
              (recent_fix w frame.moment c.airborne.fix near)
        ]) fix
        (λ f is. let old = fix_no_later air a c.moment true c.airborne f is sides.0 sides.2.0 in omega (arith, old, le))
        sides.2.0 fixed,
    sides.2.1,
  )
  placed_with (kinds.Surface x) pos at by fixed = (
    sides.2.0,
    side_placed ground x.parity frame c.surface heard
        (λ place e. ground_point x place (place_own (kinds.Surface x) heard place e at))
        (λ place e. elim (from_kept site _ _ frame.squitter heard place by e) [
          | inl older ↦ recent_frame w frame.moment (of_other_parity x.parity c.surface) older
          | inr near ↦ kept_by_fix ground c.surface c.surface.fix x.parity sides.2.1
              (recent_fix w frame.moment c.surface.fix near)
        ]) fix
        (λ f is. let old = fix_no_later ground a c.moment false c.surface f is sides.1 sides.2.1 in omega
        (arith, old, le))
        sides.2.1 fixed,
  )
  placed_with (kinds.Other x) pos at by fixed = absurd (false≢true pos)

-- the fixes of a contact are placed after a position of its address
pub placed_hearing : (a w : ℕ) (site : Option Position) (m : ℕ) (q : Squitter) (old new : Contact) (heard : Heard)
    → is_position (squitter_parts q).me ≡ true → AreOwn a old → old.moment ≤ m
    → IsHearingByKept w site m q old heard new → AreFixesPlaced new
placed_hearing a w site m q old new heard pos sides le h =
    let (fix, fixed, is) = h.kept in
    let me = (squitter_parts q).me in
    let at = kept_own site (recent_squitter w m (pair_in old me)) (recent_position w m (fix_in old me)) q heard
    h.by_kept in
    subst AreFixesPlaced (sym is)
    (placed_with a w site (record { moment = m; squitter = q }) heard fix old sides le me pos at h.by_kept fixed)
