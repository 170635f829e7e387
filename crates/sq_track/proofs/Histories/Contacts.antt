-- The whole effect of a squitter on a contact.
use Rattle.std.proofs.Common.{◌≡◌, ℕ, Option, Some, None, ap, refl, sym, subst}
use Rattle.sq_angle.specs.declared.position.Position.{Position}
use Rattle.sq_cpr.specs.declared.code.Code.{Code}
use Rattle.sq_zones.specs.declared.parity.Parity.{Parity}
use Rattle.sq_zones.specs.declared.parity.Parity.TheVariants.{Even, Odd}
use Rattle.sq_message.specs.declared.place.Place.{Place}
use Rattle.sq_message.specs.declared.squitter.Me.{Me}
use Rattle.sq_message.specs.declared.squitter.Me.TheVariants as kinds
use Rattle.sq_message.specs.declared.squitter.Squitter.{Squitter}
use Rattle.sq_message.specs.Kinds.{Kind, HeadParts, InAir, OnGround, me_of}
use Rattle.sq_message.specs.Parts.{squitter_parts}
use Rattle.sq_message.specs.Places.{IsPosition, IsPositionOf}
use Rattle.sq_track.specs.declared.contact.Contact.{Contact}
use Rattle.sq_track.specs.declared.contact.LastFix.{LastFix}
use Rattle.sq_track.specs.declared.contact.Side.{Side}
use Rattle.sq_track.specs.declared.heard.Heard.{Heard}
use Rattle.sq_track.specs.History.{place_heard}
use Rattle.sq_track.specs.Kept.{IsFixAfter, IsFixWith, contact_with, fix_in, of_other_parity, side_with}
use Rattle.sq_track.specs.Pinned.{HearingKeeps, HearingKeepsNothing, HearingRemembers, KeepsPosition, OneHearing}
use Rattle.sq_track.specs.Pinned.{kept_of, other_kind, side_of}
use Rattle.sq_track.proofs.Histories.ByKept.{one_answer_by_kept}

pub one_hearing : OneHearing
one_hearing window site m q before x y heard other h k =
    one_answer_by_kept window site before m q heard other h.by_kept k.by_kept

pub hearing_remembers : HearingRemembers
hearing_remembers window site m q before after heard history h kept in_time =
    (h.answers history kept in_time, h.remembers history kept in_time)

-- what a side holds after a squitter of its kind and parity
record KeepsAfter (moment : ℕ) (squitter : Squitter) (heard : Heard) (parity : Parity) (old new : Side) : Type 0 where
  own : kept_of parity new ≡ Some (record { moment = moment; squitter = squitter })
  other : of_other_parity parity new ≡ of_other_parity parity old
  placed : (place : Place) → place_heard heard ≡ Some place → (position : Position) × IsPositionOf place position
      × (new.fix ≡ Some (record { moment = moment; position = position }))
  not_placed : place_heard heard ≡ None → new.fix ≡ old.fix

-- a side with a squitter of its kind holds what it should
keeps_after : (m : ℕ) (q : Squitter) (heard : Heard) (parity : Parity) (fix : Option LastFix) (old : Side)
    → IsFixAfter m heard old.fix fix
    → KeepsAfter m q heard parity old (side_with parity (record { moment = m; squitter = q }) fix old)
keeps_after m q heard Even fix old h = record {
  own = refl;
  other = refl;
  placed = λ place is. subst (λ o. IsFixWith m o old.fix fix) is h;
  not_placed = λ none. subst (λ o. IsFixWith m o old.fix fix) none h;
}
keeps_after m q heard Odd fix old h = record {
  own = refl;
  other = refl;
  placed = λ place is. subst (λ o. IsFixWith m o old.fix fix) is h;
  not_placed = λ none. subst (λ o. IsFixWith m o old.fix fix) none h;
}

-- the fix and the contact after a message are those after an equal message
module _ (m : ℕ) (q : Squitter) (heard : Heard) (fix : Option LastFix) (before after : Contact) (me : Me)
    (is : (squitter_parts q).me ≡ me) where
  fix_of : IsFixAfter m heard (fix_in before (squitter_parts q).me) fix → IsFixAfter m heard (fix_in before me) fix
  fix_of h = subst (λ x. IsFixAfter m heard (fix_in before x) fix) is h

  kept_after : after ≡ contact_with (squitter_parts q).me (record { moment = m; squitter = q }) fix before
      → after ≡ contact_with me (record { moment = m; squitter = q }) fix before
  kept_after h = subst (λ x. after ≡ contact_with x (record { moment = m; squitter = q }) fix before) is h

-- what a contact holds after a position of the kind
keeps : (m : ℕ) (q : Squitter) (heard : Heard) (fix : Option LastFix) (before after : Contact) (kind : Kind)
    (head : HeadParts kind) (parity : Parity) (code : Code)
    → IsFixAfter m heard (fix_in before (me_of kind head parity code)) fix
    → after ≡ contact_with (me_of kind head parity code) (record { moment = m; squitter = q }) fix before
    → KeepsAfter m q heard parity (side_of kind before) (side_of kind after)
    × (side_of (other_kind kind) after ≡ side_of (other_kind kind) before) × (after.moment ≡ m)
keeps m q heard fix before after InAir head parity code fix_is is = (
  subst (KeepsAfter m q heard parity before.airborne) (sym (ap (λ (c : Contact). c.airborne) is))
      (keeps_after m q heard parity fix before.airborne fix_is),
  ap (λ (c : Contact). c.surface) is,
  ap (λ (c : Contact). c.moment) is,
)
keeps m q heard fix before after OnGround head parity code fix_is is = (
  subst (KeepsAfter m q heard parity before.surface) (sym (ap (λ (c : Contact). c.surface) is))
      (keeps_after m q heard parity fix before.surface fix_is),
  ap (λ (c : Contact). c.airborne) is,
  ap (λ (c : Contact). c.moment) is,
)

-- a position is kept by the contact that it leaves
pub keeps_position : (m : ℕ) (q : Squitter) (heard : Heard) (before after : Contact) (kind : Kind)
    (head : HeadParts kind) (parity : Parity) (code : Code)
    → ((fix : Option LastFix) × IsFixAfter m heard (fix_in before (squitter_parts q).me) fix
    × (after ≡ contact_with (squitter_parts q).me (record { moment = m; squitter = q }) fix before))
    → (squitter_parts q).me ≡ me_of kind head parity code → KeepsPosition m q heard kind parity before after
keeps_position m q heard before after kind head parity code (fix, fix_is, after_is) is =
    let me = me_of kind head parity code in
    let (side, aside, moment) = keeps m q heard fix before after kind head parity code
    (fix_of m q heard fix before after me is fix_is) (kept_after m q heard fix before after me is after_is) in
    (side.own, side.other, side.placed, side.not_placed, aside, moment)

pub hearing_keeps : HearingKeeps
hearing_keeps window site m q before after heard kind head parity code h is =
    keeps_position m q heard before after kind head parity code h.kept is

-- a message without a position changes nothing
nothing : (me : Me) (m : ℕ) (q : Squitter) (fix : Option LastFix) (before after : Contact) → ¬ IsPosition me
    → after ≡ contact_with me (record { moment = m; squitter = q }) fix before → after ≡ before
nothing (kinds.Airborne a) m q fix before after none h = absurd (none tt)
nothing (kinds.Surface s) m q fix before after none h = absurd (none tt)
nothing (kinds.Other o) m q fix before after none h = h

pub hearing_keeps_nothing : HearingKeepsNothing
hearing_keeps_nothing window site m q before after heard h none =
    let (fix, fix_is, after_is) = h.kept in nothing (squitter_parts q).me m q fix before after none after_is
