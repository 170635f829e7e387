-- The result by the stored state is the result by a history if its last fix has the stored position.
use Rattle.std.proofs.Common.{◌≡◌, ◌∙◌, ap, sym, subst, Option, Some, None}
use Rattle.sq_angle.specs.declared.position.Position.{Position}
use Rattle.sq_message.specs.declared.squitter.Squitter.{Squitter}
use Rattle.sq_message.specs.declared.place.Place.{Place}
use Rattle.sq_message.specs.Parts.{squitter_parts}
use Rattle.sq_message.proofs.OnePlace.{one_local_place}
use Rattle.sq_track.specs.declared.heard.Heard.{Heard}
use Rattle.sq_track.specs.declared.heard.Heard.TheVariants.{Waiting, Split}
use Rattle.sq_track.specs.Answers.{IsHeardAfter, IsHeardByKept, IsHeardNear, IsHeardNearPosition, IsHeardWith}
use Rattle.sq_track.specs.Answers.{LooksToFix, heard_near}
use Rattle.sq_track.specs.Kept.{IsFixAt, fix_in, pair_in, recent_position, recent_squitter}
use Rattle.sq_track.specs.Laws.{OneAnswerByKept}
use Rattle.sq_track.proofs.Histories.OneAnswer.{one_after, one_of_pair}

-- a result near the position of a place is a result near the place
near_of_position : (last : Option Place) (fix : Option Position) (q : Squitter) (of_pair heard : Heard)
    → IsFixAt last fix → IsHeardNearPosition fix q of_pair heard → IsHeardNear last q of_pair heard
near_of_position None None q of_pair heard at near = near
near_of_position None (Some position) q of_pair heard at near = absurd at
near_of_position (Some place) None q of_pair heard at near = absurd at
near_of_position (Some place) (Some position) q of_pair heard at (answer, local, is) =
    (answer, (position, at, local), is)

-- a result that looks to the position of a place is a result that looks to the place
after_of_position : (last : Option Place) (fix : Option Position) (q : Squitter) (of_pair heard : Heard)
    → IsFixAt last fix → LooksToFix (IsHeardNearPosition fix q) of_pair heard → IsHeardAfter last q of_pair heard
after_of_position last fix q Waiting heard at is = near_of_position last fix q Waiting heard at is
after_of_position last fix q (Split e o) heard at is = near_of_position last fix q (Split e o) heard at is
after_of_position last fix q of_pair heard at is = is

-- the result by the stored state is the result with the place of the stored position
pub heard_with_place : (site : Option Position) (older : Option Squitter) (last : Option Place) (fix : Option Position)
    (q : Squitter) (heard : Heard) → IsFixAt last fix → IsHeardByKept site older fix q heard
    → IsHeardWith site older last q heard
heard_with_place site older last fix q heard at by = record {
  of_pair = by.of_pair;
  pair = by.pair;
  after = after_of_position last fix q by.of_pair heard at by.after;
}

-- near one stored position there is at most one result
one_near_position : (fix : Option Position) (q : Squitter) (of_pair x y : Heard) → IsHeardNearPosition fix q of_pair x
    → IsHeardNearPosition fix q of_pair y → x ≡ y
one_near_position None q of_pair x y h k = h ∙ sym k
one_near_position (Some position) q of_pair x y (answer, h, is) (other, k, be) =
    is ∙ ap (heard_near of_pair) (one_local_place q position answer other h k) ∙ sym be

pub one_answer_by_kept : OneAnswerByKept
one_answer_by_kept window site contact moment q x y h k =
    let older = recent_squitter window moment (pair_in contact (squitter_parts q).me) in
    let fix = recent_position window moment (fix_in contact (squitter_parts q).me) in
    let same : h.of_pair ≡ k.of_pair = one_of_pair site older q h.of_pair k.of_pair h.pair k.pair in
    one_after (IsHeardNearPosition fix q) (one_near_position fix q) k.of_pair x y
    (subst (λ of_pair. LooksToFix (IsHeardNearPosition fix q) of_pair x) same h.after) k.after
