-- Each element of the arrays has the result of the single call.
use Rattle.std.proofs.Common.{List, get_or, length, ◌<◌, ℕ, subst}
use Rattle.std.proofs.lemmas.List.{get_or_default}
use Rattle.squitter_c.specs.declared.plain.PlainPosition.{PlainPosition}
use Rattle.squitter_c.specs.Frames.{frame_of}
use Rattle.squitter_c.specs.Decoding.{IsLocal, IsPair, IsPairAt}
use Rattle.squitter_c.specs.E7.{IsPositionE7}
use Rattle.squitter_c.specs.Pinned.{OfEach}
use Rattle.squitter_c.specs.Reading.{IsFrameRead}

-- a property of the element at an index, read with one default, holds with any default
at_each : {A : Type 0} (P : A → Type 0) (xs : List A) (k : ℕ) (d e : A) → k < length xs → P (get_or xs k d)
    → P (get_or xs k e)
at_each P xs k d e below h = subst P (get_or_default xs k d e below) h

pub of_each : OfEach
of_each = record {
  read = λ frames k frame old new fault below. (
    λ h. h frame,
    λ h d. at_each (λ (f : List ℕ). IsFrameRead (frame_of f) old new fault) frames k frame d below h,
  );
  local = λ frames references k frame reference old new fault below too. (
    λ h. h frame reference,
    λ h d r. at_each (λ (f : List ℕ). IsLocal (frame_of f) (get_or references k r) old new fault) frames k frame d below
        (at_each (λ (x : PlainPosition). IsLocal (frame_of (get_or frames k frame)) x old new fault) references k
        reference r too h),
  );
  pair = λ older newer k frame old new fault below too. (
    λ h. h frame,
    λ h d. at_each (λ (f : List ℕ). IsPair (frame_of f) (frame_of (get_or newer k d)) old new fault) older k frame d
        below
        (at_each (λ (f : List ℕ). IsPair (frame_of (get_or older k frame)) (frame_of f) old new fault) newer k frame d
        too h),
  );
  pair_at = λ older newer site k frame old new fault below too. (
    λ h. h frame,
    λ h d. at_each (λ (f : List ℕ). IsPairAt (frame_of f) (frame_of (get_or newer k d)) site old new fault) older k
        frame d below
        (at_each (λ (f : List ℕ). IsPairAt (frame_of (get_or older k frame)) (frame_of f) site old new fault) newer k
        frame d too h),
  );
  e7 = λ positions k position old new fault below. (
    λ h. h position,
    λ h d. at_each (λ (x : PlainPosition). IsPositionE7 x old new fault) positions k position d below h,
  );
}
