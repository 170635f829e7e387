-- What a tracker holds gives one reply to a squitter, and one tracker afterwards.
use Rattle.std.proofs.Common.{◌≡◌, ◌∙◌, ◌⊎◌, ℕ, ◌≤◌, ◌<◌, Bool, true, false, leb, ◌++◌, ◌∷◌, [], length, Option}
use Rattle.std.proofs.Common.{Some, None, Ok, Err, inl, inr, refl, sym, ap, arith, subst}
use Rattle.std.proofs.lemmas.Bool.{leb-true, leb-false}
use Rattle.std.proofs.Props.{props}
use mathlib.Core.HLevel.{is_prop→PathP}
use Rattle.sq_angle.specs.Angle.{degrees}
use Rattle.sq_angle.specs.Bounds.{IsAngle}
use Rattle.sq_angle.specs.Fraction.{Fraction}
use Rattle.sq_angle.specs.declared.angle.Angle.{Angle}
use Rattle.sq_angle.specs.declared.position.Position.{Position}
use Rattle.sq_angle.proofs.OnePosition.{one_position}
use Rattle.sq_message.specs.declared.squitter.Me.{Me}
use Rattle.sq_message.specs.declared.squitter.Me.TheVariants as kinds
use Rattle.sq_message.specs.declared.squitter.Squitter.{Squitter}
use Rattle.sq_message.specs.declared.place.Place.{Place}
use Rattle.sq_message.specs.declared.received.Received.{Received}
use Rattle.sq_message.specs.Parts.{squitter_parts}
use Rattle.sq_message.specs.Places.{IsPosition, IsPositionOf}
use Rattle.sq_message.proofs.OnePlace.{some_local}
use Rattle.sq_track.specs.declared.contact.Contact.{Contact}
use Rattle.sq_track.specs.declared.contact.LastFix.{LastFix}
use Rattle.sq_track.specs.declared.heard.Heard.{Heard}
use Rattle.sq_track.specs.declared.heard.Heard.TheVariants.{NotPosition, Waiting, Split}
use Rattle.sq_track.specs.declared.heard.TrackFault.TheVariants.{Full, Memory, MomentBack, NoLimit}
use Rattle.sq_track.specs.Answers.{IsHeardByKept, IsHeardNearPosition, LooksToFix, heard_near}
use Rattle.sq_track.specs.ByEntries.{IsFullOfEntries, IsPassed, MemoryByEntries}
use Rattle.sq_track.specs.ByEntries.{AreHeardByEntries, OneByEntries, OneEachByEntries, SomeByEntries, fresh_at}
use Rattle.sq_track.specs.ByEntries.{others_at}
use Rattle.sq_track.specs.Entries.{IsNotBack}
use Rattle.sq_track.specs.Held.{Held, contact_of}
use Rattle.sq_track.specs.History.{place_heard}
use Rattle.sq_track.specs.Kept.{IsFixAfter, IsFixWith, IsHearingByKept, contact_with, fix_in, pair_in, recent_position}
use Rattle.sq_track.specs.Kept.{recent_squitter}
use Rattle.sq_track.proofs.Histories.ByKept.{one_answer_by_kept}
use Rattle.sq_track.proofs.Histories.OwnPlaces.{IfHeardPlace, kept_own, place_own}
use Rattle.sq_track.proofs.Histories.SomeAnswer.{in_time_or_back, own_on_grid, position_of_place, some_of_pair}
use Rattle.sq_track.proofs.Table.EntryLemmas.{Entries}

-- ---- one reply

-- angles of one fraction are equal
one_angle : (a b : Angle) → degrees a ≡ degrees b → a ≡ b
one_angle a b same =
    let num = ap (λ (f : Fraction). f.num) same in
    let den = ap (λ (f : Fraction). f.den) same in
    λ i. record {
      num = num i;
      den = den i;
      in_range = is_prop→PathP (λ j. IsAngle (num j) (den j)) (λ j. hlevel props) a.in_range b.in_range i;
    }

-- a place has one position
pub one_position_of : (place : Place) (x y : Position) → IsPositionOf place x → IsPositionOf place y → x ≡ y
one_position_of place x y h k =
    one_position x y (one_angle x.lat y.lat (h.lat ∙ sym k.lat)) (one_angle x.lon y.lon (h.lon ∙ sym k.lon))

one_fix_with : (m : ℕ) (place : Option Place) (before x y : Option LastFix) → IsFixWith m place before x
    → IsFixWith m place before y → x ≡ y
one_fix_with m None before x y h k = h ∙ sym k
one_fix_with m (Some place) before x y (p, at, is) (q, there, be) =
    is ∙ ap (λ (o : Position). Some (record { moment = m; position = o })) (one_position_of place p q at there) ∙ sym be

-- a squitter leaves one contact
pub one_hearing_by_kept : (w : ℕ) (site : Option Position) (m : ℕ) (q : Squitter) (before x y : Contact)
    (heard other : Heard) → IsHearingByKept w site m q before heard x → IsHearingByKept w site m q before other y
    → (heard ≡ other) × (x ≡ y)
one_hearing_by_kept w site m q before x y heard other h k =
    let one = one_answer_by_kept w site before m q heard other h.by_kept k.by_kept in
    let (fix, fixed, is) = h.kept in
    let (also, fixed_also, be) = k.kept in
    let me = (squitter_parts q).me in
    let same = one_fix_with m (place_heard other) (fix_in before me) fix also
    (subst (λ (o : Heard). IsFixAfter m o (fix_in before me) fix) one fixed) fixed_also in
    let frame : Received = record { moment = m; squitter = q } in
    (one, is ∙ ap (λ (f : Option LastFix). contact_with me frame f before) same ∙ sym be)

position_or_not : (me : Me) → IsPosition me ⊎ (¬ (IsPosition me))
position_or_not (kinds.Airborne a) = inl tt
position_or_not (kinds.Surface s) = inl tt
position_or_not (kinds.Other o) = inr (λ x. x)

one_passed : (m : ℕ) (q : Squitter) (t : Held) (heard other : Heard) (x y : Entries) → IsPassed m q t heard x
    → IsPassed m q t other y → (heard ≡ other) × (x ≡ y)
one_passed m q t heard other x y h k = elim (position_or_not (squitter_parts q).me) [
  | inr none ↦ ((h.other none).0 ∙ sym (k.other none).0, (h.other none).1 ∙ sym (k.other none).1)
  | inl here ↦
      let a = h.position here in
      let b = k.position here in
      let one = one_hearing_by_kept t.window t.site m q (contact_of t.contacts (squitter_parts q).address) a.after
      b.after heard other a.hearing b.hearing in (
        one.0,
        a.entries_are
            ∙ ap (λ (c : Contact). others_at m q t ++ ((squitter_parts q).address, c) ∷ []) one.1
            ∙ sym b.entries_are,
      )
]

-- a timestamp in time is not before the last
not_back : {X : Type 0} (last : Option ℕ) (m l : ℕ) → IsNotBack last m → last ≡ Some l → m < l → X
not_back last m l le is before =
    let later : l ≤ m = subst (λ (o : Option ℕ). IsNotBack o m) is le in absurd (omega (arith, later, before))

pub one_by_entries : OneByEntries
one_by_entries m q t new other (Ok x) (Ok y) h k left right =
    let one = one_passed m q t x y left.1.0 right.1.0 left.1.1 right.1.1 in (
      ap (λ (o : Heard). Ok o) one.0,
      left.1.2 ∙ ap (λ (es : Entries). record t { last = Some m; contacts = es }) one.1 ∙ sym right.1.2,
    )
one_by_entries m q t new other (Ok x) (Err (MomentBack l)) h k left right =
    not_back t.last m l left.0.in_time right.0 right.1
one_by_entries m q t new other (Err (MomentBack l)) (Ok y) h k left right =
    not_back t.last m l right.0.in_time left.0 left.1
one_by_entries m q t new other (Ok x) (Err Full) h k left right = absurd (left.0.room right.1)
one_by_entries m q t new other (Err Full) (Ok y) h k left right = absurd (right.0.room left.1)
one_by_entries m q t new other (Err (MomentBack l)) (Err (MomentBack n)) h k left right =
    let same : l ≡ n = cc (sym left.0 ∙ right.0) in (
      ap (λ (o : ℕ). Err (MomentBack o)) same,
      left.2 ∙ sym right.2,
    )
one_by_entries m q t new other (Err (MomentBack l)) (Err Full) h k left right =
    not_back t.last m l right.0 left.0 left.1
one_by_entries m q t new other (Err Full) (Err (MomentBack l)) h k left right =
    not_back t.last m l left.0 right.0 right.1
one_by_entries m q t new other (Err Full) (Err Full) h k left right = (refl, left.2 ∙ sym right.2)
one_by_entries m q t new other (Err Memory) y h k left right = absurd (h refl)
one_by_entries m q t new other x (Err Memory) h k left right = absurd (k refl)
one_by_entries m q t new other (Err NoLimit) y h k left right = absurd left
one_by_entries m q t new other x (Err NoLimit) h k left right = absurd right

pub one_each_by_entries : OneEachByEntries
one_each_by_entries [] t new other [] [] h k left right = (refl, left ∙ sym right)
one_each_by_entries [] t new other [] (y ∷ ys) h k left right = absurd right
one_each_by_entries [] t new other (x ∷ xs) ys h k left right = absurd left
one_each_by_entries (one ∷ later) t new other [] ys h k left right = absurd left
one_each_by_entries (one ∷ later) t new other (x ∷ xs) [] h k left right = absurd right
one_each_by_entries (one ∷ later) t new other (x ∷ xs) (y ∷ ys) h k (u, first, rest) (v, also, others) =
    let same = one_by_entries one.moment one.squitter t u v x y h.0 k.0 first also in
    let next = one_each_by_entries later u new other xs ys h.1 k.1 rest
    (subst (λ (w : Held). AreHeardByEntries later w other ys) (sym same.1) others) in
    ((λ i. same.0 i ∷ next.0 i), next.1)

-- ---- some reply

some_near : (fix : Option Position) (q : Squitter) (of_pair : Heard)
    → (heard : Heard) × IsHeardNearPosition fix q of_pair heard
some_near None q of_pair = (of_pair, refl)
some_near (Some position) q of_pair =
    let local = some_local (squitter_parts q).me position in (heard_near of_pair local.0, (local.0, local.1, refl))

some_after : (fix : Option Position) (q : Squitter) (of_pair : Heard)
    → (heard : Heard) × LooksToFix (IsHeardNearPosition fix q) of_pair heard
some_after fix q Waiting = some_near fix q Waiting
some_after fix q (Split even odd) = some_near fix q (Split even odd)
some_after fix q of_pair = (of_pair, refl)

some_fix : (m : ℕ) (me : Me) (heard : Heard) (before : Option LastFix) → IfHeardPlace me heard
    → (fix : Option LastFix) × IsFixAfter m heard before fix
some_fix m me heard before own = by (place_heard heard) refl
  where
    by : (o : Option Place) → place_heard heard ≡ o
        → (fix : Option LastFix) × IsFixWith m (place_heard heard) before fix
    by None e = (before, subst (λ (o : Option Place). IsFixWith m o before before) (sym e) refl)
    by (Some place) e =
        let at = position_of_place place (own_on_grid me place (place_own me heard place e own)) in
        let fix : Option LastFix = Some (record { moment = m; position = at.0 }) in
        (fix, subst (λ (o : Option Place). IsFixWith m o before fix) (sym e) (at.0, at.1, refl))

pub some_hearing_by_kept : (w : ℕ) (site : Option Position) (m : ℕ) (q : Squitter) (before : Contact)
    → (heard : Heard) × (after : Contact) × IsHearingByKept w site m q before heard after
some_hearing_by_kept w site m q before =
    let me = (squitter_parts q).me in
    let older = recent_squitter w m (pair_in before me) in
    let near = recent_position w m (fix_in before me) in
    let pair = some_of_pair site older q in
    let heard = some_after near q pair.0 in
    let by : IsHeardByKept site older near q heard.0 =
    record { of_pair = pair.0; pair = pair.1; after = heard.1 } in
    let fix = some_fix m me heard.0 (fix_in before me) (kept_own site older near q heard.0 by) in
    let after = contact_with me (record { moment = m; squitter = q }) fix.0 before in
    (heard.0, after, record { by_kept = by; kept = (fix.0, fix.1, refl) })

some_passed : (m : ℕ) (q : Squitter) (t : Held) → (heard : Heard) × (entries : Entries) × IsPassed m q t heard entries
some_passed m q t = elim (position_or_not (squitter_parts q).me) [
  | inr none ↦ (
    NotPosition,
    fresh_at m t,
    record { position = λ here. absurd (none here); other = λ _. (refl, refl) },
  )
  | inl here ↦
      let a = (squitter_parts q).address in
      let one = some_hearing_by_kept t.window t.site m q (contact_of t.contacts a) in (
        one.0,
        others_at m q t ++ (a, one.1) ∷ [],
        record {
          position = λ _. record { after = one.1; hearing = one.2; entries_are = refl };
          other = λ none. absurd (none here);
        },
      )
]

full_or_room : (m : ℕ) (q : Squitter) (t : Held) → IsFullOfEntries m q t ⊎ (¬ (IsFullOfEntries m q t))
full_or_room m q t = elim (position_or_not (squitter_parts q).me) [
  | inr none ↦ inr (λ full. none full.position)
  | inl here ↦ by here (leb t.limit (length (others_at m q t))) refl
]
  where
    by : IsPosition (squitter_parts q).me → (b : Bool) → leb t.limit (length (others_at m q t)) ≡ b
        → IsFullOfEntries m q t ⊎ (¬ (IsFullOfEntries m q t))
    by here true e = inl (record { position = here; others = leb-true t.limit (length (others_at m q t)) e })
    by here false e = inr (λ full.
        let l = leb-false t.limit (length (others_at m q t)) e in absurd (omega (arith, l, full.others)))

pub some_by_entries : SomeByEntries
some_by_entries m q t = elim (in_time_or_back t.last m) [
  | inr back ↦ (t, Err (MomentBack back.0), (back.1, back.2, refl), λ bad. absurd (cc bad))
  | inl in_time ↦ elim (full_or_room m q t) [
    | inl full ↦ (t, Err Full, (in_time, full, refl), λ bad. absurd (cc bad))
    | inr room ↦
        let some = some_passed m q t in (
          record t { last = Some m; contacts = some.1 },
          Ok some.0,
          (record { in_time = in_time; room = room }, (some.1, some.2, refl)),
          λ bad. absurd (cc bad),
        )
  ]
]

pub memory_by_entries : MemoryByEntries
memory_by_entries m q t = (λ is. (is.0, is.1, is.2), λ is. (is.0, is.1, is.2, refl))
