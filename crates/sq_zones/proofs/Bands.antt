-- Bands of latitudes: the number of limits that are at least a number.
use Rattle.std.proofs.Common.{◌≡◌, ℕ, zero, suc, ◌+◌, ◌-◌, ◌*◌, ◌/◌, ◌^◌, ◌<◌, ◌≤◌, Bool, true, false, cond, ◌&&◌}
use Rattle.std.proofs.Common.{nat_le, nat_lt, List, [], ◌∷◌, map, length, take, drop, get_or, slice_index, count_by}
use Rattle.std.proofs.Common.{refl, ap, ◌∙◌, sym, subst, arith, true≢false, leb-true, le-leb, ltb-true}
use Rattle.std.proofs.lemmas.List.{length-drop}
use Rattle.std.proofs.lemmas.List.FromFn.{get_or-map-range_with_len}
use Rattle.std.proofs.lemmas.List.Sums.{sum_by-cons}
use Rattle.std.specs.List.{range_with_len}
use Rattle.sq_zones.specs.declared.zones.TheConstants.{LIMIT_OF_BAND, ZONE_LIMITS}

-- each is at least `high`
abbrev all_from : ℕ → List ℕ → Bool
all_from high [] = true
all_from high (z ∷ zs) = nat_le high z && all_from high zs

-- each is below `low`
abbrev all_below : ℕ → List ℕ → Bool
all_below low [] = true
all_below low (z ∷ zs) = nat_lt z low && all_below low zs

-- both parts of a conjunction
both : (a b : Bool) → (a && b) ≡ true → (a ≡ true) × (b ≡ true)
both true b e = (refl, e)
both false b e = absurd (true≢false (sym e))

module _ (s : ℕ) where
  -- the number of limits that are at least s
  abbrev pub counted : List ℕ → ℕ
  counted zs = count_by (λ z. nat_le s z) zs

  -- the count of a list is that of its first limit plus that of the rest
  counted-cons : (z : ℕ) (zs : List ℕ) → counted (z ∷ zs) ≡ cond (nat_le s z) 1 0 + counted zs
  counted-cons z zs = sum_by-cons (λ y. cond (nat_le s y) 1 0) z zs

  -- all limits count if they are at least `high`, and `high` is at least s
  all_counted : (high : ℕ) (zs : List ℕ) → all_from high zs ≡ true → s ≤ high → counted zs ≡ length zs
  all_counted high [] w h = refl
  all_counted high (z ∷ zs) w h =
      let parts = both (nat_le high z) (all_from high zs) w in
      let counts : nat_le s z ≡ true = le-leb s z (omega (arith, leb-true high z parts.0, h)) in
      let step = counted-cons z zs ∙ ap (λ b. cond b 1 0 + counted zs) counts in
      omega (arith, step, all_counted high zs parts.1 h)

  -- no limit counts if all are below `low`, and `low` is at most s
  none_counted : (low : ℕ) (zs : List ℕ) → all_below low zs ≡ true → low ≤ s → counted zs ≡ 0
  none_counted low [] w h = refl
  none_counted low (z ∷ zs) w h =
      let parts = both (nat_lt z low) (all_below low zs) w in
      let less = ltb-true z low parts.0 in
      let passed : nat_le s z ≡ false = only_false (nat_le s z) (λ e. omega (arith, leb-true s z e, less, h)) in
      let step = counted-cons z zs ∙ ap (λ b. cond b 1 0 + counted zs) passed in
      omega (arith, step, none_counted low zs parts.1 h)
    where
      only_false : (b : Bool) → (b ≡ true → ⊥) → b ≡ false
      only_false true not_true = absurd (not_true refl)
      only_false false not_true = refl

  -- the count is that of the limits before an index, of the one at the index and of those after it
  counted_at : (k : ℕ) (zs : List ℕ) → k < length zs
      → counted zs ≡ counted (take k zs) + (cond (nat_le s (slice_index zs k)) 1 0 + counted (drop (suc k) zs))
  counted_at k [] h = absurd (omega (arith, h))
  counted_at zero (z ∷ zs) h = omega (arith, counted-cons z zs)
  counted_at (suc k) (z ∷ zs) h =
      omega (arith, counted-cons z zs, counted-cons z (take k zs), counted_at k zs (omega (arith, h)))

-- the limits before the index of the band's limit are below the band, and those after it are at least its last number
abbrev is_band : ℕ → Bool
is_band i =
    let place = slice_index LIMIT_OF_BAND i in
    (nat_le place 57 && all_from ((i + 1) * 2 ^ 25 - 1) (drop (suc place) ZONE_LIMITS))
    && all_below (i * 2 ^ 25) (take place ZONE_LIMITS)

-- every band meets `is_band`
bands_are : map is_band (range_with_len 0 269) ≡ map (λ _. true) (range_with_len 0 269)
bands_are = refl

band_is : (i : ℕ) → i < 269 → is_band i ≡ true
band_is i small =
    sym (get_or-map-range_with_len is_band 0 269 i i true small (omega arith))
    ∙ ap (λ t. get_or t i true) bands_are ∙ get_or-map-range_with_len (λ _. true) 0 269 i i true small (omega arith)

-- the number of limits that are at least s: those after the band's limit, and that limit if it is one of them
abbrev pub by_band : (s place : ℕ) → ℕ
by_band s place = 57 - place + cond (nat_le s (slice_index ZONE_LIMITS place)) 1 0

-- the parts of `is_band` for a band
bands_parts : (i : ℕ) → i < 269 → (slice_index LIMIT_OF_BAND i ≤ 57)
    × (all_from ((i + 1) * 2 ^ 25 - 1) (drop (suc (slice_index LIMIT_OF_BAND i)) ZONE_LIMITS) ≡ true)
    × (all_below (i * 2 ^ 25) (take (slice_index LIMIT_OF_BAND i) ZONE_LIMITS) ≡ true)
bands_parts i small =
    let place = slice_index LIMIT_OF_BAND i in
    let all = both (nat_le place 57 && all_from ((i + 1) * 2 ^ 25 - 1) (drop (suc place) ZONE_LIMITS))
    (all_below (i * 2 ^ 25) (take place ZONE_LIMITS)) (band_is i small) in
    let first = both (nat_le place 57) (all_from ((i + 1) * 2 ^ 25 - 1) (drop (suc place) ZONE_LIMITS)) all.0 in
    (leb-true place 57 first.0, first.1, all.1)

-- the index of a band's limit is within the table
pub place_small : (s : ℕ) → s ≤ 9 * 10 ^ 9 → slice_index LIMIT_OF_BAND (s / 2 ^ 25) ≤ 57
place_small s small = (bands_parts (s / 2 ^ 25) (omega arith)).0

-- `by_band` counts the limits if all before an index are below the band and all after it are at least its last number
counted_by : (s i place : ℕ) → place ≤ 57 → i * 2 ^ 25 ≤ s → s < (i + 1) * 2 ^ 25
    → all_from ((i + 1) * 2 ^ 25 - 1) (drop (suc place) ZONE_LIMITS) ≡ true
    → all_below (i * 2 ^ 25) (take place ZONE_LIMITS) ≡ true → by_band s place ≡ counted s ZONE_LIMITS
counted_by s i place few from to above below =
    let others : counted s (drop (suc place) ZONE_LIMITS) ≡ length (drop (suc place) ZONE_LIMITS) =
    all_counted s ((i + 1) * 2 ^ 25 - 1) (drop (suc place) ZONE_LIMITS) above (omega (arith, to)) in
    let long : length (drop (suc place) ZONE_LIMITS) ≡ 58 - suc place = length-drop (suc place) ZONE_LIMITS in
    let here = counted_at s place ZONE_LIMITS (omega (arith, few)) in
    let none = none_counted s (i * 2 ^ 25) (take place ZONE_LIMITS) below from in
    omega (arith, here, none, others, long, few)

-- `by_band` counts the limits for every number up to 90 degrees
pub banded : (s place : ℕ) → s ≤ 9 * 10 ^ 9 → place ≡ slice_index LIMIT_OF_BAND (s / 2 ^ 25)
    → by_band s place ≡ counted s ZONE_LIMITS
banded s place small is =
    let i = s / 2 ^ 25 in
    let parts = bands_parts i (omega arith) in
    counted_by s i place (subst (λ n. n ≤ 57) (sym is) parts.0) (omega arith) (omega arith)
    (subst (λ n. all_from ((i + 1) * 2 ^ 25 - 1) (drop (suc n) ZONE_LIMITS) ≡ true) (sym is) parts.1)
    (subst (λ n. all_below (i * 2 ^ 25) (take n ZONE_LIMITS) ≡ true) (sym is) parts.2)
