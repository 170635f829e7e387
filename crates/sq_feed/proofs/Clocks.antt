-- Counts of a receiver's clock that are continued.
use Rattle.std.proofs.Common.{◌≡◌, ◌+◌, ◌-◌, ◌%◌, ◌^◌, ◌≤◌, ◌<◌, ◌∙◌, ℕ, Bool, true, false, [], ◌∷◌, refl, ap, ap₂, arith}
use Rattle.std.specs.Prelude.{min, nat_lt, if◌then◌else◌}
use Rattle.std.proofs.lemmas.Bool.Decides.{nat_tests}
use Rattle.sq_feed.specs.Clock.{Counted, HasCounted, IsNearby, KeepsTheTime, ahead_of, count_of, followed}
use Rattle.sq_feed.specs.Clock.{most, turn}

-- the count of a value, by whether it counts forwards
count_by : (before : Counted) (shown : ℕ) (b : Bool) → nat_lt (ahead_of before.last shown) (2 ^ 47) ≡ b
    → count_of before shown ≡ (if b then min (before.elapsed + ahead_of before.last shown) most
    else before.elapsed + ahead_of before.last shown - turn)
count_by before shown b is = ap
    (λ (forward : Bool). if forward then min (before.elapsed + ahead_of before.last shown) most
    else before.elapsed + ahead_of before.last shown - turn) is

forwards : (ahead : ℕ) → ahead < 2 ^ 47 → nat_lt ahead (2 ^ 47) ≡ true
forwards ahead less = grind (arith, nat_tests, less)

backwards : (ahead : ℕ) → 2 ^ 47 ≤ ahead → nat_lt ahead (2 ^ 47) ≡ false
backwards ahead more = grind (arith, nat_tests, more)

ahead_is : (ticks next : ℕ) → ticks ≤ next → next < ticks + 2 ^ 47
    → (next % turn + turn - ticks % turn) % turn ≡ next - ticks
ahead_is ticks next le near = omega (arith, le, near)

behind_is : (ticks next : ℕ) → next < ticks → ticks < next + 2 ^ 47
    → (next % turn + turn - ticks % turn) % turn ≡ turn - (ticks - next)
behind_is ticks next less near = omega (arith, less, near)

one_count : (before : Counted) (start first ticks next : ℕ) → HasCounted before start first ticks
    → IsNearby start first ticks next → count_of before (next % turn) + first ≡ start + next
one_count before start first ticks next has near = by (nat_lt next ticks) refl
  where
    by : (b : Bool) → nat_lt next ticks ≡ b → count_of before (next % turn) + first ≡ start + next
    by true is =
        let less : next < ticks = grind (arith, nat_tests, is) in
        let behind : ahead_of before.last (next % turn) ≡ turn - (ticks - next) =
        ap (λ last. (next % turn + turn - last) % turn) has.shown ∙ behind_is ticks next less near.before in
        let count = count_by before (next % turn) false (backwards (ahead_of before.last (next % turn))
        (omega (arith, behind, less, near.before))) in
        omega (arith, count, behind, less, near.before, near.counted, has.passed)
    by false is =
        let le : ticks ≤ next = grind (arith, nat_tests, is) in
        let ahead : ahead_of before.last (next % turn) ≡ next - ticks =
        ap (λ last. (next % turn + turn - last) % turn) has.shown ∙ ahead_is ticks next le near.after in
        let count = count_by before (next % turn) true (forwards (ahead_of before.last (next % turn))
        (omega (arith, ahead, le, near.after))) in
        omega (arith, count, ahead, le, near.small, has.passed)

pub keeps_the_time : KeepsTheTime
keeps_the_time before start first ticks [] has near = refl
keeps_the_time before start first ticks (next ∷ more) has (near, others) =
    let is = one_count before start first ticks next has near in
    ap₂ (λ m ms. m ∷ ms) is
    (keeps_the_time (followed before (next % turn)) start first next more (record { shown = refl; passed = is }) others)
