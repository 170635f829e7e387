-- Counting on a receiver's clock.
use Rattle.std.specs.Prelude.{◌≡◌, ◌+◌, ◌-◌, ◌%◌, ◌^◌, ◌<◌, ◌≤◌, ⊤, ℕ, Bool, true, false, List, [], ◌∷◌, map}
use Rattle.std.specs.Prelude.{min, nat_lt, if◌then◌else◌}

-- The count runs at 12 MHz. A receiver sends its low 48 bits.
abbrev pub turn : ℕ
turn = 2 ^ 48

-- the ticks of a millisecond
abbrev pub rate : ℕ
rate = 12000

abbrev pub most : ℕ
most = 2 ^ 64 - 1

-- the state of a clock: the latest 48-bit value that is believed, its count, and whether there is one
pub record Counted : Type 0 where
  pub last : ℕ
  pub elapsed : ℕ
  pub is_heard : Bool

abbrev pub unheard : Counted
unheard = record { last = 0; elapsed = 0; is_heard = false }

-- the state before the first value of another connection
abbrev pub restarted : Counted → Counted
restarted before = record before { is_heard = false }

-- the state in which a 48-bit value has this count
abbrev pub counted_at : (shown count : ℕ) → Counted
counted_at shown count = record { last = shown; elapsed = count; is_heard = true }

-- The ticks from one 48-bit value to the next, counted forwards: less than a turn.
abbrev pub ahead_of : (last shown : ℕ) → ℕ
ahead_of last shown = (shown + turn - last) % turn

-- The count of a 48-bit value: the one nearest to the latest count, or 0 if that would be below 0.
abbrev pub count_of : Counted → ℕ → ℕ
count_of before shown =
    if nat_lt (ahead_of before.last shown) (2 ^ 47) then min (before.elapsed + ahead_of before.last shown) most
    else before.elapsed + ahead_of before.last shown - turn

-- the ticks from one 48-bit value back to another, or 0 if the other is nearer ahead
abbrev pub back_of : (last shown : ℕ) → ℕ
back_of last shown = if nat_lt (ahead_of last shown) (2 ^ 47) then 0 else turn - ahead_of last shown

-- the state after a value is believed
abbrev pub followed : Counted → ℕ → Counted
followed before shown = counted_at shown (count_of before shown)

-- ---- laws

-- The state agrees with a receiver's true count, of any size, which is now `ticks`. The ticks counted were `start`
-- when the true count was `first`.
pub record HasCounted (counted : Counted) (start first ticks : ℕ) : Type 0 where
  pub shown : counted.last ≡ ticks % turn
  pub passed : counted.elapsed + first ≡ start + ticks

-- The next true count is less than half a turn after or before this one. It is counted from 0 on, below 2^64.
pub record IsNearby (start first ticks next : ℕ) : Type 0 where
  pub after : next < ticks + 2 ^ 47
  pub before : ticks < next + 2 ^ 47
  pub counted : first ≤ start + next
  pub small : start + next < first + 2 ^ 64

-- true counts in order
abbrev pub AreNearby : (start first ticks : ℕ) → List ℕ → Type 0
AreNearby start first ticks [] = ⊤
AreNearby start first ticks (next ∷ more) = IsNearby start first ticks next × AreNearby start first next more

-- the counts of 48-bit values, if each is believed
abbrev pub counts_of : Counted → List ℕ → List ℕ
counts_of before [] = []
counts_of before (shown ∷ more) = count_of before shown ∷ counts_of (followed before shown) more

-- While no gap is half a turn (135 days), forwards or backwards, the counts are the true counts plus a constant,
-- however often the 48 bits wrap. So two counts are as far apart as the true counts.
abbrev pub KeepsTheTime : Type 0
KeepsTheTime = (before : Counted) (start first ticks : ℕ) (counts : List ℕ)
    → HasCounted before start first ticks → AreNearby start first ticks counts
    → map (λ n. n + first) (counts_of before (map (λ n. n % turn) counts)) ≡ map (λ n. start + n) counts
