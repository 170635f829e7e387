-- How much memory a listener takes.
use Rattle.std.specs.Prelude.{◌≡◌, ◌+◌, ◌*◌, ◌^◌, ◌<◌, ◌≤◌, ◌⊎◌, ℕ}

-- The number of groups of a table with room for twice as many addresses: the least power of two that is enough.
pub record AreGroupsFor (addresses groups : ℕ) : Type 0 where
  pub exponent : ℕ
  pub is_power : groups ≡ 2 ^ exponent
  pub enough : 2 * addresses ≤ 9 * groups
  pub least : (exponent ≡ 0) ⊎ (9 * groups < 4 * addresses)

-- The bytes for a limit of addresses, and one more that comes while the longest silent one leaves: a home of 1280, the
-- groups of the table, and the links.
pub record IsRoomFor (limit bytes : ℕ) : Type 0 where
  pub groups : ℕ
  pub are_groups : AreGroupsFor (limit + 1) groups
  pub bytes_are : bytes ≡ 1280 + groups * 2848 + (limit + 1) * 8

-- a limit has at most one size in bytes
abbrev pub OneSize : Type 0
OneSize = (limit a b : ℕ) → IsRoomFor limit a → IsRoomFor limit b → a ≡ b
