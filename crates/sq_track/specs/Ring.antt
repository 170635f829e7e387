-- Links between the indices of a table, which lead through all of them and back to the first.
use Rattle.std.specs.Prelude.{◌≡◌, ℕ, ◌+◌, ◌^◌, ◌<◌, ◌≤◌, List, [], ◌∷◌, length, map, slice_index, nat_eq, if◌then◌else◌}
use Rattle.std.specs.Prelude.{Some, is_some, slice_get, take, true, unwrap_or}
use Rattle.std.specs.List.{IsDistinct}
use Rattle.std.specs.Map.{keys_of, lookup}
use Rattle.sq_track.specs.Ordered.{IsTied, blank_contact, has_address, others_than}
use Rattle.sq_track.specs.declared.contact.Contact.{Contact}
use Rattle.sq_track.specs.declared.links.Neighbours.{Neighbours}

abbrev pub address_at : List (ℕ × Contact) → ℕ → ℕ
address_at es i = slice_index (keys_of es) i

-- the index heard next after an index, and the one heard before it
abbrev pub after_at : List Neighbours → ℕ → ℕ
after_at ls i = slice_index (map (λ l. l.after) ls) i

abbrev pub before_at : List Neighbours → ℕ → ℕ
before_at ls i = slice_index (map (λ l. l.before) ls) i

-- as many indices as the list is long: the first is `i`, and each is followed by the index that its link leads to
abbrev pub chain : {X : Type 0} → (ℕ → ℕ) → List X → ℕ → List ℕ
chain after [] i = []
chain after (x ∷ xs) i = i ∷ chain after xs (after i)

-- all indices in the order of last hearing, and their addresses in a table
abbrev pub round : List Neighbours → ℕ → List ℕ
round ls oldest = chain (after_at ls) ls oldest

abbrev pub addresses_in : List (ℕ × Contact) → List Neighbours → ℕ → List ℕ
addresses_in es ls oldest = map (address_at es) (round ls oldest)

-- the last index is renamed to the removed one; all others keep their names
abbrev pub renamed : (out last : ℕ) → ℕ → ℕ
renamed out last k = if nat_eq k last then out else k

-- from one index the links lead through a list to another
abbrev pub IsPath : (ℕ → ℕ) → ℕ → List ℕ → ℕ → Type 0
IsPath after from [] to = after from ≡ to
IsPath after from (i ∷ is) to = (after from ≡ i) × IsPath after i is to

-- the links lead through the list, and from its end back to its front
abbrev pub IsRing : (ℕ → ℕ) → List ℕ → Type 0
IsRing after [] = Unit {0}
IsRing after (i ∷ is) = IsPath after i is i

-- each index below `n` leads to one below `n`, and that one leads back
pub record IsPaired (n : ℕ) (one other : ℕ → ℕ) : Type 0 where
  pub within : (k : ℕ) → k < n → one k < n
  pub back : (k : ℕ) → k < n → other (one k) ≡ k

-- the links lead from the oldest index through all others and back to it
pub record IsRound (ls : List Neighbours) (oldest : ℕ) : Type 0 where
  pub within : 0 < length ls → oldest < length ls
  pub forward : IsPaired (length ls) (after_at ls) (before_at ls)
  pub backward : IsPaired (length ls) (before_at ls) (after_at ls)
  pub ring : IsRing (after_at ls) (round ls oldest)

-- a table and its round have the same addresses, each once, and each index fits a link of 32 bits
pub record IsLinkedTable (es : List (ℕ × Contact)) (ls : List Neighbours) (oldest : ℕ) : Type 0 where
  pub tied : IsTied es (addresses_in es ls oldest)
  pub is_round : IsRound ls oldest
  pub few : length es ≤ 2 ^ 32

-- an index is on the round, which has each index once
pub record IsOnRound (ls : List Neighbours) (oldest at : ℕ) : Type 0 where
  pub within : at < length ls
  pub is_round : IsRound ls oldest
  pub distinct : IsDistinct nat_eq (round ls oldest)
  pub known : has_address at (round ls oldest) ≡ true

-- the last index is linked to itself, and the indices before it form a round
pub record IsEntered (ls : List Neighbours) (oldest at : ℕ) : Type 0 where
  pub last : length ls ≡ at + 1
  pub is_round : IsRound (take at ls) oldest
  pub distinct : IsDistinct nat_eq (round (take at ls) oldest)
  pub after : after_at ls at ≡ at
  pub before : before_at ls at ≡ at

-- the same links, except that the next index of `from` is `to`, and the previous index of `to` is `from`
pub record IsLinking (from to : ℕ) (ls ms : List Neighbours) : Type 0 where
  pub after : (k : ℕ) → after_at ms k ≡ (if nat_eq k from then to else after_at ls k)
  pub before : (k : ℕ) → before_at ms k ≡ (if nat_eq k to then from else before_at ls k)
  pub long : length ms ≡ length ls

-- an address has its old entry or a blank one, and the other addresses keep their order
pub record IsReached (address at : ℕ) (es fs : List (ℕ × Contact)) (ls ms : List Neighbours) (from to : ℕ)
    : Type 0 where
  pub within : at < length fs
  pub entry : slice_get fs at ≡ Some (address, unwrap_or (lookup (nat_eq address) es) blank_contact)
  pub distinct : IsDistinct nat_eq (keys_of fs)
  pub on_round : IsOnRound ms to at
  pub others : map (address_at fs) (others_than at (round ms to)) ≡ others_than address (addresses_in es ls from)
  pub contacts : (k : ℕ) → lookup (nat_eq k) fs
      ≡ (if nat_eq address k then Some (unwrap_or (lookup (nat_eq address) es) blank_contact)
      else lookup (nat_eq k) es)
  pub long : length fs ≡ length es + (if is_some (lookup (nat_eq address) es) then 0 else 1)
