-- Lists of ASCII characters.
use Rattle.std.proofs.Common.{◌≡◌, ℕ, ◌<◌, Bool, true, false, ◌&&◌, List, [], ◌∷◌, nat_lt, refl, sym, true≢false}
use Rattle.std.proofs.lemmas.Bool.{ltb-true}
use Rattle.std.proofs.lemmas.Str.Ascii.{IsAscii-cons, IsAscii-nil}
use Rattle.std.specs.List.{list_all}
use Rattle.std.specs.Str.{IsAscii}

both : (a b : Bool) → (a && b) ≡ true → (a ≡ true) × (b ≡ true)
both true b e = (refl, e)
both false b e = absurd (true≢false (sym e))

-- a list of bytes below 128 is a list of ASCII characters
pub ascii_from : (bs : List ℕ) → list_all (λ b. nat_lt b 128) bs ≡ true → IsAscii bs
ascii_from [] e = IsAscii-nil
ascii_from (b ∷ bs) e =
    let parts = both _ _ e in
    IsAscii-cons b bs (ltb-true b 128 parts.0) (ascii_from bs parts.1)

-- one character
pub IsAscii-one : (c : ℕ) → c < 128 → IsAscii (c ∷ [])
IsAscii-one c small = IsAscii-cons c [] small IsAscii-nil
