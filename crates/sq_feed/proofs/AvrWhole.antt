-- Whole words of AVR text at the front of a piece.
use Rattle.std.proofs.Common.{◌≡◌, ◌+◌, ◌*◌, ◌<◌, ◌≤◌, ◌++◌, ◌∙◌, ℕ, List, [], ◌∷◌, length, take, drop, get_or, false, suc}
use Rattle.std.proofs.Common.{ap, sym, subst, arith, take-add}
use Rattle.std.specs.Prelude.{Some, None}
use Rattle.std.proofs.lemmas.List.{take_more, length-drop, length-take}
use Rattle.sq_feed.specs.declared.avr.Edge.TheVariants.{LineEnd}
use Rattle.sq_feed.specs.declared.avr.Mark.{Mark}
use Rattle.sq_feed.specs.declared.message.Found.TheVariants.{Whole}
use Rattle.sq_feed.specs.declared.message.Message.{Message}
use Rattle.sq_feed.specs.declared.message.Size.TheVariants.{FourteenBytes}
use Rattle.sq_feed.specs.Avr.{AreHex, AvrSent, BegunWord, IsSent, IsWholeWord, avr_found, avr_from, avr_message, avr_to_come}
use Rattle.sq_feed.specs.Avr.{bytes_of, edge_of, lead, mark_of, word_of}
use Rattle.sq_feed.specs.Follows.{Follows}
use Rattle.sq_feed.proofs.AvrLemmas.{after_byte, after_mark}
use Rattle.sq_feed.proofs.Following.{follows_more}

-- a line end has no item if nothing is begun
end_follows : (byte : ℕ) → edge_of byte ≡ Some LineEnd → Follows avr_found (byte ∷ []) [] avr_found
unfolding Follows
end_follows byte is more = after_byte None [] byte more (Some LineEnd) is

pub one_end : (piece : List ℕ) → 0 < length piece → edge_of (get_or piece 0 0) ≡ Some LineEnd
    → Follows avr_found (take 1 piece) [] avr_found
one_end [] some is = absurd (omega (arith, some))
one_end (b ∷ piece) some is = end_follows b is

pub two_ends : (piece : List ℕ) → 2 ≤ length piece → edge_of (get_or piece 0 0) ≡ Some LineEnd
    → edge_of (get_or piece 1 0) ≡ Some LineEnd → Follows avr_found (take 2 piece) [] avr_found
two_ends [] some one two = absurd (omega (arith, some))
two_ends (a ∷ []) some one two = absurd (omega (arith, some))
two_ends (a ∷ b ∷ piece) some one two =
    follows_more avr_found avr_found avr_found (a ∷ []) (b ∷ []) [] [] (end_follows a one) (end_follows b two)

front_is : (piece : List ℕ) (n : ℕ) → n + 2 ≤ length piece → get_or piece (n + 1) 0 ≡ 59
    → take (n + 2) piece ≡ get_or piece 0 0 ∷ take n (drop 1 piece) ++ 59 ∷ []
front_is [] n within is = absurd (omega (arith, within))
front_is (b ∷ piece) n within is =
    let two : n + 2 ≡ suc (n + 1) = omega arith in
    let next : n + 1 ≡ suc n = omega arith in
    let last : get_or piece n 0 ≡ 59 = ap (λ k. get_or (b ∷ piece) k 0) (sym next) ∙ is in
    ap (λ k. take k (b ∷ piece)) two
    ∙ ap (λ l. b ∷ l) (take_more piece n 0 (omega (arith, within)) ∙ ap (λ k. take n piece ++ k ∷ []) last)

-- a mark, the digits of the clock and of a long frame, and a semicolon
pub marked_front : (piece bytes : List ℕ) (mark : Mark) (n : ℕ) → mark_of (get_or piece 0 0) ≡ Some mark
    → n ≡ 2 * (lead mark + 14) → n + 2 ≤ length piece → get_or piece (n + 1) 0 ≡ 59
    → AreHex (take n (drop 1 piece)) × (bytes ≡ bytes_of (take n (drop 1 piece)))
    → IsWholeWord piece (avr_message mark FourteenBytes bytes, n + 2)
unfolding Follows
marked_front piece bytes mark n is size within ends (hex, same) =
    let digits = take n (drop 1 piece) in
    let sent : AvrSent = record { mark = mark; size = FourteenBytes; first = get_or piece 0 0; digits = digits } in
    let full : length digits ≡ 2 * (lead mark + 14) =
    omega (arith, size, within, length-take n (drop 1 piece), length-drop 1 piece) in
    let good : IsSent sent = record { is_mark = is; hex = hex; full = full } in (
      omega arith,
      within,
      λ more. ap (λ l. avr_found (l ++ more)) (front_is piece n within ends)
          ∙ after_mark sent good None [] more
          ∙ ap (λ b. Whole (avr_message mark FourteenBytes b) ∷ avr_found more) (sym same),
    )

-- line ends, and a word after them
pub ends_and_word : (piece : List ℕ) (ends : ℕ) (message : Message) (count : ℕ) → ends ≤ length piece
    → Follows avr_found (take ends piece) [] avr_found → IsWholeWord (drop ends piece) (message, count)
    → IsWholeWord piece (message, ends + count)
ends_and_word piece ends message count within before (some, fits, word) = (
  omega (arith, some),
  omega (arith, fits, length-drop ends piece, within),
  subst (λ l. Follows avr_found l (Whole message ∷ []) avr_found) (sym (take-add ends count piece))
      (follows_more avr_found avr_found avr_found (take ends piece) (take count (drop ends piece)) []
      (Whole message ∷ []) before word),
)

-- if nothing is begun, the text to come is a whole one
nothing_is : (begun : BegunWord) (more : List ℕ) → begun.opener ≡ None → begun.digits ≡ [] → begun.is_bad ≡ false
    → avr_to_come begun more ≡ avr_found more
nothing_is begun more opener digits good =
    ap (λ o. avr_from o (word_of begun.digits begun.is_bad) more) opener
    ∙ ap (λ d. avr_from None (word_of d begun.is_bad) more) digits
    ∙ ap (λ t. avr_from None (word_of [] t) more) good

pub word_whole : (begun : BegunWord) (piece : List ℕ) (message : Message) (count : ℕ) → begun.opener ≡ None
    → begun.digits ≡ [] → begun.is_bad ≡ false → IsWholeWord piece (message, count)
    → (0 < count) × (count ≤ length piece)
    × Follows (avr_to_come begun) (take count piece) (Whole message ∷ []) (avr_to_come begun)
unfolding Follows
word_whole begun piece message count opener digits good (some, fits, word) = (
  some,
  fits,
  λ more. nothing_is begun (take count piece ++ more) opener digits good ∙ word more
      ∙ ap (λ l. Whole message ∷ l) (sym (nothing_is begun more opener digits good)),
)
