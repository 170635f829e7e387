-- The values of hexadecimal digits, sixteen at a time in lanes.
use Rattle.std.proofs.Common.{◌≡◌, ℕ, ◌+◌, ◌-◌, ◌*◌, ◌%◌, ◌<◌, ◌^◌, [], ◌∷◌, ◌++◌, List, Bool, zero, suc, ◌≤◌, inl, inr, w8, Fits}
use Rattle.std.proofs.Common.{true, false, not, eqb-true, cond, ltb, eqb, map, get_or, length, replicate, bit_or, bit_and}
use Rattle.std.proofs.Common.{refl, sym, ap, ap₂, ◌∙◌, subst, arith}
use Rattle.std.proofs.lemmas.Bool.{cases_lt, le-ltb, lt-ltb, ltb-false, ltb-true}
use Rattle.std.proofs.lemmas.List.{get_or-map, get_or-replicate, get_or_append_left, get_or_past, length-map}
use Rattle.std.proofs.lemmas.Nat.{le_or_l, le_or_r, or_lt, or_shifted}
use Rattle.std.proofs.lemmas.List.FromFn.{get_or-map-range_with_len}
use Rattle.std.proofs.lemmas.Simd.{Each1-get_or, get_or-zip2, length-zip2, map-map, mask_l-mod, splat_is_map, zip2_of_maps, zip2_splat}
use Rattle.std.specs.Char.{digit_value}
use Rattle.std.specs.List.{range_with_len}
use Rattle.std.specs.Simd.Lanes.{Each1, zip2, mask_l, sel_l, top}

-- ---- one lane, as the code computes it

-- a difference and a sum of bytes
abbrev pub less : ℕ → ℕ → ℕ
less a b = (a + (2 ^ 8 - b)) % 2 ^ 8

abbrev pub more : ℕ → ℕ → ℕ
more a b = (a + b) % 2 ^ 8

-- the mask of a comparison
abbrev pub below : ℕ → ℕ → ℕ
below a b = cond (ltb a b) 255 0

-- the choice of a mask
abbrev pub choice : ℕ → ℕ → ℕ → ℕ
choice mask a b = cond (top 7 mask) a b

-- the value if the byte is a decimal digit, and otherwise 16 or more
abbrev pub decimal_of : ℕ → ℕ
decimal_of x = less (less (choice (below (more x 198) 6) 6 (more x 198)) 6) 240

-- the distance of a byte from the letter A
abbrev pub letter : ℕ → ℕ
letter x = less (bit_and x 223) 65

-- the value if the byte is a letter up to F, and otherwise more than 9
abbrev pub letter_of : ℕ → ℕ
letter_of x = more (letter x) (choice (below 10 (255 - letter x)) 10 (255 - letter x))

-- the value if the byte is a digit, and otherwise 16 or more
abbrev pub value_of : ℕ → ℕ
value_of x = choice (below (decimal_of x) (letter_of x)) (decimal_of x) (letter_of x)

-- a value below 16 is that of the digit, and no other byte is a digit
abbrev is_value : ℕ → ℕ → Bool
is_value x w = cond (ltb w 16) (eqb (digit_value x) w) (not (ltb (digit_value x) 16))

each_value : map (λ x. is_value x (value_of x)) (range_with_len 0 256)
    ≡ map (λ _. true) (range_with_len 0 256)
each_value = refl

-- a property evaluated for every byte holds for each byte
pub at_byte : (f : ℕ → Bool) → map f (range_with_len 0 256) ≡ map (λ _. true) (range_with_len 0 256) → (x : ℕ) → x < 256
    → f x ≡ true
at_byte f each x small =
    sym (get_or-map-range_with_len f 0 256 x x true small (omega arith)) ∙ ap (λ l. get_or l x true) each
    ∙ get_or-map-range_with_len (λ _. true) 0 256 x x true small (omega arith)

value : (x : ℕ) → x < 256 → value_of x < 16 → digit_value x ≡ value_of x
value x small low =
    let known = at_byte (λ y. is_value y (value_of y)) each_value x small in
    let chosen = ap (λ b. cond b (eqb (digit_value x) (value_of x)) (not (ltb (digit_value x) 16)))
    (lt-ltb (value_of x) 16 low) in
    eqb-true (digit_value x) (value_of x) (sym chosen ∙ known)

no_other : (b c : Bool) (d : Bool) → cond b d (not c) ≡ true → c ≡ true → b ≡ true
no_other true c d known is = refl
no_other false true d known is = absurd (cc known)
no_other false false d known is = absurd (cc is)

digit : (x : ℕ) → x < 256 → digit_value x < 16 → value_of x < 16
digit x small low =
    ltb-true (value_of x) 16 (no_other (ltb (value_of x) 16) (ltb (digit_value x) 16) (eqb (digit_value x) (value_of x))
    (at_byte (λ y. is_value y (value_of y)) each_value x small) (lt-ltb (digit_value x) 16 low))

-- ---- all lanes

-- a lane is a byte
lane_small : (text : List ℕ) (i : ℕ) → i < length text → Each1 (Fits w8) text → get_or text i 0 < 256
lane_small text i within fits = (Each1-get_or (Fits w8) text i 0 within fits).fits

-- no bit of a mask is set
bits : (b : Bool) (n : ℕ) → cond b 1 0 + 2 * n ≡ 0 → (b ≡ false) × (n ≡ 0)
bits true n e = absurd (omega arith)
bits false n e = (refl, omega arith)

clear : (p : ℕ → Bool) (xs : List ℕ) → mask_l (map p xs) ≡ 0 → (i : ℕ) → i < length xs → p (get_or xs i 0) ≡ false
clear p [] e i within = absurd (omega arith)
clear p (x ∷ xs) e zero within = (bits (p x) (mask_l (map p xs)) e).0
clear p (x ∷ xs) e (suc i) within = clear p xs (bits (p x) (mask_l (map p xs)) e).1 i (omega arith)

-- a mask for each place: set if either byte is 16 or more, as the code computes it
abbrev pub masks : List ℕ → List ℕ → List ℕ
masks front back = zip2 below (replicate 16 15) (zip2 bit_or front back)

pub low : (b : Bool) → top 7 (cond b 255 0) ≡ false → b ≡ false
low true e = absurd (cc e)
low false e = refl

-- both bytes are below 16 if the mask does not mark them
both_low : (a b : ℕ) → top 7 (below 15 (bit_or a b)) ≡ false → (a < 16) × (b < 16)
both_low a b clear =
    let most : bit_or a b ≤ 15 = ltb-false 15 (bit_or a b) (low (ltb 15 (bit_or a b)) clear) in
    (omega (arith, most, le_or_l a b), omega (arith, most, le_or_r a b))

abbrev bit_of : Bool → ℕ
bit_of b = cond b 1 0

-- no bit of a mask is set if no place has the property
none_set : (p : ℕ → Bool) (xs : List ℕ) → ((i : ℕ) → i < length xs → p (get_or xs i 0) ≡ false)
    → mask_l (map p xs) ≡ 0
none_set p [] each = refl
none_set p (x ∷ xs) each =
    let more : mask_l (map p xs) ≡ 0 = none_set p xs (λ i within. each (suc i) (omega (arith, within))) in
    let first : bit_of (p x) ≡ 0 = ap bit_of (each 0 (omega arith)) in
    omega (arith, more, first)

-- the mask of both at one place
mask_at : (front back : List ℕ) → length front ≡ 16 → length back ≡ 16 → (i : ℕ) → i < 16
    → get_or (masks front back) i 0 ≡ below 15 (bit_or (get_or front i 0) (get_or back i 0))
mask_at front back long same i small =
    let joined : length (zip2 bit_or front back) ≡ 16 =
    length-zip2 bit_or front back (long ∙ sym same) ∙ long in
    get_or-zip2 below (replicate 16 15) (zip2 bit_or front back) i 0 0 0 small (omega (arith, joined, small))
    ∙ ap₂ below (get_or-replicate 16 i 15 0 small)
    (get_or-zip2 bit_or front back i 0 0 0 (omega (arith, long, small)) (omega (arith, same, small)))

many_masks : (front back : List ℕ) → length front ≡ 16 → length back ≡ 16 → length (masks front back) ≡ 16
many_masks front back long same =
    let joined : length (zip2 bit_or front back) ≡ 16 =
    length-zip2 bit_or front back (long ∙ sym same) ∙ long in
    length-zip2 below (replicate 16 15) (zip2 bit_or front back) (sym joined)

-- the mask is empty if each byte of both is below 16
pub all_small : (front back : List ℕ) → length front ≡ 16 → length back ≡ 16
    → ((i : ℕ) → i < 16 → (get_or front i 0 < 16) × (get_or back i 0 < 16))
    → eqb (mask_l (map (top 7) (masks front back)) % 2 ^ 64) 0 ≡ true
all_small front back long same each =
    let many : length (masks front back) ≡ 16 = many_masks front back long same in
    let clear : mask_l (map (top 7) (masks front back)) ≡ 0 =
    none_set (top 7) (masks front back) (λ i within.
    let small : i < 16 = omega (arith, within, many) in
    let low : bit_or (get_or front i 0) (get_or back i 0) < 2 ^ 4 =
    or_lt 4 (get_or front i 0) (get_or back i 0) (each i small).0 (each i small).1 in
    ap (top 7) (mask_at front back long same i small)
    ∙ ap (λ b. top 7 (cond b 255 0)) (le-ltb 15 (bit_or (get_or front i 0) (get_or back i 0)) (omega (arith, low)))) in
    ap (λ n. eqb (n % 2 ^ 64) 0) clear

-- each byte of two such vectors is below 16
pub are_small : (front back : List ℕ) → length front ≡ 16 → length back ≡ 16
    → eqb (mask_l (map (top 7) (masks front back)) % 2 ^ 64) 0 ≡ true → (i : ℕ) → i < 16
    → (get_or front i 0 < 16) × (get_or back i 0 < 16)
are_small front back long same none i small =
    let all : length (masks front back) ≡ 16 = many_masks front back long same in
    let few : length (map (top 7) (masks front back)) ≤ 64 =
    omega (arith, all, length-map (masks front back) (top 7)) in
    let empty : mask_l (map (top 7) (masks front back)) ≡ 0 =
    sym (mask_l-mod (map (top 7) (masks front back)) 64 few) ∙ eqb-true _ _ none in
    both_low (get_or front i 0) (get_or back i 0)
    (ap (top 7) (sym (mask_at front back long same i small))
    ∙ clear (top 7) (masks front back) empty i (omega (arith, all)))

-- a choice between two vectors, by a mask
abbrev pub chosen : List ℕ → List ℕ → List ℕ → List ℕ
chosen masks xs ys = sel_l (map (top 7) masks) xs ys

chosen_maps : (m f g : ℕ → ℕ) (text : List ℕ)
    → chosen (map m text) (map f text) (map g text) ≡ map (λ x. choice (m x) (f x) (g x)) text
chosen_maps m f g [] = refl
chosen_maps m f g (x ∷ xs) = ap (λ l. choice (m x) (f x) (g x) ∷ l) (chosen_maps m f g xs)

chosen_of : (m f g : ℕ → ℕ) (text ms xs ys : List ℕ) → ms ≡ map m text → xs ≡ map f text → ys ≡ map g text
    → chosen ms xs ys ≡ map (λ x. choice (m x) (f x) (g x)) text
chosen_of m f g text ms xs ys a b c =
    ap (λ l. chosen l xs ys) a ∙ ap₂ (λ k l. chosen (map m text) k l) b c ∙ chosen_maps m f g text

-- the values of sixteen bytes, as the code computes them
abbrev pub decimals : List ℕ → List ℕ
decimals text = zip2 less (zip2 less (chosen (zip2 below (zip2 more text (replicate 16 198)) (replicate 16 6))
    (replicate 16 6) (zip2 more text (replicate 16 198))) (replicate 16 6)) (replicate 16 240)

abbrev pub capitals : List ℕ → List ℕ
capitals text = zip2 less (zip2 bit_and text (replicate 16 223)) (replicate 16 65)

abbrev pub letters : List ℕ → List ℕ
letters text = zip2 more (capitals text) (chosen (zip2 below (replicate 16 10) (map (λ x. 255 - x) (capitals text)))
    (replicate 16 10) (map (λ x. 255 - x) (capitals text)))

abbrev pub values : List ℕ → List ℕ
values text = chosen (zip2 below (decimals text) (letters text)) (decimals text) (letters text)

splat : (text : List ℕ) → length text ≡ 16 → (y : ℕ) → replicate 16 y ≡ map (λ _. y) text
splat text long y = splat_is_map text 16 y long

decimals_are : (text : List ℕ) → length text ≡ 16 → decimals text ≡ map decimal_of text
decimals_are text long =
    let added = zip2_splat more text 16 198 long in
    let few = zip2_of_maps below (λ x. more x 198) (λ _. 6) text added (splat text long 6) in
    let raised = chosen_of (λ x. below (more x 198) 6) (λ _. 6) (λ x. more x 198) text _ _ _ few
    (splat text long 6) added in
    let lowered = zip2_of_maps less (λ x. choice (below (more x 198) 6) 6 (more x 198)) (λ _. 6) text raised
    (splat text long 6) in
    zip2_of_maps less (λ x. less (choice (below (more x 198) 6) 6 (more x 198)) 6) (λ _. 240) text lowered
    (splat text long 240)

letters_are : (text : List ℕ) → length text ≡ 16 → letters text ≡ map letter_of text
letters_are text long =
    let places = zip2_of_maps less (λ x. bit_and x 223) (λ _. 65) text (zip2_splat bit_and text 16 223 long)
    (splat text long 65) in
    let rooms : map (λ x. 255 - x) (capitals text) ≡ map (λ x. 255 - letter x) text =
    ap (map (λ x. 255 - x)) places ∙ map-map (λ x. 255 - x) letter text in
    let few = zip2_of_maps below (λ _. 10) (λ x. 255 - letter x) text (splat text long 10) rooms in
    let room = chosen_of (λ x. below 10 (255 - letter x)) (λ _. 10) (λ x. 255 - letter x) text _ _ _ few
    (splat text long 10) rooms in
    zip2_of_maps more letter (λ x. choice (below 10 (255 - letter x)) 10 (255 - letter x)) text places room

values_are : (text : List ℕ) → length text ≡ 16 → values text ≡ map value_of text
values_are text long =
    let first = decimals_are text long in
    let second = letters_are text long in
    chosen_of (λ x. below (decimal_of x) (letter_of x)) decimal_of letter_of text _ _ _
    (zip2_of_maps below decimal_of letter_of text first second) first second

lane_is : (text : List ℕ) → length text ≡ 16 → (i : ℕ) → i < 16
    → get_or (values text) i 0 ≡ value_of (get_or text i 0)
lane_is text long i small =
    ap (λ l. get_or l i 0) (values_are text long) ∙ get_or-map value_of text i 0 0 (omega (arith, long, small))

pub values_known : (text : List ℕ) → length text ≡ 16 → Each1 (Fits w8) text → (i : ℕ) → i < 16
    → get_or (values text) i 0 < 16 → digit_value (get_or text i 0) ≡ get_or (values text) i 0
values_known text long fits i small low =
    let within : i < length text = omega (arith, long, small) in
    let lane = lane_is text long i small in
    value (get_or text i 0) (lane_small text i within fits) (subst (λ v. v < 16) lane low) ∙ sym lane

pub digits_known : (text : List ℕ) → length text ≡ 16 → Each1 (Fits w8) text → (i : ℕ) → i < 16
    → digit_value (get_or text i 0) < 16 → get_or (values text) i 0 < 16
digits_known text long fits i small low =
    let within : i < length text = omega (arith, long, small) in
    subst (λ v. v < 16) (sym (lane_is text long i small)) (digit (get_or text i 0) (lane_small text i within fits) low)

-- ---- pairs of values

-- a pair, joined as the code does
abbrev joined_pair : ℕ → ℕ → ℕ
joined_pair h l = bit_or (h * 2 ^ 4 % 2 ^ 8) l

-- eight pairs, joined; the code picks them from the values twice
abbrev pub joined : List ℕ → List ℕ
joined vs = map (λ i. joined_pair (get_or (vs ++ vs) (2 * i) 0) (get_or (vs ++ vs) (2 * i + 1) 0)) (range_with_len 0 8)

joined_at : (vs : List ℕ) → length vs ≡ 16 → (i : ℕ) → i < 8
    → get_or (joined vs) i 0 ≡ joined_pair (get_or vs (2 * i) 0) (get_or vs (2 * i + 1) 0)
joined_at vs long i small =
    get_or-map-range_with_len (λ j. joined_pair (get_or (vs ++ vs) (2 * j) 0) (get_or (vs ++ vs) (2 * j + 1) 0))
    0 8 i i 0 small (omega arith)
    ∙ ap₂ joined_pair (get_or_append_left vs vs 0 (2 * i) (omega (arith, long)))
    (get_or_append_left vs vs 0 (2 * i + 1) (omega (arith, long)))

-- the joined pairs are bytes
pub joined_small : (vs : List ℕ) → length vs ≡ 16 → Each1 (Fits w8) vs → (i : ℕ) → get_or (joined vs) i 0 < 256
joined_small vs long fits i = elim (cases_lt i 8) [
  | inl small ↦
      let low : get_or vs (2 * i + 1) 0 < 2 ^ 8 = lane_small vs (2 * i + 1) (omega (arith, long)) fits in
      subst (λ n. n < 256) (sym (joined_at vs long i small))
      (or_lt 8 (get_or vs (2 * i) 0 * 2 ^ 4 % 2 ^ 8) (get_or vs (2 * i + 1) 0) (omega arith) low)
  | inr large ↦ subst (λ n. n < 256) (sym (get_or_past (joined vs) i 0 large)) (omega arith)
]

pub joined_is : (vs : List ℕ) → length vs ≡ 16 → (i : ℕ) → i < 8
    → get_or vs (2 * i) 0 < 16 → get_or vs (2 * i + 1) 0 < 16
    → get_or (joined vs) i 0 ≡ get_or vs (2 * i) 0 * 16 + get_or vs (2 * i + 1) 0
joined_is vs long i small high low =
    let h : ℕ = get_or vs (2 * i) 0 in
    let l : ℕ = get_or vs (2 * i + 1) 0 in
    let kept : h * 2 ^ 4 % 2 ^ 8 ≡ h * 2 ^ 4 = omega arith in
    joined_at vs long i small ∙ ap (λ n. bit_or n l) kept ∙ or_shifted h 4 l low
