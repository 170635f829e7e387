-- The parts of the summary of a feed.
use Rattle.std.proofs.Common.{◌≡◌, ◌≢◌, ◌+◌, ◌<◌, ◌++◌, ◌∙◌, ℕ, Bool, true, false, List, [], ◌∷◌, length, drop, get_or, refl, sym, ap, append_assoc, append-nil}
use Rattle.std.specs.Prelude.{◌==◌, codes, decimal, sum, if◌then◌else◌}
use Rattle.std.proofs.lemmas.Bool.{eqb-true}
use Rattle.std.proofs.lemmas.List.{drop_more}
use Rattle.sq_feed.specs.Counts.{Tally}
use Rattle.sq_commands.specs.Summary.{comma_of, counts_text, followed, format_text, format_texts, joined, other_formats, part}
use Rattle.sq_commands.specs.Summary.{rest_of}

-- the branch of a test that fails
otherwise : {X : Type 0} (b : Bool) (x y : X) → (b ≡ true → ⊥) → (if b then x else y) ≡ y
otherwise true x y fails = absurd (fails refl)
otherwise false x y fails = refl

pub comma_first : (is_first : Bool) → is_first ≡ true → comma_of is_first ≡ []
unfolding comma_of
comma_first true is = refl
comma_first false is = absurd (cc is)

pub comma_next : (is_first : Bool) → is_first ≡ false → comma_of is_first ≡ codes ", "
unfolding comma_of
comma_next true is = absurd (cc is)
comma_next false is = refl

-- ---- parts

pub part_none : (count : ℕ) (name : List ℕ) → count ≡ 0 → part count name ≡ []
unfolding part
part_none count name is = ap (λ n. part n name) is

pub part_some : (count : ℕ) (name : List ℕ) → count ≢ 0 → part count name ≡ codes ", " ++ decimal count ++ name
unfolding part
part_some count name some =
    otherwise (count == 0) [] (codes ", " ++ decimal count ++ name) (λ e. some (eqb-true count 0 e))

-- the bytes of a part, one text after the other
pub part_pushed : (old name : List ℕ) (count : ℕ) → count ≢ 0
    → ((old ++ codes ", ") ++ decimal count) ++ name ≡ old ++ part count name
part_pushed old name count some =
    append_assoc (old ++ codes ", ") (decimal count) name ∙ append_assoc old (codes ", ") (decimal count ++ name)
    ∙ ap (λ l. old ++ l) (sym (part_some count name some))

-- ---- downlink formats

pub format_none : (format count : ℕ) → count ≡ 0 → format_text format count ≡ []
unfolding format_text
format_none format count is = ap (format_text format) is

-- the words of a downlink format
abbrev pub format_words : ℕ → ℕ → List ℕ
format_words format count = codes "DF" ++ decimal format ++ codes " " ++ decimal count

format_some : (format count : ℕ) → count ≢ 0 → format_text format count ≡ format_words format count ∷ []
unfolding format_text
format_some format count some =
    otherwise (count == 0) [] (format_words format count ∷ []) (λ e. some (eqb-true count 0 e))

rest_text : (is_first : Bool) (text : List ℕ) (more : List (List ℕ))
    → rest_of is_first (text ∷ more) ≡ comma_of is_first ++ (text ++ rest_of false more)
unfolding rest_of comma_of followed joined
rest_text true text more = refl
rest_text false text more = append_assoc (codes ", ") text (followed more)

pub rest_none : (is_first : Bool) → rest_of is_first [] ≡ []
unfolding rest_of followed joined
rest_none true = refl
rest_none false = refl

pub rest_all : (texts : List (List ℕ)) → rest_of true texts ≡ joined texts
unfolding rest_of
rest_all texts = refl

joined_words : (old comma df format space count rest : List ℕ)
    → (((((old ++ comma) ++ df) ++ format) ++ space) ++ count) ++ rest
    ≡ old ++ (comma ++ ((df ++ format ++ space ++ count) ++ rest))
joined_words old comma df format space count rest = simp append_assoc refl

-- the bytes of a downlink format, one text after the other
pub format_pushed : (old : List ℕ) (is_first : Bool) (format count : ℕ) → count ≢ 0 → (more : List (List ℕ))
    → (((((old ++ comma_of is_first) ++ codes "DF") ++ decimal format) ++ codes " ") ++ decimal count)
    ++ rest_of false more ≡ old ++ rest_of is_first (format_text format count ++ more)
format_pushed old is_first format count some more =
    joined_words old (comma_of is_first) (codes "DF") (decimal format) (codes " ") (decimal count) (rest_of false more)
    ∙ ap (λ l. old ++ l) (sym (rest_text is_first (format_words format count) more))
    ∙ ap (λ l. old ++ rest_of is_first (l ++ more)) (sym (format_some format count some))

-- no downlink format was pushed
pub format_skipped : (old : List ℕ) (is_first : Bool) (format count : ℕ) → count ≡ 0 → (more : List (List ℕ))
    → old ++ rest_of is_first more ≡ old ++ rest_of is_first (format_text format count ++ more)
format_skipped old is_first format count none more =
    ap (λ l. old ++ rest_of is_first (l ++ more)) (sym (format_none format count none))

-- the downlink formats from one on are that and those from the next on
pub texts_more : (counts : List ℕ) (format : ℕ) → format < length counts → format_texts format (drop format counts)
    ≡ format_text format (get_or counts format 0) ++ format_texts (format + 1) (drop (format + 1) counts)
unfolding format_texts
texts_more counts format within = ap (format_texts format) (drop_more counts format 0 within)

pub texts_none : (format : ℕ) → format_texts format [] ≡ []
unfolding format_texts
texts_none format = refl

-- the bytes of the other formats, one text after the other
pub others_pushed : (old counts : List ℕ) (others : ℕ) → others ≡ sum counts → others ≢ 0
    → ((((old ++ codes ", ") ++ decimal others) ++ codes " of other downlink formats (")
    ++ joined (format_texts 0 counts)) ++ codes ")" ≡ old ++ other_formats counts
others_pushed old counts others is some =
    let front = (old ++ codes ", ") ++ decimal others in
    let words = codes " of other downlink formats (" in
    let texts = joined (format_texts 0 counts) in
    append_assoc (front ++ words) texts (codes ")") ∙ append_assoc front words (texts ++ codes ")")
    ∙ part_pushed old (words ++ texts ++ codes ")") others some
    ∙ ap (λ n. old ++ part n (words ++ texts ++ codes ")")) is

-- there are no frames of other formats
pub others_none : (old counts : List ℕ) (others : ℕ) → others ≡ sum counts → others ≡ 0 → old
    ≡ old ++ other_formats counts
others_none old counts others is none =
    sym (ap (λ l. old ++ l) (part_none (sum counts) (codes " of other downlink formats ("
    ++ joined (format_texts 0 counts) ++ codes ")") (sym is ∙ none)) ∙ append-nil old)

-- eight texts, one after the other
pub nine_texts : (a b c d e f g h i : List ℕ)
    → (((((((a ++ b) ++ c) ++ d) ++ e) ++ f) ++ g) ++ h) ++ i ≡ a ++ (b ++ c ++ d ++ e ++ f ++ g ++ h ++ i)
nine_texts a b c d e f g h i = simp append_assoc refl

-- the counts behind a text
pub counts_pushed : (front : List ℕ) (tally : Tally)
    → (((((((front ++ decimal tally.written) ++ codes " written") ++ other_formats tally.formats)
    ++ part tally.mode_ac (codes " of Mode A/C")) ++ part tally.multilaterated (codes " multilaterated"))
    ++ part tally.receiver_ids (codes " receiver ids")) ++ part tally.aside (codes " set aside"))
    ++ part tally.damaged (codes " damaged") ≡ front ++ counts_text tally
unfolding counts_text
counts_pushed front tally =
    nine_texts front (decimal tally.written) (codes " written") (other_formats tally.formats)
    (part tally.mode_ac (codes " of Mode A/C")) (part tally.multilaterated (codes " multilaterated"))
    (part tally.receiver_ids (codes " receiver ids")) (part tally.aside (codes " set aside"))
    (part tally.damaged (codes " damaged"))
