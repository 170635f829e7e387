-- An input is cut into lines in one way, and from the front.
use Rattle.std.proofs.Common.{◌≡◌, ◌-◌, ◌++◌, ◌∙◌, inl, inr, ℕ, false, List, [], ◌∷◌, length, take, get_or, ap, sym}
use Rattle.std.proofs.Common.{subst, arith, refl, append_assoc, append-nil}
use Rattle.std.specs.List.{All, flat_map, slice_split}
use Rattle.std.proofs.lemmas.List.{length_push, take_at, get_or_push}
use Rattle.std.proofs.lemmas.List.Elements.{All-head, All-tail, All-nil, All-cons, All-push, All-append}
use Rattle.std.proofs.lemmas.Bool.{cases_Bool, eqb-true}
use Rattle.std.proofs.lemmas.List.Concat.{flat_map-append}
use Rattle.std.proofs.lemmas.List.Splits.{slice_split_none, slice_split_at}
use Rattle.sq_log.specs.Lines.{is_feed, HasNoFeed, Cuts, with_feed, ended_lines, last_part}

parts_of : (lines : List (List ℕ)) (rest : List ℕ) → All HasNoFeed lines → HasNoFeed rest
    → slice_split is_feed (flat_map with_feed lines ++ rest) ≡ lines ++ rest ∷ []
parts_of [] rest each last = slice_split_none is_feed rest last
parts_of (line ∷ lines) rest each last =
    ap (slice_split is_feed) (append_assoc (line ++ 10 ∷ []) (flat_map with_feed lines) rest
    ∙ append_assoc line (10 ∷ []) (flat_map with_feed lines ++ rest))
    ∙ slice_split_at is_feed line 10 (flat_map with_feed lines ++ rest) (All-head HasNoFeed line lines each) refl
    ∙ ap (λ parts. line ∷ parts) (parts_of lines rest (All-tail HasNoFeed line lines each) last)

parts-cut : (input : List ℕ) (lines : List (List ℕ)) (rest : List ℕ) → Cuts input lines rest
    → slice_split is_feed input ≡ lines ++ rest ∷ []
parts-cut input lines rest cut = ap (slice_split is_feed) cut.whole ∙ parts_of lines rest cut.each cut.last

pub ended_lines-cut : (input : List ℕ) (lines : List (List ℕ)) (rest : List ℕ) → Cuts input lines rest
    → ended_lines input ≡ lines
unfolding ended_lines
ended_lines-cut input lines rest cut =
    ap (λ (parts : List (List ℕ)). take (length parts - 1) parts) (parts-cut input lines rest cut)
    ∙ take_at lines (rest ∷ []) (length (lines ++ rest ∷ []) - 1) (omega (arith, length_push lines rest))

pub last_part-cut : (input : List ℕ) (lines : List (List ℕ)) (rest : List ℕ) → Cuts input lines rest
    → last_part input ≡ rest
unfolding last_part
last_part-cut input lines rest cut =
    ap (λ (parts : List (List ℕ)). get_or parts (length parts - 1) []) (parts-cut input lines rest cut)
    ∙ get_or_push lines rest [] (length (lines ++ rest ∷ []) - 1) (omega (arith, length_push lines rest))

pub cuts_nothing : Cuts [] [] []
cuts_nothing = record { whole = refl; each = All-nil HasNoFeed; last = All-nil (λ byte. is_feed byte ≡ false) }

pub cuts_more : (input : List ℕ) (lines : List (List ℕ)) (rest piece : List ℕ) → Cuts input lines rest
    → HasNoFeed piece → Cuts (input ++ piece) lines (rest ++ piece)
cuts_more input lines rest piece cut none = record {
  whole = ap (λ l. l ++ piece) cut.whole ∙ append_assoc (flat_map with_feed lines) rest piece;
  each = cut.each;
  last = All-append (λ byte. is_feed byte ≡ false) rest piece cut.last none;
}

pub cuts_ended : (input : List ℕ) (lines : List (List ℕ)) (rest front : List ℕ) → Cuts input lines rest
    → HasNoFeed front
    → Cuts (input ++ (front ++ 10 ∷ [])) (lines ++ (rest ++ front) ∷ []) []
cuts_ended input lines rest front cut none =
    let ended : HasNoFeed (rest ++ front) = All-append (λ byte. is_feed byte ≡ false) rest front cut.last none in
    record {
      whole = ap (λ l. l ++ (front ++ 10 ∷ [])) cut.whole
          ∙ append_assoc (flat_map with_feed lines) rest (front ++ 10 ∷ [])
          ∙ ap (λ l. flat_map with_feed lines ++ l)
          (sym (append_assoc rest front (10 ∷ [])) ∙ sym (append-nil (with_feed (rest ++ front))))
          ∙ sym (flat_map-append with_feed lines ((rest ++ front) ∷ []))
          ∙ sym (append-nil (flat_map with_feed (lines ++ (rest ++ front) ∷ [])));
      each = All-push HasNoFeed lines (rest ++ front) cut.each ended;
      last = All-nil (λ byte. is_feed byte ≡ false);
    }

same_cut : {input input' rest rest' : List ℕ} {lines lines' : List (List ℕ)} → Cuts input lines rest → input ≡ input'
    → lines ≡ lines' → rest ≡ rest' → Cuts input' lines' rest'
same_cut {input' = input'} {rest} {lines} {lines'} cut same_input same_lines same_rest =
    subst (Cuts input' lines') same_rest
    (subst (λ (ls : List (List ℕ)). Cuts input' ls rest) same_lines
    (subst (λ (i : List ℕ). Cuts i lines rest) same_input cut))

one_byte : (byte : ℕ) → is_feed byte ≡ false → HasNoFeed (byte ∷ [])
one_byte byte other = All-cons (λ b. is_feed b ≡ false) byte [] other (All-nil (λ b. is_feed b ≡ false))

-- more input ends more lines, and changes none that is ended
pub cuts_on : (input : List ℕ) (lines : List (List ℕ)) (rest more : List ℕ) → Cuts input lines rest
    → (extra : List (List ℕ)) × (last : List ℕ) × Cuts (input ++ more) (lines ++ extra) last
cuts_on input lines rest [] cut =
    ([], rest, same_cut cut (sym (append-nil input)) (sym (append-nil lines)) refl)
cuts_on input lines rest (byte ∷ more) cut =
    elim (cases_Bool (is_feed byte)) [
      | inl feed ↦
          let ended = cuts_ended input lines rest [] cut (All-nil (λ b. is_feed b ≡ false)) in
          let on = cuts_on (input ++ 10 ∷ []) (lines ++ (rest ++ []) ∷ []) [] more ended in (
            (rest ++ []) ∷ on.0,
            on.1,
            same_cut on.2
                (append_assoc input (10 ∷ []) more ∙ ap (λ (b : ℕ). input ++ b ∷ more) (sym (eqb-true byte 10 feed)))
                (append_assoc lines ((rest ++ []) ∷ []) on.0) refl,
          )
      | inr other ↦
          let longer = cuts_more input lines rest (byte ∷ []) cut (one_byte byte other) in
          let on = cuts_on (input ++ byte ∷ []) lines (rest ++ byte ∷ []) more longer in
          (on.0, on.1, same_cut on.2 (append_assoc input (byte ∷ []) more) refl refl)
    ]

-- each input is cut, and in one way
pub cuts_itself : (input : List ℕ) → Cuts input (ended_lines input) (last_part input)
cuts_itself input =
    let on = cuts_on [] [] [] input cuts_nothing in
    same_cut on.2 refl (sym (ended_lines-cut input on.0 on.1 on.2)) (sym (last_part-cut input on.0 on.1 on.2))

pub ended_lines-append : (input more : List ℕ)
    → (extra : List (List ℕ)) × (ended_lines (input ++ more) ≡ ended_lines input ++ extra)
ended_lines-append input more =
    let on = cuts_on input (ended_lines input) (last_part input) more (cuts_itself input) in
    (on.0, ended_lines-cut (input ++ more) (ended_lines input ++ on.0) on.1 on.2)
