-- Lines of rows, byte by byte.
use Rattle.std.proofs.Common.{◌+◌, ◌≡◌, ◌≢◌, ◌<◌, ◌≤◌, ◌++◌, ◌∙◌, ℕ, Bool, true, false, List, [], ◌∷◌, length, ap, ap₂, refl, sym, arith, zero, suc, take, get_or}
use Rattle.std.proofs.Common.{append-nil, append_assoc, length-append}
use Rattle.std.specs.Prelude.{◌==◌, IfSome, Option, None, Some, if◌then◌else◌}
use Rattle.std.specs.List.{AllByRecursion}
use Rattle.std.proofs.lemmas.List.{get_or-take, length-take, take-take, take_more}
use Rattle.sq_feed.specs.declared.message.Message.{Message}
use Rattle.std.proofs.lemmas.Bool.{lt-ltb, ne_eqb}
use Rattle.sq_feed.specs.declared.message.Found.{Found}
use Rattle.sq_feed.specs.declared.message.Found.TheVariants.{Damage, Whole}
use Rattle.sq_feed.specs.declared.rows.Layout.{Layout}
use Rattle.sq_feed.specs.declared.rows.Row.{Row}
use Rattle.sq_feed.specs.declared.rows.Row.TheVariants.{One}
use Rattle.sq_feed.specs.Follows.{Follows}
use Rattle.sq_feed.specs.Rows.{BegunRow, IsHeld, items_of_row, layout_after, line_of, longest, row_read, rows_from, rows_to_come}
use Rattle.sq_feed.specs.Rows.{IsRowAt, LineIsRead, csv_start, row_of_text, without_last, without_mark}

-- ---- all lines that are too long are read the same

pub long_row : (layout : Layout) (line : List ℕ) → longest < length line → row_read layout line ≡ One Damage
long_row layout line long =
    ap (λ (t : Bool). if t then One Damage else row_of_text layout (without_mark (without_last 13 line)))
    (lt-ltb _ _ long)

alike_at : (test : Bool) (layout : Layout) (x y : List ℕ) (byte : ℕ) (more : List ℕ)
    → row_read layout x ≡ row_read layout y
    → rows_from layout (x ++ byte ∷ []) more ≡ rows_from layout (y ++ byte ∷ []) more
    → (if test then items_of_row (row_read layout x) ++ rows_from (layout_after layout (row_read layout x)) [] more
    else rows_from layout (x ++ byte ∷ []) more)
    ≡ (if test then items_of_row (row_read layout y) ++ rows_from (layout_after layout (row_read layout y)) [] more
    else rows_from layout (y ++ byte ∷ []) more)
alike_at true layout x y byte more same next =
    ap (λ r. items_of_row r ++ rows_from (layout_after layout r) [] more) same
alike_at false layout x y byte more same next = next

alike : (more : List ℕ) (layout : Layout) (x y : List ℕ) → longest < length x → longest < length y
    → rows_from layout x more ≡ rows_from layout y more
alike [] layout x y p q = ap items_of_row (long_row layout x p ∙ sym (long_row layout y q))
alike (byte ∷ more) layout x y p q =
    alike_at (byte == 10) layout x y byte more (long_row layout x p ∙ sym (long_row layout y q))
    (alike more layout (x ++ byte ∷ []) (y ++ byte ∷ []) (omega (arith, p, length-append x (byte ∷ [])))
    (omega (arith, q, length-append y (byte ∷ []))))

-- ---- a byte

ordinary : (layout : Layout) (line : List ℕ) (byte : ℕ) (more : List ℕ) → byte ≢ 10
    → rows_from layout line (byte ∷ more) ≡ rows_from layout (line ++ byte ∷ []) more
ordinary layout line byte more other =
    ap (λ (t : Bool). if t
    then items_of_row (row_read layout line) ++ rows_from (layout_after layout (row_read layout line)) [] more
    else rows_from layout (line ++ byte ∷ []) more) (ne_eqb byte 10 other)

not_long : (begun : BegunRow) (test : Bool) → begun.is_long ≡ test → IsHeld begun → length begun.held < longest
    → begun.is_long ≡ false
not_long begun true is held few = absurd (omega (arith, held is, few))
not_long begun false is held few = is

-- a byte that fits the buffer
pub row_room : (old new : BegunRow) (byte : ℕ) → byte ≢ 10 → IsHeld old → length old.held < longest
    → new.layout ≡ old.layout → new.held ≡ old.held ++ byte ∷ [] → new.is_long ≡ old.is_long
    → Follows (rows_to_come old) (byte ∷ []) [] (rows_to_come new)
unfolding Follows
row_room old new byte other held few layout more same rest =
    let short = not_long old old.is_long refl held few in
    ordinary old.layout (line_of old.held old.is_long) byte rest other
    ∙ ap (λ (t : Bool). rows_from old.layout (line_of old.held t ++ byte ∷ []) rest) short
    ∙ ap (λ l. rows_from old.layout (l ++ byte ∷ []) rest) (append-nil old.held)
    ∙ ap₂ (λ k l. rows_from k l rest) (sym layout) (sym more ∙ sym (append-nil new.held))
    ∙ ap (λ (t : Bool). rows_from new.layout (line_of new.held t) rest) (sym (same ∙ short))

-- a byte that does not fit
pub row_over : (old new : BegunRow) (byte : ℕ) → byte ≢ 10 → longest ≤ length old.held → new.layout ≡ old.layout
    → new.held ≡ old.held → new.is_long ≡ true → Follows (rows_to_come old) (byte ∷ []) [] (rows_to_come new)
unfolding Follows
row_over old new byte other full layout same now rest =
    let tail : List ℕ = if old.is_long then 0 ∷ [] else [] in
    ordinary old.layout (line_of old.held old.is_long) byte rest other
    ∙ alike rest old.layout (line_of old.held old.is_long ++ byte ∷ []) (old.held ++ 0 ∷ [])
    (omega (arith, full, length-append (old.held ++ tail) (byte ∷ []), length-append old.held tail))
    (omega (arith, full, length-append old.held (0 ∷ [])))
    ∙ ap₂ (λ k l. rows_from k (l ++ 0 ∷ []) rest) (sym layout) (sym same)
    ∙ ap (λ (t : Bool). rows_from new.layout (line_of new.held t) rest) (sym now)

-- a line feed
pub row_ends : (old new : BegunRow) (row : Row) (found : List Found)
    → row ≡ row_read old.layout (line_of old.held old.is_long)
    → found ≡ items_of_row row → new.layout ≡ layout_after old.layout row → new.held ≡ [] → new.is_long ≡ false
    → Follows (rows_to_come old) (10 ∷ []) found (rows_to_come new)
unfolding Follows
row_ends old new row found is items layout none short rest =
    ap (λ r. items_of_row r ++ rows_from (layout_after old.layout r) [] rest) (sym is)
    ∙ ap₂ (λ xs k. xs ++ rows_from k [] rest) (sym items) (sym layout)
    ∙ ap (λ l. found ++ rows_from new.layout (l ++ []) rest) (sym none)
    ∙ ap (λ (t : Bool). found ++ rows_from new.layout (line_of new.held t) rest) (sym short)

-- ---- a line

line_goes : (line front more : List ℕ) (layout : Layout) → AllByRecursion (λ byte. byte ≢ 10) line
    → rows_from layout front (line ++ 10 ∷ more)
    ≡ items_of_row (row_read layout (front ++ line)) ++ rows_from (layout_after layout (row_read layout (front
    ++ line))) [] more
line_goes [] front more layout other =
    ap (λ l. items_of_row (row_read layout l) ++ rows_from (layout_after layout (row_read layout l)) [] more)
    (sym (append-nil front))
line_goes (byte ∷ line) front more layout (is, other) =
    ordinary layout front byte (line ++ 10 ∷ more) is
    ∙ line_goes line (front ++ byte ∷ []) more layout other
    ∙ ap (λ l. items_of_row (row_read layout l) ++ rows_from (layout_after layout (row_read layout l)) [] more)
    (append_assoc front (byte ∷ []) line)

pub line_is_read : LineIsRead
line_is_read layout line more other = line_goes line [] more layout other

-- ---- a line at the front of a piece

each_other : (line : List ℕ) → ((k : ℕ) → k < length line → get_or line k 0 ≢ 10)
    → AllByRecursion (λ byte. byte ≢ 10) line
each_other [] other = tt
each_other (b ∷ line) other =
    (other 0 (omega arith), each_other line (λ k within. other (suc k) (omega (arith, within))))

new_is : (begun : BegunRow) (more : List ℕ) → begun.held ≡ [] → begun.is_long ≡ false
    → rows_to_come begun more ≡ rows_from begun.layout [] more
new_is begun more held short =
    ap (λ l. rows_from begun.layout (line_of l begun.is_long) more) held
    ∙ ap (λ t. rows_from begun.layout (line_of [] t) more) short

line_text : (piece : List ℕ) (m end : ℕ) → m ≤ length piece → end < length (take m piece)
    → ((k : ℕ) → k < end → get_or (take m piece) k 0 ≢ 10) → get_or (take m piece) end 0 ≡ 10
    → (take (end + 1) piece ≡ take end (take m piece) ++ 10 ∷ [])
    × AllByRecursion (λ byte. byte ≢ 10) (take end (take m piece))
line_text piece m end fits within other found =
    let near = take m piece in
    let few : end < m = omega (arith, within, length-take m piece) in
    let line : take end near ≡ take end piece = take-take end m piece (omega (arith, few)) in
    let last : get_or piece end 0 ≡ 10 = sym (get_or-take m piece end 0 few) ∙ found in (
      take_more piece end 0 (omega (arith, few, fits)) ∙ ap₂ (λ l b. l ++ b ∷ []) (sym line) last,
      each_other (take end near) (λ k less. line_byte near end k other (omega (arith, less, length-take end near))),
    )
  where
    line_byte : (near : List ℕ) (end k : ℕ) → ((j : ℕ) → j < end → get_or near j 0 ≢ 10) → k < end
        → get_or (take end near) k 0 ≢ 10
    line_byte near end k other less is = other k less (sym (get_or-take end near k 0 less) ∙ is)

pub line_whole : (begun : BegunRow) (piece : List ℕ) (m end : ℕ) (row : Row) (message : Message) → m ≤ length piece
    → end < length (take m piece) → ((k : ℕ) → k < end → get_or (take m piece) k 0 ≢ 10)
    → get_or (take m piece) end 0 ≡ 10 → row ≡ row_read begun.layout (take end (take m piece))
    → row ≡ One (Whole message)
    → begun.held ≡ [] → begun.is_long ≡ false
    → (0 < end + 1) × (end + 1 ≤ length piece)
    × Follows (rows_to_come begun) (take (end + 1) piece) (Whole message ∷ []) (rows_to_come begun)
unfolding Follows
line_whole begun piece m end row message fits within other found read is held short =
    let line = take end (take m piece) in
    let (text, each) = line_text piece m end fits within other found in (
      omega arith,
      omega (arith, within, length-take m piece, fits),
      λ more. new_is begun (take (end + 1) piece ++ more) held short
          ∙ ap (λ l. rows_from begun.layout [] (l ++ more)) text
          ∙ ap (rows_from begun.layout []) (append_assoc line (10 ∷ []) more)
          ∙ line_is_read begun.layout line more each
          ∙ ap (λ r. items_of_row r ++ rows_from (layout_after begun.layout r) [] more) (sym read ∙ is)
          ∙ ap (λ l. Whole message ∷ l) (sym (new_is begun more held short)),
    )

-- ---- a row at the front of a piece

nonempty : (n : ℕ) (piece row : List ℕ) → take n piece ≡ row ++ 10 ∷ [] → 0 < n
nonempty zero piece row is = absurd (omega (arith, ap length is, length-append row (10 ∷ [])))
nonempty (suc n) piece row is = omega arith

pub row_whole : (begun : BegunRow) (piece : List ℕ) (found : Option (Message × ℕ))
    → IfSome found (IsRowAt csv_start piece) → begun.layout ≡ csv_start → begun.held ≡ [] → begun.is_long ≡ false
    → IfSome found (λ p. (0 < p.1) × (p.1 ≤ length piece)
    × Follows (rows_to_come begun) (take p.1 piece) (Whole p.0 ∷ []) (rows_to_come begun))
unfolding Follows
row_whole begun piece None is layout held short = tt
row_whole begun piece (Some (message, count)) is layout held short = (
  nonempty count piece is.row is.front,
  is.fits,
  λ more. new_is begun (take count piece ++ more) held short
      ∙ ap (λ l. rows_from begun.layout [] (l ++ more)) is.front
      ∙ ap (rows_from begun.layout []) (append_assoc is.row (10 ∷ []) more)
      ∙ line_is_read begun.layout is.row more is.one_line
      ∙ ap (λ r. items_of_row r ++ rows_from (layout_after begun.layout r) [] more)
      (ap (λ k. row_read k is.row) layout ∙ is.reads)
      ∙ ap (λ l. Whole message ∷ l) (sym (new_is begun more held short)),
)
