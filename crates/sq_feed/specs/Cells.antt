-- Positions of bytes, cells of a row, and numbers in decimal digits.
use Rattle.std.specs.Prelude.{◌==◌, ◌++◌, ◌+◌, ◌-◌, ◌*◌, ◌^◌, ◌&&◌, ℕ, zero, suc, Bool, true, false, not, List, [], ◌∷◌, length, take, drop}
use Rattle.std.specs.Prelude.{Option, Some, None, nat_le, nat_lt, slice_index, if◌then◌else◌}
use Rattle.std.specs.Char.{is_ascii_digit, is_ascii_whitespace}
use Rattle.std.specs.List.{position_or_len, prefix_len, suffix_len}
use Rattle.std.specs.Str.{str_eq_ignore_ascii_case}
use Rattle.std.specs.Str.Parse.{digits_value}

-- the index of the first such byte, or the length of the text
abbrev pub position_of : ℕ → List ℕ → ℕ
position_of byte text = position_or_len (λ b. b == byte) text

-- ---- numbers

abbrev pub are_digits : List ℕ → Bool
are_digits [] = true
are_digits (byte ∷ more) = is_ascii_digit byte && are_digits more

-- the number with these decimal digits, if there are 1 to `most` and the number is below 2^64
abbrev pub number_of : ℕ → List ℕ → Option ℕ
number_of most digits =
    if are_digits digits && nat_le 1 (length digits) && nat_le (length digits) most && nat_lt
    (digits_value 10 digits) (2 ^ 64)
    then Some (digits_value 10 digits) else None

-- the first three decimals as a number; missing decimals are zeros
abbrev pub thousandths : List ℕ → ℕ
thousandths decimals = digits_value 10 (take 3 (decimals ++ 48 ∷ 48 ∷ 48 ∷ []))

abbrev pub millis_at : Option ℕ → List ℕ → Option ℕ
millis_at (Some seconds) decimals = if are_digits decimals then Some (seconds * 1000 + thousandths decimals) else None
millis_at None decimals = None

-- Milliseconds, rounded down. The cell has 1 to 12 digits of seconds, and optionally a point and decimals.
abbrev pub millis_of : List ℕ → Option ℕ
millis_of cell =
    millis_at (number_of 12 (take (position_of 46 cell) cell)) (drop (position_of 46 cell + 1) cell)

-- ---- cells

-- the index of the first comma that is not between quotes, or the length of the text; the Boolean says whether the
-- text begins between quotes
abbrev pub bare_comma : Bool → List ℕ → ℕ
bare_comma quoted [] = 0
bare_comma quoted (byte ∷ more) =
    if not quoted && (byte == 44) then 0 else 1 + bare_comma (if byte == 34 then not quoted else quoted) more

-- the length of the first cell: a comma ends it, but for one between the quotes of a cell that begins with a quote
abbrev pub cell_end : List ℕ → ℕ
cell_end row =
    if nat_lt 0 (length row) && (slice_index row 0 == 34) then bare_comma false row else position_of 44 row

-- the first cell of a row
abbrev pub first_cell : List ℕ → List ℕ
first_cell row = take (cell_end row) row

-- the cells after the first, if a comma ends it
abbrev pub after_cell : List ℕ → Option (List ℕ)
after_cell row = if nat_lt (cell_end row) (length row) then Some (drop (cell_end row + 1) row) else None

-- cell `k` of a row, counted from 0
abbrev pub cell_of : ℕ → Option (List ℕ) → Option (List ℕ)
cell_of k None = None
cell_of zero (Some row) = Some (first_cell row)
cell_of (suc k) (Some row) = cell_of k (after_cell row)

-- a cell without the quotes around it
abbrev pub unquoted : List ℕ → List ℕ
unquoted cell =
    if nat_le 2 (length cell) && (slice_index cell 0 == 34) && (slice_index cell (length cell - 1) == 34)
    then take (length cell - 2) (drop 1 cell) else cell

-- a cell without spaces before it
abbrev pub without_front : List ℕ → List ℕ
without_front cell = drop (prefix_len is_ascii_whitespace cell) cell

-- a cell without spaces after it
abbrev pub without_back : List ℕ → List ℕ
without_back cell = take (length cell - suffix_len is_ascii_whitespace cell) cell

-- the content of a cell: without spaces around it, and then without quotes
abbrev pub content_of : List ℕ → List ℕ
content_of cell = unquoted (without_back (without_front cell))

-- a cell has this name, in upper or lower case
abbrev pub is_named : List ℕ → List ℕ → Bool
is_named name cell = str_eq_ignore_ascii_case (content_of cell) name

-- the index of the first cell with this name among the next `cells` cells, which start at index `k`
abbrev pub named_from : ℕ → List ℕ → ℕ → Option (List ℕ) → Option ℕ
named_from cells name k None = None
named_from zero name k (Some row) = None
named_from (suc cells) name k (Some row) =
    if is_named name (first_cell row) then Some k else named_from cells name (k + 1) (after_cell row)

-- The index of the first cell with this name. A row of n bytes has at most n + 1 cells.
abbrev pub column_of : List ℕ → List ℕ → Option ℕ
column_of name row = named_from (length row + 1) name 0 (Some row)
