-- Words and numbers of formats.
use Rattle.std.proofs.Common.{◌≡◌, ◌∙◌, ℕ, List, Option, None, Some, refl, sym, ap}
use Rattle.std.specs.Prelude.{codes, if◌then◌else◌, suc, zero}
use Rattle.std.specs.Str.{bytes_eq}
use Rattle.sq_text.specs.declared.rows.Form.TheVariants.{Csv, Json}
use Rattle.sq_commands.specs.declared.formats.Format.{Format}
use Rattle.sq_commands.specs.declared.formats.Format.TheVariants.{Lines, Rows}
use Rattle.sq_commands.specs.Formats.{IsFormatWord, format_name, format_number}

-- the format with a name
abbrev with_name : List ℕ → Format
with_name name =
    if bytes_eq name (codes "csv") then Rows Csv else (if bytes_eq name (codes "json") then Rows Json else Lines)

name_back : (format : Format) → with_name (format_name format) ≡ format
name_back Lines = refl
name_back (Rows Csv) = refl
name_back (Rows Json) = refl

-- no two formats have one name
named : (a b : Format) → format_name a ≡ format_name b → a ≡ b
named a b is = sym (name_back a) ∙ ap with_name is ∙ name_back b

-- the format with a number
abbrev with_number : ℕ → Format
with_number zero = Lines
with_number (suc zero) = Rows Csv
with_number (suc (suc number)) = Rows Json

number_back : (format : Format) → with_number (format_number format) ≡ format
number_back Lines = refl
number_back (Rows Csv) = refl
number_back (Rows Json) = refl

-- no two formats have one number
pub one_number : (number : ℕ) (a b : Format) → number ≡ format_number a → number ≡ format_number b → a ≡ b
one_number number a b x y = sym (number_back a) ∙ ap with_number (sym x ∙ y) ∙ number_back b

pub one_format : (word : Option (List ℕ)) (a b : Format) → IsFormatWord word a → IsFormatWord word b → a ≡ b
one_format None a b x y = x ∙ sym y
one_format (Some word) a b x y = named a b (sym x ∙ y)
