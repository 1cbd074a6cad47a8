-- Operations that lists give by number.
use Rattle.std.proofs.Common.{◌≡◌, ℕ, List, Bool, true, false, Option, Some, None, refl, sym, ap, ◌∙◌}
use Rattle.std.specs.Prelude.{option_map, if◌then◌else◌}
use Rattle.std.specs.Char.{is_ascii_digit}
use Rattle.std.specs.List.{list_all}
use Rattle.cn_table.specs.Names.{is_name}
use Rattle.cn_io.specs.Arguments.Lists.{number_up_to}
use Rattle.cn_io.specs.Arguments.Operations.{operation_of}
use Rattle.cn_io.specs.declared.arguments.operations.OperationWord.TheVariants.{Name, Number}

no_number : (text : List ℕ) → list_all is_ascii_digit text ≡ false → number_up_to 255 text ≡ None
no_number text other = rw other refl

-- a number is that of the operation, where only digits spell one
digits_first : (digits is_one : Bool) (number : Option ℕ) (text : List ℕ) (n : ℕ) → (digits ≡ false → number ≡ None) → number ≡ Some n
    → (if digits then option_map Number number else (if is_one then Some (Name text) else None)) ≡ Some (Number n)
digits_first true is_one number text n none is = ap (option_map Number) is
digits_first false is_one number text n none is = let no : Some n ≡ None = sym is ∙ none refl in cc

pub operation_by_number : (text : List ℕ) (n : ℕ) → number_up_to 255 text ≡ Some n → operation_of text ≡ Some (Number n)
operation_by_number text n is = digits_first (list_all is_ascii_digit text) (is_name text) (number_up_to 255 text) text n (no_number text) is
