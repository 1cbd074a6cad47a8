-- Operations, as lists give them: by number or by name.
use Rattle.std.specs.Prelude.{ℕ, List, length, map, Option, Some, None, option_map, unwrap_or}
use Rattle.std.specs.Prelude.{if◌then◌else◌}
use Rattle.std.specs.Char.{is_ascii_digit}
use Rattle.std.specs.List.{list_all}
use Rattle.cn_table.specs.Names.{is_name, number_of}
use Rattle.cn_table.specs.TypeTable.{TypeTable, operation_names}
use Rattle.cn_io.specs.Arguments.Lists.{number_up_to}
use Rattle.cn_io.specs.declared.arguments.operations.OperationWord.{OperationWord}
use Rattle.cn_io.specs.declared.arguments.operations.OperationWord.TheVariants.{Name, Number}

-- the operation that a text gives: decimal digits alone are its number, which is at most 255, and
-- any other text is its name
abbrev pub operation_of : List ℕ → Option OperationWord
operation_of text = if list_all is_ascii_digit text then option_map Number (number_up_to 255 text)
    else (if is_name text then Some (Name text) else None)

-- its number among the operations of an object: where none of them has the name it is their count,
-- which is the number of none
abbrev pub operation_in : TypeTable → OperationWord → ℕ
operation_in object (Number n) = n
operation_in object (Name name) =
    unwrap_or (number_of (operation_names object) name) (length object.operations)

-- the same of one operation after the other
abbrev pub operations_in : TypeTable → List OperationWord → List ℕ
operations_in object words = map (operation_in object) words
