-- Arguments that are lists.
use Rattle.std.specs.Prelude.{ℕ, List, length, Option, Some, None, nat_le, ◌&&◌, if◌then◌else◌}
use Rattle.std.specs.Prelude.{option_and_then, map, [], codes, ◌==◌, ◌≡◌, ◌⊎◌, Result, Ok, Err, Vec}
use Rattle.std.specs.Prelude.{string_bytes}
use Rattle.std.specs.Global.{Global}
use Rattle.std.specs.Char.{is_ascii_digit}
use Rattle.std.specs.List.{list_all, slice_split}
use Rattle.std.specs.Str.Parse.{digits_value}
use Rattle.std.specs.Str.{bytes_eq}
use Rattle.cn_table.specs.Draft.{all_some}
use Rattle.cn_table.specs.Texts.{code_of}
use Rattle.cn_io.specs.declared.arguments.list_text.ListText.{ListText}
use Rattle.cn_io.specs.declared.arguments.list_text.ListText.TheVariants.{File, Word}
use Rattle.cn_io.specs.declared.arguments.lists.RunLists.{RunLists}
use Rattle.cn_io.specs.declared.limits.TheConstants.{MOST_DIGITS, MOST_FILE_ITEMS, MOST_ITEMS}
use Rattle.cn_io.specs.declared.fault.AppFault.{AppFault}
use Rattle.cn_io.specs.declared.fault.AppFault.TheVariants as fault
use Rattle.cn_io.specs.declared.fault.Argument.{Argument}
use Rattle.cn_io.specs.declared.fault.Argument.TheVariants.{Inputs, Schedule}

-- the number that decimal digits write, of which there may be so many; there is no sign, and zeros
-- may stand first
abbrev pub number_of : List ℕ → Option ℕ
number_of text = if list_all is_ascii_digit text && (nat_le 1 (length text)
    && nat_le (length text) MOST_DIGITS) then Some (digits_value 10 text) else None

-- the same, of a number that may be at most so great
abbrev pub number_up_to : ℕ → List ℕ → Option ℕ
number_up_to greatest text =
    option_and_then (λ n. if nat_le n greatest then Some n else None) (number_of text)

-- the items that the pieces spell, of which there may be so many
abbrev pub items_of : {X : Type 0} → ℕ → (List ℕ → Option X) → List (List ℕ) → Option (List X)
items_of most item pieces = if nat_le (length pieces) most then all_some (map item pieces) else None

-- the list of at most so many items that a text spells: `none` is the empty one, else a comma
-- stands between two items
abbrev pub list_up_to : {X : Type 0} → ℕ → (List ℕ → Option X) → List ℕ → Option (List X)
list_up_to most item text = if bytes_eq text (codes "none") then Some []
    else items_of most item (slice_split (λ byte. byte == code_of (codes ",")) text)

-- the text of a list, and how many items the list may have
abbrev pub text_of : ListText → List ℕ
text_of (Word text) = text.now
text_of (File text) = string_bytes text

abbrev pub most_items : ListText → ℕ
most_items (Word text) = MOST_ITEMS
most_items (File text) = MOST_FILE_ITEMS

-- the items of a list, where its text spells one of so many
abbrev pub list_of : {X : Type 0} → (List ℕ → Option X) → ListText → Option (List X)
list_of item list = list_up_to (most_items list) item (text_of list)

-- the numbers that the processes begin with, and a schedule, process by process
abbrev pub inputs_of : ListText → Option (List ℕ)
inputs_of list = list_of (number_up_to 18446744073709551615) list

abbrev pub schedule_of : ListText → Option (List ℕ)
schedule_of list = list_of (number_up_to 255) list

-- reading an argument ends so: it spells a value; or it spells none
abbrev pub Spells : {X : Type 0} → Argument → Option X → Result X AppFault → Type 0
Spells argument spelled (Ok x) = spelled ≡ Some x
Spells argument spelled (Err e) = (e ≡ fault.Argument argument) × (spelled ≡ None)

-- the same of a list, for which memory may run out
abbrev pub GivesList : {X : Type 0} → Argument → Option (List X)
    → Result (Vec X Global) AppFault → Type 0
GivesList argument spelled (Ok items) = spelled ≡ Some items.items
GivesList argument spelled (Err e) =
    (e ≡ fault.OutOfMemory) ⊎ ((e ≡ fault.Argument argument) × (spelled ≡ None))

-- reading the inputs and then the schedule ends so
abbrev pub GivesLists : ListText → ListText → Result RunLists AppFault → Type 0
GivesLists inputs schedule (Ok lists) = (inputs_of inputs ≡ Some lists.inputs.items)
    × (schedule_of schedule ≡ Some lists.schedule.items)
GivesLists inputs schedule (Err e) =
    (e ≡ fault.OutOfMemory) ⊎ (((e ≡ fault.Argument Inputs) × (inputs_of inputs ≡ None))
    ⊎ ((e ≡ fault.Argument Schedule) × (schedule_of schedule ≡ None)
    × ((xs : List ℕ) × (inputs_of inputs ≡ Some xs))))
