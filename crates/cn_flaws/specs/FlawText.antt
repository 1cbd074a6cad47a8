-- The text of a flaw: the error and its place.
use Rattle.std.specs.Prelude.{codes, ℕ, ◌+◌, ◌/◌, ◌%◌, List, [], ◌∷◌, ◌++◌, length, flat_map, Bool}
use Rattle.std.specs.Prelude.{if◌then◌else◌, ◌==◌, ◌&&◌, nat_le, true, chars}
use Rattle.std.specs.Char.{encode_utf8, is_control}
use Rattle.std.specs.Fmt.{decimal, digits}
use Rattle.std.specs.List.{list_all}
use Rattle.std.specs.Str.{NoCharPasses}
use Rattle.cn_table.specs.Names.{is_name}
use Rattle.cn_table.specs.Texts.{code_of, joined_texts}
use Rattle.cn_flaws.specs.declared.flaw.Position.{Position}
use Rattle.cn_table.specs.declared.limits.TheConstants.{LONGEST_NAME, MOST_STATES}

-- a text with no control character, so also with no line feed
abbrev pub IsPlain : List ℕ → Type 0
IsPlain text = NoCharPasses is_control text

-- the escape of a control character, of which there are none from 256 on
abbrev pub escape : ℕ → List ℕ
escape c = codes "\\u00" ++ (digits 16 true (c / 16) ++ digits 16 true (c % 16))

-- a character as a basic string of TOML has it: a backslash before a quotation mark and before a
-- backslash, \u and four hexadecimal digits for a control character, and else the character
abbrev pub shown_char : ℕ → List ℕ
shown_char c =
    if c == code_of (codes "\"") then codes "\\\"" else if c == code_of (codes "\\")
    then codes "\\\\" else if is_control c then escape c else encode_utf8 c

-- a text between quotation marks
abbrev pub in_quotes : List ℕ → List ℕ
in_quotes text = codes "\"" ++ (flat_map shown_char (chars text) ++ codes "\"")

-- the words for an operation: its name, if that is a name, or else its place in the array
abbrev pub operation_text : ℕ → List ℕ → List ℕ
operation_text i name = if is_name name then codes "operation \"" ++ (name ++ codes "\"")
    else codes "operation[" ++ (decimal i ++ codes "]")

-- a byte that continues a character of UTF-8
abbrev pub goes_on : ℕ → Bool
goes_on b = nat_le 128 b && nat_le b 191

-- the line and the column, from 1, behind these bytes, if the first of them stands at this line and
-- column; a column counts characters
abbrev pub place_after : ℕ → ℕ → List ℕ → Position
place_after line column [] = record { line = line; column = column }
place_after line column (b ∷ bs) =
    if b == code_of (codes "\n") then place_after (line + 1) 1 bs else if goes_on b
    then place_after line column bs else place_after line (column + 1) bs

abbrev pub not_toml_text : Position → List ℕ
not_toml_text position = codes "line "
    ++ (decimal position.line
    ++ (codes ", column " ++ (decimal position.column ++ codes ": not TOML")))

-- a key that should not be there: `before` says where it is, and `after` which keys belong there
abbrev pub other_key_text : List ℕ → List ℕ → List ℕ → List ℕ
other_key_text before after key = before ++ (in_quotes key ++ after)

-- a missing key
abbrev pub missing_key_text : List ℕ → List ℕ → List ℕ
missing_key_text place key = place ++ (codes " has no \"" ++ (key ++ codes "\""))

-- a value of a wrong kind
abbrev pub kind_text : List ℕ → List ℕ → List ℕ → List ℕ
kind_text before key kind = before ++ (codes "\"" ++ (key ++ (codes "\": not " ++ kind)))

abbrev pub no_operation_text : ℕ → List ℕ
no_operation_text i = codes "operation[" ++ (decimal i ++ codes "]: not a table")

abbrev pub bad_name_text : List ℕ → List ℕ → List ℕ
bad_name_text what name = what ++ (codes " "
    ++ (in_quotes name ++ (codes ": 1 to " ++ (decimal LONGEST_NAME ++ codes " of a-z, 0-9, _"))))

-- too many things, or none, each called `what`
abbrev pub too_many_text : List ℕ → ℕ → ℕ → List ℕ
too_many_text what most count =
    decimal count ++ (codes " " ++ (what ++ (codes "s; at most " ++ decimal most)))

abbrev pub too_few_text : List ℕ → List ℕ
too_few_text what = codes "0 " ++ (what ++ codes "s; at least 1")

-- what stands before so many further places
abbrev pub before_places : ℕ → List ℕ
before_places more = if more == 0 then [] else (if more == 1 then codes " and " else codes ", ")

-- the places of things called `what`, with a comma between two, and `and` before the last
abbrev pub places_text : List ℕ → List ℕ → List ℕ
places_text what [] = []
places_text what (i ∷ others) = what ++ (codes "["
    ++ (decimal i ++ (codes "]" ++ (before_places (length others) ++ places_text what others))))

-- the word for so many things
abbrev pub both_or_all : ℕ → List ℕ
both_or_all count = if count == 2 then codes "both" else codes "all"

-- the things at these places have one name
abbrev pub repeated_text : List ℕ → List ℕ → List ℕ → List ℕ
repeated_text what places name = places_text what places
    ++ (codes " are " ++ (both_or_all (length places) ++ (codes " called " ++ in_quotes name)))

abbrev pub entries_text : ℕ → List ℕ
entries_text n = if n == 1 then codes "1 entry" else decimal n ++ codes " entries"

abbrev pub states_text : ℕ → List ℕ
states_text n = if n == 1 then codes "there is 1 state"
    else codes "there are " ++ (decimal n ++ codes " states")

-- a row with so many entries, for so many states
abbrev pub length_text : List ℕ → List ℕ → ℕ → ℕ → List ℕ
length_text operation row count states = operation ++ (codes ": "
    ++ (row ++ (codes " has " ++ (entries_text count ++ (codes ", " ++ states_text states)))))

-- the names in brackets, if they are few
abbrev pub names_in_brackets : List (List ℕ) → List ℕ
names_in_brackets names =
    if nat_le (length names) MOST_STATES && list_all is_name names
    then codes " (" ++ (joined_texts (codes ", ") names ++ codes ")") else []

-- an entry of a row that is no known name
abbrev pub entry_text : List ℕ → List ℕ → ℕ → List ℕ → List ℕ → List ℕ → List ℕ
entry_text operation row k text what names =
    operation ++ (codes ", " ++ (row ++ (codes "["
    ++ (decimal k ++ (codes "]: " ++ (in_quotes text ++ (codes " is no " ++ (what ++ names))))))))
