-- What `classify` writes, by the table that it reads, by the limit, if one was given, and by the
-- form.
use Rattle.std.specs.Prelude.{◌≡◌, ◌⊎◌, ℕ, List, ◌++◌, codes, nat_lt, if◌then◌else◌}
use Rattle.std.specs.Prelude.{Bool, true, false, Option, Some, None, option_map, IsSomeAnd}
use Rattle.std.specs.Prelude.{Result, Ok, Err, string_bytes}
use Rattle.std.specs.Fmt.{decimal}
use Rattle.serde_json.specs.Written.{compact_text}
use Rattle.cn_table.specs.TypeTable.{TypeTable}
use Rattle.cn_choice.specs.Discerning.{IsNumberUpTo}
use Rattle.cn_search.specs.Faults.{number_fault}
use Rattle.cn_search.specs.NumberText.{number_text}
use Rattle.cn_search.specs.Numbers.{HasNumber}
use Rattle.cn_search.specs.declared.exact.ConsensusNumber.{ConsensusNumber}
use Rattle.cn_search.specs.declared.fault.FindFault.{FindFault}
use Rattle.cn_recover.specs.Recording.{HasRecoverableNumber, IsRecoverableNumberUpTo}
use Rattle.cn_unread_number.specs.Bounds.{HasUnreadNumber}
use Rattle.cn_unread_number.specs.BoundsText.{bounds_text}
use Rattle.cn_unread_number.specs.declared.bounds.NumberBounds.{NumberBounds}
use Rattle.cn_markdown.specs.Numbers.{numbers_head, numbers_row}
use Rattle.cn_json.specs.Numbers.{classification_data}
use Rattle.cn_form.specs.declared.answer_form.DocumentForm.{DocumentForm}
use Rattle.cn_form.specs.declared.answer_form.DocumentForm.TheVariants as form
use Rattle.cn_json.specs.declared.numbers.Classification.{Classification}
use Rattle.cn_reasons.specs.declared.numbers.TypeNumber.{TypeNumber}
use Rattle.cn_reasons.specs.declared.numbers.TypeNumber.TheVariants.{Exact, UpTo}
use Rattle.cn_io.specs.FaultText.{plain_of}
use Rattle.cn_io.specs.Steps.{Then}
use Rattle.cn_io.specs.Texts.Contents.{GivesTable}
use Rattle.cn_io.specs.declared.report.Outcome.TheVariants.{Whole}
use Rattle.cn_io.specs.declared.report.Report.{Report}
use Rattle.cn_app.specs.declared.reports.classify.AskedNumbers.{AskedNumbers}
use Rattle.cn_app.specs.declared.reports.classify.BothNumbers.{BothNumbers}
use Rattle.cn_io.specs.declared.streams.text.Text.{Text}
use Rattle.cn_io.specs.declared.fault.AppFault.{AppFault}
use Rattle.cn_io.specs.declared.fault.AppFault.TheVariants.{Find, OutOfMemory}

-- the fault of the limit, if one was given and it has one
abbrev pub given_limit_fault : Option ℕ → Option FindFault
given_limit_fault None = None
given_limit_fault (Some limit) = number_fault limit

-- ---- the numbers

-- a number that is told: the one with no limit where none was given, and else the one up to the
-- limit
abbrev pub IsNumberFor : (ConsensusNumber → Type 0) → (ℕ → Option ℕ → Type 0)
    → Option ℕ → TypeNumber → Type 0
IsNumberFor IsNumber IsUpTo None (Exact number) = IsNumber number
IsNumberFor IsNumber IsUpTo None (UpTo up_to number) = ⊥
IsNumberFor IsNumber IsUpTo (Some limit) (Exact number) = ⊥
IsNumberFor IsNumber IsUpTo (Some limit) (UpTo up_to number) =
    (up_to ≡ limit) × IsUpTo limit number

-- the type's number
abbrev pub IsTypeNumber : TypeTable → Option ℕ → TypeNumber → Type 0
IsTypeNumber t limit number = IsNumberFor (HasNumber t) (IsNumberUpTo t) limit number

-- its recoverable number
abbrev pub IsRecoverableNumber : TypeTable → Option ℕ → TypeNumber → Type 0
IsRecoverableNumber t limit number =
    IsNumberFor (HasRecoverableNumber t) (IsRecoverableNumberUpTo t) limit number

-- both
pub record AreBothNumbers (t : TypeTable) (limit : Option ℕ) (both : BothNumbers) : Type 0 where
  pub number : IsTypeNumber t limit both.number
  pub recoverable : IsRecoverableNumber t limit both.recoverable

-- the recoverable number if it is asked for, and else none
abbrev pub IsAskedNumber : TypeTable → Option ℕ → Bool → Option TypeNumber → Type 0
IsAskedNumber t limit true None = ⊥
IsAskedNumber t limit true (Some number) = IsRecoverableNumber t limit number
IsAskedNumber t limit false number = number ≡ None

-- what is known of the number without reads if that is asked for, and else nothing
abbrev pub AreAskedBounds : TypeTable → Bool → Option NumberBounds → Type 0
AreAskedBounds t true None = ⊥
AreAskedBounds t true (Some bounds) = HasUnreadNumber t bounds
AreAskedBounds t false bounds = bounds ≡ None

-- the limit has no fault, and these are the name of the type and its numbers, of which the last two
-- stand there if they are asked for
pub record IsClassificationOf (t : TypeTable) (limit : Option ℕ) (is_asked is_unread_asked : Bool)
    (c : Classification) : Type 0 where
  pub in_range : given_limit_fault limit ≡ None
  pub name : c.name.now ≡ t.name
  pub number : IsTypeNumber t limit c.number
  pub recoverable : IsAskedNumber t limit is_asked c.recoverable
  pub without_read : AreAskedBounds t is_unread_asked c.without_read

-- ---- their words

-- a number up to a limit, in words: 1 where there is none up to the limit, and that it is at least
-- so much where it is the limit
abbrev pub number_words : ℕ → Option ℕ → List ℕ
number_words limit None = codes "1"
number_words limit (Some n) = if nat_lt n limit then decimal n else codes "at least " ++ decimal n

-- the words of a number: of the one with no limit where none was given, and else of the one up to
-- the limit
abbrev pub AreWordsFor : (ConsensusNumber → Type 0) → (ℕ → Option ℕ → Type 0)
    → Option ℕ → List ℕ → Type 0
AreWordsFor IsNumber IsUpTo None words =
    (number : ConsensusNumber) × IsNumber number × (words ≡ number_text number)
AreWordsFor IsNumber IsUpTo (Some limit) words =
    (number : Option ℕ) × IsUpTo limit number × (words ≡ number_words limit number)

-- the words of the type's number
abbrev pub AreNumberWords : TypeTable → Option ℕ → List ℕ → Type 0
AreNumberWords t limit words = AreWordsFor (HasNumber t) (IsNumberUpTo t) limit words

-- the words of its recoverable number
abbrev pub AreRecoverableWords : TypeTable → Option ℕ → List ℕ → Type 0
AreRecoverableWords t limit words =
    AreWordsFor (HasRecoverableNumber t) (IsRecoverableNumberUpTo t) limit words

-- the words of a number that is told
abbrev pub words_of : TypeNumber → List ℕ
words_of (Exact number) = number_text number
words_of (UpTo limit number) = number_words limit number

-- ---- the forms

-- the line of a type of this name with this number in words
abbrev pub line_with : List ℕ → List ℕ → List ℕ
line_with name number = name ++ codes ": " ++ number ++ codes "\n"

-- the line of a type of this name with this number and this recoverable number in words
abbrev pub line_with_both : List ℕ → List ℕ → List ℕ → List ℕ
line_with_both name number recoverable =
    name ++ codes ": " ++ number ++ codes ", recoverable " ++ recoverable ++ codes "\n"

-- the line of a type of this name with these numbers in words: the number, the recoverable number,
-- and what is known of the number without reads
abbrev pub line_of : List ℕ → List ℕ → Option (List ℕ) → Option (List ℕ) → List ℕ
line_of name number None None = line_with name number
line_of name number (Some recoverable) None = line_with_both name number recoverable
line_of name number None (Some bounds) =
    name ++ codes ": " ++ number ++ codes ", without read " ++ bounds ++ codes "\n"
line_of name number (Some recoverable) (Some bounds) =
    name ++ codes ": " ++ number ++ codes ", recoverable " ++ recoverable
    ++ codes ", without read " ++ bounds ++ codes "\n"

-- the numbers of a type as a line
abbrev pub classification_line : Classification → List ℕ
classification_line c = line_of c.name.now (words_of c.number) (option_map words_of c.recoverable)
    (option_map bounds_text c.without_read)

-- the numbers of a type in a form: as a line of text, as a line with a JSON object, or as a row of
-- a Markdown table
abbrev pub classification_in : DocumentForm → Classification → List ℕ
classification_in form.Text c = classification_line c
classification_in form.Json c = compact_text (classification_data c) ++ codes "\n"
classification_in form.Markdown c =
    numbers_row c.name.now (words_of c.number) (option_map words_of c.recoverable)
    (option_map bounds_text c.without_read)

-- the limit has no fault, and this is the line of the table with its number
pub record IsClassified (t : TypeTable) (limit : Option ℕ) (line : List ℕ) : Type 0 where
  pub in_range : given_limit_fault limit ≡ None
  pub words : List ℕ
  pub number : AreNumberWords t limit words
  pub written : line ≡ line_with t.name words

-- the limit has no fault, and this is the line of the table with its number and its recoverable
-- number
pub record IsRecoverablyClassified (t : TypeTable) (limit : Option ℕ) (line : List ℕ) : Type 0 where
  pub in_range : given_limit_fault limit ≡ None
  pub words : List ℕ
  pub number : AreNumberWords t limit words
  pub recoverable_words : List ℕ
  pub recoverable : AreRecoverableWords t limit recoverable_words
  pub written : line ≡ line_with_both t.name words recoverable_words

-- ---- the command

-- classifying a table ends so: with the numbers that are asked for, in their form, unless memory
-- ran out
abbrev pub IsNumbersReport : TypeTable → AskedNumbers → Result Report AppFault → Type 0
IsNumbersReport t asked (Ok report) = ((c : Classification)
    × IsClassificationOf t asked.limit asked.recoverable asked.without_read c
    × (string_bytes report.text ≡ classification_in asked.form c)) × (report.outcome ≡ Whole)
IsNumbersReport t asked (Err e) = e ≡ OutOfMemory

-- a limit is looked at so: it has no fault, or this one
abbrev pub GivesLimit : Option ℕ → Result Unit AppFault → Type 0
GivesLimit limit (Ok done) = given_limit_fault limit ≡ None
GivesLimit limit (Err e) = IsSomeAnd (given_limit_fault limit) (λ fault. e ≡ plain_of (Find fault))

-- what there is to say of a text whose limit has no fault
abbrev pub ClassifiesText : {R : Type 0} → Text R → AskedNumbers → Result Report AppFault → Type 0
ClassifiesText text asked r = Then (GivesTable text) (λ t. IsNumbersReport t asked) r

-- what `classify` has to say of a text: the limit is looked at first
abbrev pub HasClassReport : {R : Type 0} → Text R → AskedNumbers → Result Report AppFault → Type 0
HasClassReport text asked r = Then (GivesLimit asked.limit) (λ _. ClassifiesText text asked) r

-- the head of the Markdown table whose rows `classify` writes: the limit is looked at first
abbrev pub IsHeadReport : AskedNumbers → Result Report AppFault → Type 0
IsHeadReport asked (Ok report) = (given_limit_fault asked.limit ≡ None)
    × (string_bytes report.text ≡ numbers_head asked.recoverable asked.without_read)
    × (report.outcome ≡ Whole)
IsHeadReport asked (Err e) = (e ≡ OutOfMemory) ⊎ GivesLimit asked.limit (Err e)
