-- The words of the command line: the program, its commands and their arguments, as clap reads them.
use Rattle.std.specs.Prelude.{◌≡◌, ◌++◌, true, false, List, [], ◌∷◌, Result, Ok, Some, pos, codes}
use Rattle.clap.specs.Lexer.{usize_max}
use Rattle.clap.specs.Built.{AddsArg, AddsSubcommand}
use Rattle.clap.specs.Simple.{App, Shape, app_of, new_rule, new_shape}
use Rattle.clap.specs.Walk.{Rule, Text, is_empty, rule_of, texts}
use Rattle.clap.specs.declared.builder.action.ArgAction.TheVariants.{Append, Set, SetTrue}
use Rattle.clap.specs.declared.builder.arg.Arg.{Arg}
use Rattle.clap.specs.declared.builder.command.Command.{Command}
use Rattle.clap.specs.declared.builder.value_parser.ValueParser.{ValueParser}
use Rattle.clap.specs.declared.builder.value_parser.ValueParser.TheVariants.{Names, Signed}

-- ---- the arguments

-- a required word
abbrev pub required_word : Text → Rule
required_word id = record (new_rule id) { required = true }

-- words, at least one of which is required; options may stand between them
abbrev pub required_words : Text → Rule
required_words id = record (required_word id) {
  range = Some (record { start_inclusive = 1; end_inclusive = usize_max });
  action = Some Append;
}

-- an option with a value: --ID VALUE
abbrev pub value_option : Text → Rule
value_option id = record (new_rule id) { long = Some id; value_names = 1; action = Some Set }

-- --limit N, where N is a number of one byte
abbrev pub limit_option : Rule
limit_option =
    record (value_option (codes "limit")) { parser = Some (Signed (pos 0) (pos 255)) }

-- --processes N, where N is a number of one byte
abbrev pub processes_option : Rule
processes_option =
    record (value_option (codes "processes")) { parser = Some (Signed (pos 0) (pos 255)) }

-- the file of the certificate as a word, which may be left out
abbrev pub optional_certificate_word : Rule
optional_certificate_word = new_rule (codes "CERT")

-- --table FILE
abbrev pub table_option : Rule
table_option = value_option (codes "table")

-- the same file as a last word, which may be left out
abbrev pub file_word : Rule
file_word = new_rule (codes "FILE")

-- the same file as a required word
abbrev pub table_word : Rule
table_word = record (required_word (codes "table")) { value_names = 1 }

-- --as FORM, which is text if it is left out
abbrev pub form_option : ValueParser → Rule
form_option forms =
    record (value_option (codes "as")) { defaults = codes "text" ∷ []; parser = Some forms }

-- a flag: --ID
abbrev pub flag : Text → Rule
flag id = record (new_rule id) { long = Some id; action = Some SetTrue }

-- the words for the forms of a plan
abbrev pub plan_forms : List Text
plan_forms = codes "text" ∷ codes "json" ∷ codes "dot" ∷ codes "promela" ∷ codes "rust" ∷ codes "c"
    ∷ codes "h" ∷ []

-- the words for the forms of an answer
abbrev pub answer_forms : List Text
answer_forms = codes "text" ∷ codes "json" ∷ []

-- the words for the forms of an answer in a document
abbrev pub document_forms : List Text
document_forms = codes "text" ∷ codes "json" ∷ codes "markdown" ∷ []

-- a value is one of these words
abbrev pub TakesWords : List Text → ValueParser → Type 0
TakesWords words (Names names) = texts names.now ≡ words
TakesWords words parser = ⊥

-- the value parsers of the options for a form, by the commands that have one
pub record Forms : Type 0 where
  pub classify : ValueParser
  pub lint : ValueParser
  pub check : ValueParser
  pub explain : ValueParser
  pub why : ValueParser
  pub pairs : ValueParser
  pub changes : ValueParser
  pub show : ValueParser
  pub agree : ValueParser
  pub replay : ValueParser
  pub serve : ValueParser

-- each takes the words for its forms
pub record TakesForms (forms : Forms) : Type 0 where
  pub classify : TakesWords document_forms forms.classify
  pub lint : TakesWords answer_forms forms.lint
  pub check : TakesWords answer_forms forms.check
  pub explain : TakesWords answer_forms forms.explain
  pub why : TakesWords document_forms forms.why
  pub pairs : TakesWords document_forms forms.pairs
  pub changes : TakesWords document_forms forms.changes
  pub show : TakesWords plan_forms forms.show
  pub agree : TakesWords answer_forms forms.agree
  pub replay : TakesWords answer_forms forms.replay
  pub serve : TakesWords answer_forms forms.serve

-- ---- the commands

-- a command of this name, with these arguments in their order
abbrev pub command_with : Text → List Rule → Shape
command_with name rules = record (new_shape name) { rules = rules }

abbrev pub certificate_word : Rule
certificate_word = required_word (codes "CERT")

abbrev pub opening_words : List Rule
opening_words = certificate_word ∷ required_word (codes "OBJECT") ∷ required_word (codes "START")
    ∷ required_word (codes "CAPACITY") ∷ []

abbrev pub find_words : Shape
find_words = command_with (codes "find")
    (limit_option ∷ flag (codes "stocks") ∷ flag (codes "without-read") ∷ flag (codes "shortest")
    ∷ processes_option ∷ table_option ∷ file_word ∷ [])

abbrev pub classify_words : ValueParser → Shape
classify_words forms = command_with (codes "classify")
    (limit_option ∷ flag (codes "recoverable") ∷ flag (codes "without-read") ∷ form_option forms
    ∷ required_words (codes "FILE") ∷ [])

abbrev pub lint_words : ValueParser → Shape
lint_words forms = command_with (codes "lint") (form_option forms ∷ table_option ∷ file_word ∷ [])

abbrev pub check_words : ValueParser → Shape
check_words forms = command_with (codes "check")
    (certificate_word ∷ flag (codes "stocks") ∷ flag (codes "without-read")
    ∷ flag (codes "shortest") ∷ form_option forms ∷ table_option ∷ file_word ∷ [])

abbrev pub explain_words : ValueParser → Shape
explain_words forms = command_with (codes "explain")
    (certificate_word ∷ flag (codes "stocks") ∷ flag (codes "all") ∷ form_option forms
    ∷ table_option ∷ file_word ∷ [])

abbrev pub why_words : ValueParser → Shape
why_words forms = command_with (codes "why")
    (table_word ∷ limit_option ∷ flag (codes "stocks") ∷ flag (codes "recoverable")
    ∷ flag (codes "without-read") ∷ flag (codes "all") ∷ form_option forms ∷ [])

abbrev pub pairs_words : ValueParser → Shape
pairs_words forms = command_with (codes "pairs") (table_word ∷ form_option forms ∷ [])

abbrev pub changes_words : ValueParser → Shape
changes_words forms = command_with (codes "changes")
    (table_word ∷ flag (codes "recoverable") ∷ flag (codes "without-read") ∷ flag (codes "pairs")
    ∷ form_option forms ∷ [])

abbrev pub show_words : ValueParser → Shape
show_words forms = command_with (codes "show")
    (optional_certificate_word ∷ flag (codes "recoverable") ∷ flag (codes "shortest")
    ∷ flag (codes "without-read") ∷ processes_option ∷ form_option forms
    ∷ value_option (codes "object") ∷ value_option (codes "start") ∷ value_option (codes "prefix")
    ∷ table_option ∷ file_word ∷ [])

abbrev pub draw_words : Shape
draw_words = command_with (codes "draw") (table_option ∷ file_word ∷ [])

abbrev pub agree_words : ValueParser → Shape
agree_words forms = command_with (codes "agree")
    (certificate_word ∷ required_word (codes "INPUTS") ∷ required_word (codes "SCHEDULE")
    ∷ flag (codes "steps") ∷ flag (codes "recoverable") ∷ flag (codes "shortest")
    ∷ flag (codes "without-read") ∷ processes_option ∷ form_option forms ∷ table_option
    ∷ file_word ∷ [])

abbrev pub replay_words : ValueParser → Shape
replay_words forms = command_with (codes "replay")
    (opening_words ++ required_word (codes "EVENTS") ∷ form_option forms ∷ table_option ∷ file_word
    ∷ [])

abbrev pub serve_words : ValueParser → Shape
serve_words forms = command_with (codes "serve")
    (opening_words ++ required_word (codes "CALLS") ∷ form_option forms ∷ table_option ∷ file_word
    ∷ [])

-- the commands, in the order in which the help names them
abbrev pub commands : Forms → List Shape
commands forms = find_words ∷ classify_words forms.classify ∷ lint_words forms.lint
    ∷ check_words forms.check ∷ explain_words forms.explain ∷ why_words forms.why
    ∷ pairs_words forms.pairs ∷ changes_words forms.changes ∷ show_words forms.show ∷ draw_words
    ∷ agree_words forms.agree ∷ replay_words forms.replay ∷ serve_words forms.serve ∷ []

-- the program with these commands in this order; a command is required
abbrev pub program_with : List Shape → App
program_with subs = record {
  top = record (new_shape (codes "cnum")) {
    is_leaf = is_empty subs;
    has_version = true;
    subcommand_required = true;
  };
  subs = subs;
}

-- ---- what clap is told

-- the argument reads words by this rule, for one command alone
abbrev pub IsArgument : Rule → Arg → Type 0
IsArgument rule a = (rule_of a ≡ rule) × (a.global ≡ false)

-- the command reads words in this way, and has no commands of its own
abbrev pub IsCommand : Shape → Command → Type 0
IsCommand words c = app_of c ≡ record { top = words; subs = [] }

-- the command reads words in this way, by an option that takes these words for a form
abbrev pub IsCommandFor : List Text → (ValueParser → Shape) → Command → Type 0
IsCommandFor words shape c =
    (forms : ValueParser) × TakesWords words forms × IsCommand (shape forms) c

-- `new` is the command `made`, with one more argument at the end
abbrev pub AddsArgument : {E : Type 0} → Result Command E → Arg → Command → Type 0
AddsArgument made argument new = (old : Command) × (made ≡ Ok old) × AddsArg old argument new

-- `new` is the command `made`, with the file of the table as an option and as a last word
abbrev pub AddsTable : {E : Type 0} → Result Command E → Command → Type 0
AddsTable made new = (option : Arg) × (file : Arg) × IsArgument table_option option
    × IsArgument file_word file × (middle : Command) × AddsArgument made option middle
    × AddsArg middle file new

-- `new` is the program `program`, with the command `made` at the end
abbrev pub AddsCommand : {E : Type 0} → Result Command E → Result Command E → Command → Type 0
AddsCommand program made new = (old : Command) × (command : Command) × (program ≡ Ok old)
    × (made ≡ Ok command) × AddsSubcommand old command new

-- the program has these commands in this order
abbrev pub HasCommands : List Shape → Command → Type 0
HasCommands subs c = app_of c ≡ program_with subs

-- the same for commands that take forms
abbrev pub HasCommandsFor : (Forms → List Shape) → Command → Type 0
HasCommandsFor subs c = (forms : Forms) × TakesForms forms × HasCommands (subs forms) c
