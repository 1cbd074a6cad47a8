-- The command that the words of the command line give, by what clap found in them.
use Rattle.std.specs.Prelude.{◌≡◌, ◌<◌, ◌^◌, ◌&&◌, ◌||◌, ℕ, Bool, true, false, List, Option, Some}
use Rattle.std.specs.Prelude.{None, MatchOption, if◌then◌else◌, codes, is_some, map}
use Rattle.std.specs.Prelude.{option_and_then}
use Rattle.std.specs.Option.{option_map_or, option_or}
use Rattle.std.specs.Str.{bytes_eq}
use Rattle.std.specs.Str.Parse.{IsNumeral, digits_value, without_leading_plus}
use Rattle.clap.specs.Matches.{found_of}
use Rattle.clap.specs.Simple.{subcommand_rows_of}
use Rattle.clap.specs.Walk.{Row, Text, all_of, first_of, one_of, rows_of}
use Rattle.clap.specs.declared.parser.matches.ArgMatches.{ArgMatches}
use Rattle.cn_form.specs.declared.answer_form.DocumentForm.{DocumentForm}
use Rattle.cn_form.specs.declared.answer_form.DocumentForm.TheVariants as document
use Rattle.cn_form.specs.declared.plan_form.PlanForm.{PlanForm}
use Rattle.cn_form.specs.declared.plan_form.PlanForm.TheVariants as form
use Rattle.cn_form.specs.declared.answer_form.AnswerForm.{AnswerForm}
use Rattle.cn_form.specs.declared.answer_form.AnswerForm.TheVariants as answer
use Rattle.cn_words.specs.declared.commands.Command.{Command}
use Rattle.cn_words.specs.declared.commands.Command.TheVariants.{Find, FindUnread, Lint}
use Rattle.cn_words.specs.declared.commands.Command.TheVariants.{Draw, Check, CheckUnread}
use Rattle.cn_words.specs.declared.commands.Command.TheVariants.{CheckShortest, FindShortest}
use Rattle.cn_words.specs.declared.commands.Command.TheVariants.{CheckStocks, FindStocks}
use Rattle.cn_words.specs.declared.commands.Command.TheVariants.{Explain, Why, WhyRecoverable}
use Rattle.cn_words.specs.declared.commands.Command.TheVariants.{ExplainStocks, WhyStocks}
use Rattle.cn_words.specs.declared.commands.Command.TheVariants.{WhyUnread, Pairs, Show, Agree}
use Rattle.cn_words.specs.declared.commands.Command.TheVariants.{Changes}
use Rattle.cn_words.specs.declared.commands.Command.TheVariants.{Replay, Serve}
use Rattle.cn_words.specs.declared.commands.CommandFault.{CommandFault}
use Rattle.cn_words.specs.declared.commands.CommandFault.TheVariants as fault
use Rattle.cn_words.specs.declared.commands.Invocation.{Invocation}
use Rattle.cn_words.specs.declared.commands.Invocation.TheVariants.{Classify, Lives, OfTable}
use Rattle.cn_words.specs.declared.commands.Invocation.TheVariants.{RecoverablePlan, ShortestPlan}
use Rattle.cn_words.specs.declared.commands.Invocation.TheVariants.{ShortestRun}
use Rattle.cn_words.specs.declared.commands.OpeningWords.{OpeningWords}
use Rattle.cn_words.specs.declared.commands.TextSource.{TextSource}
use Rattle.cn_words.specs.declared.plan_words.ObjectWords.{ObjectWords}
use Rattle.cn_words.specs.declared.plan_words.PlanWords.{PlanWords}
use Rattle.cn_words.specs.declared.plan_words.StyleWords.{StyleWords}
use Rattle.cn_words.specs.declared.plan_words.StyleWords.TheVariants as style
use Rattle.cn_words.specs.declared.without_certificate.RunWords.{RunWords}
use Rattle.cn_words.specs.declared.commands.TextSource.TheVariants as source

-- what clap found, argument by argument
abbrev pub rows_in : ArgMatches → List Row
rows_in m = rows_of (found_of m)

-- a value of which P holds, or none if there is no such value
abbrev pub Finds : {T : Type 0} → (T → Type 0) → Option T → Type 0
Finds {T} P o = MatchOption o ((x : T) → ¬ (P x)) P

-- ---- the arguments

-- the word that stands for an argument
abbrev pub HasWord : Text → List Row → Text → Type 0
HasWord id rows word = first_of id rows ≡ Some word

-- the text is a number of one byte, in decimal digits
abbrev pub IsByte : Text → ℕ → Type 0
IsByte text n = (IsNumeral 10 (without_leading_plus text)
    × (digits_value 10 (without_leading_plus text) < 2 ^ 8))
    × (n ≡ digits_value 10 (without_leading_plus text))

abbrev pub HasNumber : Text → List Row → ℕ → Type 0
HasNumber id rows n = (text : Text) × (one_of id rows ≡ Some text) × IsByte text n

-- the number, or none if it was not given
abbrev pub HasOptionalNumber : Text → List Row → Option ℕ → Type 0
HasOptionalNumber id rows None = one_of id rows ≡ None
HasOptionalNumber id rows (Some n) = HasNumber id rows n

-- the number of the limit, or none if it was not given
abbrev pub HasLimit : List Row → Option ℕ → Type 0
HasLimit rows limit = HasOptionalNumber (codes "limit") rows limit

-- a flag is set if it was given, and else it is not
abbrev pub HasFlag : Text → List Row → Bool → Type 0
HasFlag id rows is_set = (one_of id rows ≡ Some (codes "true") → is_set ≡ true)
    × (one_of id rows ≡ Some (codes "false") → is_set ≡ false)
    × (one_of id rows ≡ None → is_set ≡ false)

-- whether a flag was given
abbrev pub is_flag_set : Text → List Row → Bool
is_flag_set id rows = option_map_or (λ w. bytes_eq w (codes "true")) (first_of id rows) false

abbrev pub form_word : PlanForm → Text
form_word form.Text = codes "text"
form_word form.Json = codes "json"
form_word form.Dot = codes "dot"
form_word form.Promela = codes "promela"
form_word form.Rust = codes "rust"
form_word form.C = codes "c"

abbrev pub HasForm : List Row → PlanForm → Type 0
HasForm rows plan = HasWord (codes "as") rows (form_word plan)

abbrev pub answer_word : AnswerForm → Text
answer_word answer.Text = codes "text"
answer_word answer.Json = codes "json"

abbrev pub HasAnswerForm : List Row → AnswerForm → Type 0
HasAnswerForm rows form = HasWord (codes "as") rows (answer_word form)

abbrev pub document_word : DocumentForm → Text
document_word document.Text = codes "text"
document_word document.Json = codes "json"
document_word document.Markdown = codes "markdown"

abbrev pub HasDocumentForm : List Row → DocumentForm → Type 0
HasDocumentForm rows form = HasWord (codes "as") rows (document_word form)

-- the name of the file that a word names, or none for -, which is standard input
abbrev pub path_in : Text → Option Text
path_in word = if bytes_eq word (codes "-") then None else Some word

-- whether a word is - for standard input; `otherwise` if there is no word
abbrev pub is_input : Option Text → Bool → Bool
is_input word otherwise = option_map_or (λ w. bytes_eq w (codes "-")) word otherwise

abbrev pub path_of : TextSource → Option Text
path_of source.StandardInput = None
path_of (source.File path) = Some path.now

abbrev pub HasTables : List Row → List TextSource → Type 0
HasTables rows tables = (words : List Text) × (all_of (codes "FILE") rows ≡ Some words)
    × (map path_of tables ≡ map path_in words)

abbrev pub HasCertificate : List Row → TextSource → Type 0
HasCertificate rows certificate =
    (word : Text) × HasWord (codes "CERT") rows word × (path_of certificate ≡ path_in word)

-- the word that says where the table is: the value of the option, or else the last word
abbrev pub table_in : List Row → Option Text
table_in rows = option_or (first_of (codes "table") rows) (first_of (codes "FILE") rows)

-- the table is also standard input if no word says where it is
abbrev pub HasTable : List Row → TextSource → Type 0
HasTable rows table = path_of table ≡ option_and_then path_in (table_in rows)

-- both words say where the table is
abbrev pub is_table_twice : List Row → Bool
is_table_twice rows =
    is_some (first_of (codes "table") rows) && is_some (first_of (codes "FILE") rows)

-- standard input would be both the table and the certificate
abbrev pub is_input_shared : List Row → Bool
is_input_shared rows =
    is_input (first_of (codes "CERT") rows) false && is_input (table_in rows) true

abbrev pub HasOpening : List Row → OpeningWords → Type 0
HasOpening rows opening = HasCertificate rows opening.certificate
    × HasWord (codes "OBJECT") rows opening.object.now
    × HasWord (codes "START") rows opening.start.now
    × HasWord (codes "CAPACITY") rows opening.capacity.now

-- ---- how a plan is written

-- a form without a prefix, or a program in C or its header, with one
abbrev pub HasStyle : List Row → StyleWords → Type 0
HasStyle rows (style.Plain form) = HasForm rows form × (first_of (codes "prefix") rows ≡ None)
HasStyle rows (style.ExternalC prefix) =
    HasWord (codes "as") rows (codes "c") × HasWord (codes "prefix") rows prefix.now
HasStyle rows (style.Header prefix) =
    HasWord (codes "as") rows (codes "h") × HasWord (codes "prefix") rows prefix.now

-- whether the form is a program
abbrev pub is_program_word : Text → Bool
is_program_word w =
    bytes_eq w (codes "rust") || (bytes_eq w (codes "c") || bytes_eq w (codes "h"))

abbrev pub names_program : List Row → Bool
names_program rows = option_map_or is_program_word (first_of (codes "as") rows) false

-- both words for an object, beside a program; or neither
abbrev pub HasObject : List Row → Option ObjectWords → Type 0
HasObject rows None =
    (first_of (codes "object") rows ≡ None) × (first_of (codes "start") rows ≡ None)
HasObject rows (Some words) = HasWord (codes "object") rows words.object.now
    × HasWord (codes "start") rows words.start.now × (names_program rows ≡ true)

abbrev pub HasPlanWords : List Row → PlanWords → Type 0
HasPlanWords rows words = HasStyle rows words.style × HasObject rows words.object

-- whether a word is there that only a program has
abbrev pub is_of_program : List Row → Bool
is_of_program rows = is_some (first_of (codes "object") rows)
    || (is_some (first_of (codes "start") rows) || is_some (first_of (codes "prefix") rows))

-- ---- plans without a certificate

-- each argument of a run is what its word says
abbrev pub HasRun : List Row → RunWords → Type 0
HasRun rows words = HasWord (codes "INPUTS") rows words.inputs.now
    × HasWord (codes "SCHEDULE") rows words.schedule.now
    × HasOptionalNumber (codes "processes") rows words.processes
    × (words.steps ≡ is_flag_set (codes "steps") rows) × HasAnswerForm rows words.form

-- the first word says where the table of a run is, and no other word does
abbrev pub HasRunTable : List Row → TextSource → Type 0
HasRunTable rows table = HasCertificate rows table × (table_in rows ≡ None)

-- the word that says where the table of a plan is: the value of the option, or else the first word
abbrev pub plan_table_in : List Row → Option Text
plan_table_in rows = option_or (first_of (codes "table") rows) (first_of (codes "CERT") rows)

-- the table is also standard input if no word says where it is; there is no second word, and the
-- option and the first word do not both say so
pub record HasPlanTable (rows : List Row) (table : TextSource) : Type 0 where
  pub source : path_of table ≡ option_and_then path_in (plan_table_in rows)
  pub one : first_of (codes "FILE") rows ≡ None
  pub once :
      (is_some (first_of (codes "table") rows) && is_some (first_of (codes "CERT") rows)) ≡ false

-- whether a shortest plan is asked for: of all plans, or of those without reads
abbrev pub asks_for_shortest : List Row → Bool
asks_for_shortest rows =
    is_flag_set (codes "shortest") rows || is_flag_set (codes "without-read") rows

-- whether a word is there that no command by a certificate of a number has
abbrev pub excludes_certificate : List Row → Bool
excludes_certificate rows = is_flag_set (codes "recoverable") rows
    || (asks_for_shortest rows || is_some (first_of (codes "processes") rows))

-- whether a word is there that only the shortest plan has
abbrev pub is_of_plan : List Row → Bool
is_of_plan rows =
    is_flag_set (codes "shortest") rows || is_some (first_of (codes "processes") rows)

-- ---- numbers

-- whether a limit stands beside the flag of a number that has none
abbrev pub is_limit_excluded : List Row → Bool
is_limit_excluded rows =
    is_flag_set (codes "without-read") rows && is_some (first_of (codes "limit") rows)

-- whether the flags of two numbers stand side by side
abbrev pub is_number_twofold : List Row → Bool
is_number_twofold rows =
    is_flag_set (codes "recoverable") rows && is_flag_set (codes "without-read") rows

-- ---- the commands

abbrev pub name_of : Command → Text
name_of (Find limit) = codes "find"
name_of FindUnread = codes "find"
name_of (FindShortest processes) = codes "find"
name_of (FindStocks limit) = codes "find"
name_of (Lint form) = codes "lint"
name_of Draw = codes "draw"
name_of (Check certificate form) = codes "check"
name_of (CheckUnread certificate form) = codes "check"
name_of (CheckShortest certificate form) = codes "check"
name_of (CheckStocks certificate form) = codes "check"
name_of (Explain certificate all form) = codes "explain"
name_of (ExplainStocks certificate all) = codes "explain"
name_of (Why limit all form) = codes "why"
name_of (WhyRecoverable all form) = codes "why"
name_of (WhyUnread all form) = codes "why"
name_of (WhyStocks limit all) = codes "why"
name_of (Pairs form) = codes "pairs"
name_of (Changes recoverable without_read pairs form) = codes "changes"
name_of (Show certificate words) = codes "show"
name_of (Agree certificate inputs schedule steps form) = codes "agree"
name_of (Replay opening events form) = codes "replay"
name_of (Serve opening calls form) = codes "serve"

-- each argument is what its word says
abbrev pub HasArguments : List Row → Command → Type 0
HasArguments rows (Find limit) =
    HasLimit rows limit × (is_flag_set (codes "without-read") rows ≡ false)
    × (is_of_plan rows ≡ false) × (is_flag_set (codes "stocks") rows ≡ false)
HasArguments rows FindUnread = (is_flag_set (codes "without-read") rows ≡ true)
    × (first_of (codes "limit") rows ≡ None) × (is_of_plan rows ≡ false)
    × (is_flag_set (codes "stocks") rows ≡ false)
HasArguments rows (FindShortest processes) = (is_flag_set (codes "shortest") rows ≡ true)
    × (is_flag_set (codes "without-read") rows ≡ false) × (first_of (codes "limit") rows ≡ None)
    × HasOptionalNumber (codes "processes") rows processes
    × (is_flag_set (codes "stocks") rows ≡ false)
HasArguments rows (FindStocks limit) = (is_flag_set (codes "stocks") rows ≡ true)
    × (is_flag_set (codes "without-read") rows ≡ false) × (is_of_plan rows ≡ false)
    × HasLimit rows limit
HasArguments rows (Lint form) = HasAnswerForm rows form
HasArguments rows Draw = Unit {0}
HasArguments rows (Check certificate form) =
    HasCertificate rows certificate × HasAnswerForm rows form
    × (is_flag_set (codes "without-read") rows ≡ false)
    × (is_flag_set (codes "shortest") rows ≡ false)
    × (is_flag_set (codes "stocks") rows ≡ false)
HasArguments rows (CheckUnread certificate form) =
    HasCertificate rows certificate × HasAnswerForm rows form
    × (is_flag_set (codes "without-read") rows ≡ true)
    × (is_flag_set (codes "shortest") rows ≡ false)
    × (is_flag_set (codes "stocks") rows ≡ false)
HasArguments rows (CheckShortest certificate form) =
    HasCertificate rows certificate × HasAnswerForm rows form
    × (is_flag_set (codes "without-read") rows ≡ false)
    × (is_flag_set (codes "shortest") rows ≡ true)
    × (is_flag_set (codes "stocks") rows ≡ false)
HasArguments rows (CheckStocks certificate form) =
    HasCertificate rows certificate × HasAnswerForm rows form
    × (is_flag_set (codes "without-read") rows ≡ false)
    × (is_flag_set (codes "shortest") rows ≡ false)
    × (is_flag_set (codes "stocks") rows ≡ true)
HasArguments rows (Explain certificate all form) =
    HasCertificate rows certificate × HasFlag (codes "all") rows all × HasAnswerForm rows form
    × (is_flag_set (codes "stocks") rows ≡ false)
HasArguments rows (ExplainStocks certificate all) =
    HasCertificate rows certificate × HasFlag (codes "all") rows all
    × HasAnswerForm rows answer.Text × (is_flag_set (codes "stocks") rows ≡ true)
HasArguments rows (Why limit all form) =
    HasLimit rows limit × HasFlag (codes "all") rows all × HasDocumentForm rows form
    × (is_flag_set (codes "recoverable") rows ≡ false)
    × (is_flag_set (codes "without-read") rows ≡ false)
    × (is_flag_set (codes "stocks") rows ≡ false)
HasArguments rows (WhyRecoverable all form) =
    (is_flag_set (codes "recoverable") rows ≡ true)
    × (is_flag_set (codes "without-read") rows ≡ false) × (first_of (codes "limit") rows ≡ None)
    × HasFlag (codes "all") rows all × HasDocumentForm rows form
    × (is_flag_set (codes "stocks") rows ≡ false)
HasArguments rows (WhyUnread all form) =
    (is_flag_set (codes "without-read") rows ≡ true)
    × (is_flag_set (codes "recoverable") rows ≡ false) × (first_of (codes "limit") rows ≡ None)
    × HasFlag (codes "all") rows all × HasDocumentForm rows form
    × (is_flag_set (codes "stocks") rows ≡ false)
HasArguments rows (WhyStocks limit all) =
    HasLimit rows limit × HasFlag (codes "all") rows all × HasDocumentForm rows document.Text
    × (is_flag_set (codes "recoverable") rows ≡ false)
    × (is_flag_set (codes "without-read") rows ≡ false)
    × (is_flag_set (codes "stocks") rows ≡ true)
HasArguments rows (Pairs form) = HasDocumentForm rows form
HasArguments rows (Changes recoverable without_read pairs form) =
    (recoverable ≡ is_flag_set (codes "recoverable") rows)
    × (without_read ≡ is_flag_set (codes "without-read") rows)
    × (pairs ≡ is_flag_set (codes "pairs") rows) × HasDocumentForm rows form
    × (is_number_twofold rows ≡ false)
HasArguments rows (Show certificate words) = HasCertificate rows certificate
    × HasPlanWords rows words × (excludes_certificate rows ≡ false)
HasArguments rows (Agree certificate inputs schedule steps form) =
    HasCertificate rows certificate × HasWord (codes "INPUTS") rows inputs.now
    × HasWord (codes "SCHEDULE") rows schedule.now × HasFlag (codes "steps") rows steps
    × HasAnswerForm rows form × (excludes_certificate rows ≡ false)
HasArguments rows (Replay opening events form) =
    HasOpening rows opening × HasWord (codes "EVENTS") rows events.now × HasAnswerForm rows form
HasArguments rows (Serve opening calls form) =
    HasOpening rows opening × HasWord (codes "CALLS") rows calls.now × HasAnswerForm rows form

-- the command has this name, and its arguments are what the words behind the name say
abbrev pub IsNamed : Text → List Row → Command → Type 0
IsNamed name rows command = (name ≡ name_of command) × HasArguments rows command

-- the same, with the table that the words say; they do not say so twice, and standard input is not
-- the certificate too
pub record IsOfTable (name : Text) (rows : List Row) (table : TextSource) (command : Command)
    : Type 0 where
  pub arguments : IsNamed name rows command
  pub source : HasTable rows table
  pub once : is_table_twice rows ≡ false
  pub input : is_input_shared rows ≡ false

-- what the words behind the name of a command ask for
abbrev pub IsInvocation : Text → List Row → Invocation → Type 0
IsInvocation name rows (Classify limit recoverable without_read form tables) =
    (name ≡ codes "classify") × (is_limit_excluded rows ≡ false) × HasLimit rows limit
    × HasFlag (codes "recoverable") rows recoverable
    × HasFlag (codes "without-read") rows without_read × HasDocumentForm rows form
    × HasTables rows tables.items
IsInvocation name rows (OfTable table command) = IsOfTable name rows table command
IsInvocation name rows (Lives table words) = (name ≡ codes "agree")
    × (is_flag_set (codes "recoverable") rows ≡ true)
    × (asks_for_shortest rows ≡ false) × HasRunTable rows table × HasRun rows words
IsInvocation name rows (ShortestRun table without_read words) = (name ≡ codes "agree")
    × (asks_for_shortest rows ≡ true) × (is_flag_set (codes "recoverable") rows ≡ false)
    × (without_read ≡ is_flag_set (codes "without-read") rows) × HasRunTable rows table
    × HasRun rows words
IsInvocation name rows (ShortestPlan table without_read processes words) = (name ≡ codes "show")
    × (asks_for_shortest rows ≡ true) × (is_flag_set (codes "recoverable") rows ≡ false)
    × (without_read ≡ is_flag_set (codes "without-read") rows) × HasPlanTable rows table
    × HasOptionalNumber (codes "processes") rows processes × HasPlanWords rows words
IsInvocation name rows (RecoverablePlan table processes form) = (name ≡ codes "show")
    × (is_flag_set (codes "recoverable") rows ≡ true)
    × (asks_for_shortest rows ≡ false) × (is_of_program rows ≡ false) × HasPlanTable rows table
    × HasOptionalNumber (codes "processes") rows processes × HasAnswerForm rows form

-- the invocation of the parsed command, by the words behind its name
abbrev pub IsInvocationOf : ArgMatches → Invocation → Type 0
IsInvocationOf matches invocation =
    MatchOption (subcommand_rows_of matches) ⊥ (λ met. IsInvocation met.0 met.1 invocation)

-- the words are refused if they give no such invocation
abbrev pub RefusesCommand : (Invocation → Type 0) → CommandFault → Type 0
RefusesCommand IsGiven fault.Words = (invocation : Invocation) → ¬ (IsGiven invocation)
RefusesCommand IsGiven fault.OutOfMemory = Unit {0}
