-- Commands with one more argument, and programs with one more command.
use Rattle.std.proofs.Common.{◌≡◌, ◌∙◌, ◌&&◌, Bool, true, false, not, List, Result, Ok, Err, ap, ap₂, refl, subst}
use Rattle.std.specs.Prelude.{IfOk}
use Rattle.std.proofs.lemmas.Result.{IfOk-weaker}
use Rattle.clap.specs.Built.{AddsSubcommand}
use Rattle.clap.specs.Simple.{App, Shape, app_of, with_rule, with_subcommand}
use Rattle.clap.specs.Walk.{Rule, Text}
use Rattle.clap.specs.declared.builder.arg.Arg.{Arg}
use Rattle.clap.specs.declared.builder.command.Command.{Command}
use Rattle.clap.specs.declared.builder.value_parser.ValueParser.{ValueParser}
use Rattle.cn_words.specs.CommandLine.{AddsArgument, AddsCommand, AddsTable, IsArgument, IsCommand, IsCommandFor, TakesWords, file_word, table_option}

-- a fact about the value of a result that is this value
of_made : {T E : Type 0} (P : T → Type 0) (r : Result T E) (x : T) → IfOk r P → r ≡ Ok x → P x
of_made P (Ok y) x holds is = subst (λ o. IfOk o P) is holds
of_made P (Err e) x holds is = cc

-- the third of three tests, if they hold
third : (a b g d : Bool) → (a && (not b && (not g && d))) ≡ true → g ≡ false
third false b g d h = cc
third true true g d h = cc
third true false true d h = cc
third true false false d h = refl

-- one more argument at the end
pub argument_more : {E : Type 0} (made new : Result Command E) (a : Arg) (app : App) (rule : Rule) → IfOk made (λ old. app_of old ≡ app)
    → IsArgument rule a → IfOk new (AddsArgument made a) → IfOk new (λ c. app_of c ≡ with_rule app rule)
argument_more made new a app rule was is adds = IfOk-weaker new _ _ (λ c more.
    more.2.shape is.1 ∙ ap₂ with_rule (of_made (λ old. app_of old ≡ app) made more.0 was more.1) is.0) adds

-- the file of the table at the end, as an option and as a word
pub table_added : {E : Type 0} (made middle new : Result Command E) (option file : Arg) → IsArgument table_option option → IsArgument file_word file
    → IfOk middle (AddsArgument made option) → IfOk new (AddsArgument middle file) → IfOk new (AddsTable made)
table_added made middle new option file is_option is_file first adds = IfOk-weaker new _ _ (λ c more.
    (option, file, is_option, is_file, more.0, of_made (AddsArgument made option) middle more.0 first more.1, more.2)) adds

pub table_more : {E : Type 0} (made new : Result Command E) (app : App) → IfOk made (λ old. app_of old ≡ app)
    → IfOk new (AddsTable made) → IfOk new (λ c. app_of c ≡ with_rule (with_rule app table_option) file_word)
table_more made new app was adds = IfOk-weaker new _ _ (λ c more.
    let before = of_made (λ old. app_of old ≡ app) made more.5.0 was more.5.1 in
    let middle : app_of more.4 ≡ with_rule app table_option = more.5.2.shape more.2.1 ∙ ap₂ with_rule before more.2.0 in
    more.6.shape more.3.1 ∙ ap₂ with_rule middle more.3.0) adds

-- one more command at the end, with known words
subcommand_more : (old command new : Command) (app : App) (words : Shape) → app_of old ≡ app → IsCommand words command → words.is_plain ≡ true
    → AddsSubcommand old command new → app_of new ≡ with_subcommand app words
subcommand_more old command new app words has is plain adds =
    let top : (app_of command).top ≡ words = ap (λ (x : App). x.top) is in
    let no_globals = third _ _ _ _ (ap (λ (s : Shape). s.is_plain) top ∙ plain) in
    adds.shape no_globals ∙ ap₂ with_subcommand has top

pub command_more : {E : Type 0} (program made new : Result Command E) (app : App) (words : Shape) → IfOk program (λ old. app_of old ≡ app)
    → IfOk made (IsCommand words) → words.is_plain ≡ true → IfOk new (AddsCommand program made) → IfOk new (λ c. app_of c ≡ with_subcommand app words)
command_more program made new app words has is plain adds = IfOk-weaker new _ _ (λ c more.
    subcommand_more more.0 more.1 c app words (of_made (λ old. app_of old ≡ app) program more.0 has more.2)
    (of_made (IsCommand words) made more.1 is more.3) plain more.4) adds

-- a program that takes values x, with one more command at the end
pub command_more_for : {E X : Type 0} (Takes : X → Type 0) (program made new : Result Command E) (app : X → App) (words : Shape)
    → IfOk program (λ old. (x : X) × Takes x × (app_of old ≡ app x))
    → IfOk made (IsCommand words) → words.is_plain ≡ true → IfOk new (AddsCommand program made)
    → IfOk new (λ c. (x : X) × Takes x × (app_of c ≡ with_subcommand (app x) words))
command_more_for {X} Takes program made new app words has is plain adds = IfOk-weaker new _ _ (λ c more.
    let old = of_made (λ o. (x : X) × Takes x × (app_of o ≡ app x)) program more.0 has more.2 in
    (old.0, old.1, subcommand_more more.0 more.1 c (app old.0) words old.2 (of_made (IsCommand words) made more.1 is more.3) plain more.4)) adds

-- values that a program takes, and one more that takes these words
abbrev pub Taking : {X : Type 0} → (X → Type 0) → List Text → X × ValueParser → Type 0
Taking Takes names y = Takes y.0 × TakesWords names y.1

-- the same with a command that takes words for a form
pub form_more : {E X : Type 0} (Takes : X → Type 0) (names : List Text) (program made new : Result Command E) (app : X → App)
    (words : ValueParser → Shape) → IfOk program (λ old. (x : X) × Takes x × (app_of old ≡ app x))
    → IfOk made (IsCommandFor names words) → ((p : ValueParser) → (words p).is_plain ≡ true) → IfOk new (AddsCommand program made)
    → IfOk new (λ c. (y : X × ValueParser) × Taking Takes names y × (app_of c ≡ with_subcommand (app y.0) (words y.1)))
form_more {X} Takes names program made new app words has is plain adds = IfOk-weaker new _ _ (λ c more.
    let old = of_made (λ o. (x : X) × Takes x × (app_of o ≡ app x)) program more.0 has more.2 in
    let form = of_made (IsCommandFor names words) made more.1 is more.3 in
    ((old.0, form.0), (old.1, form.1), subcommand_more more.0 more.1 c (app old.0) (words form.0) old.2 form.2 (plain form.0) more.4)) adds
