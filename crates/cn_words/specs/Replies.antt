-- What the words of a whole command line give.
use Rattle.std.specs.Prelude.{◌≡◌, ◌⊎◌, List, [], MatchOption}
use Rattle.clap.specs.Faults.{fault_of}
use Rattle.clap.specs.Kinds.{IsAmong}
use Rattle.clap.specs.Simple.{App, subcommand_of}
use Rattle.clap.specs.Values.{kind_of}
use Rattle.clap.specs.Walk.{Text}
use Rattle.clap.specs.declared.error.Error.{Error}
use Rattle.clap.specs.declared.error.kind.ErrorKind.{ErrorKind}
use Rattle.clap.specs.declared.error.kind.ErrorKind.TheVariants.{DisplayHelp, DisplayVersion}
use Rattle.clap.specs.declared.error.kind.ErrorKind.TheVariants.{OutOfMemory}
use Rattle.cn_words.specs.CommandLine.{Forms, TakesForms, commands, program_with}
use Rattle.cn_words.specs.GivenCommands.{IsInvocation}
use Rattle.cn_words.specs.declared.commands.CommandFault.TheVariants as fault
use Rattle.cn_words.specs.declared.commands.Invocation.{Invocation}
use Rattle.cn_words.specs.declared.replies.Reply.{Reply}
use Rattle.cn_words.specs.declared.replies.Reply.TheVariants as reply

-- the whole program, by the value parsers of the forms
abbrev pub program : Forms → App
program forms = program_with (commands forms)

-- the words have this command: its name, its arguments and its table
abbrev pub HasCommand : App → List Text → Invocation → Type 0
HasCommand app words invocation =
    MatchOption (subcommand_of app words) ⊥ (λ met. IsInvocation met.0 met.1 invocation)

-- clap accepts the words, and they have this command
abbrev pub GivesCommand : List Text → Invocation → Type 0
GivesCommand words invocation = (forms : Forms) × TakesForms forms
    × (fault_of (program forms) words ≡ []) × HasCommand (program forms) words invocation

abbrev pub IsHelp : ErrorKind → Type 0
IsHelp kind = (kind ≡ DisplayHelp) ⊎ (kind ≡ DisplayVersion)

-- the reply to an error, if there is memory for it
abbrev pub IsReplyOf : Error → Reply → Type 0
IsReplyOf e (reply.Help text) = IsHelp (kind_of e)
IsReplyOf e (reply.Refusal text) = ¬ (IsHelp (kind_of e)) × ¬ (kind_of e ≡ OutOfMemory)
IsReplyOf e (reply.Fault why) = why ≡ fault.OutOfMemory

-- the help or the version if the words ask for it, and a refusal if they have another fault: words
-- that clap refuses get one of the two, memory aside
abbrev pub GivesReply : List Text → Reply → Type 0
GivesReply words (reply.Help text) = (forms : Forms) × TakesForms forms
    × ((kind : ErrorKind) × IsAmong kind (fault_of (program forms) words) × IsHelp kind)
GivesReply words (reply.Refusal text) = (forms : Forms) × TakesForms forms
    × ((kind : ErrorKind) × IsAmong kind (fault_of (program forms) words) × ¬ (IsHelp kind))
GivesReply words (reply.Fault fault.OutOfMemory) = Unit {0}
GivesReply words (reply.Fault fault.Words) = (forms : Forms) × TakesForms forms
    × ((invocation : Invocation) → ¬ (HasCommand (program forms) words invocation))
