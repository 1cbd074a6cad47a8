-- The answer of clap to the words of a whole command line.
use Rattle.std.proofs.Common.{◌≡◌, ◌∙◌, inl, inr, true, List, Result, Ok, Err, refl, subst, sym}
use Rattle.std.specs.Prelude.{MatchOption}
use Rattle.clap.specs.Faults.{fault_of, is_simple_and_free}
use Rattle.clap.specs.Kinds.{FailsBy, IsAmong}
use Rattle.clap.specs.Simple.{App, HasMatchesOf, app_of, is_simple, subcommand_of, subcommand_rows_of}
use Rattle.clap.specs.Values.{kind_of}
use Rattle.clap.specs.Walk.{Text}
use Rattle.clap.specs.declared.builder.command.Command.{Command as ClapCommand}
use Rattle.clap.specs.declared.error.Error.{Error}
use Rattle.clap.specs.declared.error.kind.ErrorKind.TheVariants.{OutOfMemory}
use Rattle.clap.specs.declared.parser.matches.ArgMatches.{ArgMatches}
use Rattle.cn_words.specs.CommandLine.{Forms, HasCommands, HasCommandsFor, commands}
use Rattle.cn_words.specs.GivenCommands.{IsInvocation, IsInvocationOf, RefusesCommand}
use Rattle.cn_words.specs.Replies.{GivesCommand, GivesReply, IsReplyOf, program}
use Rattle.cn_words.specs.declared.commands.CommandFault.{CommandFault}
use Rattle.cn_words.specs.declared.commands.CommandFault.TheVariants as fault
use Rattle.cn_words.specs.declared.commands.Invocation.{Invocation}
use Rattle.cn_words.specs.declared.replies.Reply.{Reply}
use Rattle.cn_words.specs.declared.replies.Reply.TheVariants as reply

-- the laws of clap about matches and faults apply to the program
program_is_simple : (forms : Forms) → is_simple (program forms) ≡ true
program_is_simple forms = refl

program_is_free : (forms : Forms) → is_simple_and_free (program forms) ≡ true
program_is_free forms = refl

-- the parsed command is that of the words
met_is : (c : ClapCommand) (m : ArgMatches) (words : List Text) (forms : Forms) → HasCommands (commands forms) c → HasMatchesOf (app_of c) words m
    → subcommand_rows_of m ≡ subcommand_of (program forms) words
met_is c m words forms is has = (subst (λ (a : App). HasMatchesOf a words m) is has (program_is_simple forms)).1

fails_by : {T : Type 0} (c : ClapCommand) (r : Result T Error) (words : List Text) (forms : Forms) → HasCommands (commands forms) c
    → (is_simple_and_free (app_of c) ≡ true → FailsBy (fault_of (app_of c) words) r) → FailsBy (fault_of (program forms) words) r
fails_by c r words forms is fails =
    subst (λ (a : App). is_simple_and_free a ≡ true → FailsBy (fault_of a words) r) is fails (program_is_free forms)

pub command_given : (c : ClapCommand) (m : ArgMatches) (words : List Text) (command : Invocation) → HasCommandsFor commands c
    → HasMatchesOf (app_of c) words m → (is_simple_and_free (app_of c) ≡ true → FailsBy {T = ArgMatches} (fault_of (app_of c) words) (Ok m))
    → IsInvocationOf m command → GivesCommand words command
command_given c m words command has matches fails is = (
  has.0,
  has.1,
  fails_by c (Ok m) words has.0 has.2 fails,
  subst (λ o. MatchOption o ⊥ (λ met. IsInvocation met.0 met.1 command)) (met_is c m words has.0 has.2 matches) is,
)

pub fault_given : (c : ClapCommand) (m : ArgMatches) (words : List Text) (why : CommandFault) → HasCommandsFor commands c
    → HasMatchesOf (app_of c) words m → RefusesCommand (IsInvocationOf m) why → GivesReply words (reply.Fault why)
fault_given c m words fault.OutOfMemory has matches refused = tt
fault_given c m words fault.Words has matches refused = (
  has.0,
  has.1,
  λ command is. refused command (subst (λ o. MatchOption o ⊥ (λ met. IsInvocation met.0 met.1 command)) (sym (met_is c m words has.0 has.2 matches)) is),
)

-- an error other than want of memory is among the faults of the words
among : (c : ClapCommand) (e : Error) (words : List Text) (forms : Forms) → FailsBy {T = ArgMatches} (fault_of (program forms) words) (Err e)
    → (kind_of e ≡ OutOfMemory → ⊥) → IsAmong (kind_of e) (fault_of (program forms) words)
among c e words forms (inl memory) enough = absurd (enough memory)
among c e words forms (inr is) enough = is

pub reply_given : (c : ClapCommand) (e : Error) (words : List Text) (told : Reply) → HasCommandsFor commands c
    → (is_simple_and_free (app_of c) ≡ true → FailsBy {T = ArgMatches} (fault_of (app_of c) words) (Err e))
    → IsReplyOf e told → GivesReply words told
reply_given c e words (reply.Help text) has fails is = (
  has.0,
  has.1,
  (
    kind_of e,
    among c e words has.0 (fails_by {T = ArgMatches} c (Err e) words has.0 has.2 fails)
        (λ memory. elim is [ inl h ↦ (let bad = sym h ∙ memory in cc) | inr h ↦ (let bad = sym h ∙ memory in cc) ]),
    is,
  ),
)
reply_given c e words (reply.Refusal text) has fails is =
    (has.0, has.1, (kind_of e, among c e words has.0 (fails_by {T = ArgMatches} c (Err e) words has.0 has.2 fails) is.1, is.0))
reply_given c e words (reply.Fault fault.OutOfMemory) has fails is = tt
reply_given c e words (reply.Fault fault.Words) has fails is = cc
