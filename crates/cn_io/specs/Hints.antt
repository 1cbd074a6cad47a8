-- What a hint says of each fault, by what is known of the texts.
use Rattle.std.specs.Prelude.{◌≡◌, ◌++◌, ℕ, List, Ok, Option, Some, None, codes, length, option_map}
use Rattle.std.specs.Prelude.{Bool, false, string_bytes, true}
use Rattle.std.specs.Fmt.{decimal}
use Rattle.cn_table.specs.Faults as tables
use Rattle.cn_table.specs.TypeTable.{TypeTable}
use Rattle.cn_table.specs.declared.fault.TableFault.{TableFault}
use Rattle.cn_table.specs.declared.fault.TableFault.TheVariants as table
use Rattle.cn_search.specs.GreatestLimit.{IsGreatestLimit}
use Rattle.cn_search.specs.declared.fault.FindFault.{FindFault}
use Rattle.cn_search.specs.declared.fault.FindFault.TheVariants as find
use Rattle.cn_cert.specs.Certificate.{Certificate}
use Rattle.cn_cert.specs.Reading as certificates
use Rattle.cn_cert.specs.declared.fault.CertFault.{CertFault}
use Rattle.cn_cert.specs.declared.fault.CertFault.TheVariants as cert
use Rattle.cn_check.specs.declared.fault.CheckFault.{CheckFault}
use Rattle.cn_check.specs.declared.fault.CheckFault.TheVariants as check
use Rattle.cn_stock_cert.specs.declared.fault.StockCertFault.{StockCertFault}
use Rattle.cn_stock_cert.specs.declared.fault.StockCertFault.TheVariants as stock_cert
use Rattle.cn_stock_check.specs.declared.fault.StockCheckFault.{StockCheckFault}
use Rattle.cn_stock_check.specs.declared.fault.StockCheckFault.TheVariants as stock_check
use Rattle.cn_unread_cert.specs.declared.fault.UnreadCertFault.{UnreadCertFault}
use Rattle.cn_unread_cert.specs.declared.fault.UnreadCertFault.TheVariants as unread_cert
use Rattle.cn_unread_check.specs.declared.fault.UnreadCheckFault.{UnreadCheckFault}
use Rattle.cn_unread_check.specs.declared.fault.UnreadCheckFault.TheVariants as unread_check
use Rattle.cn_tree_cert.specs.declared.fault.TreeCertFault.{TreeCertFault}
use Rattle.cn_tree_cert.specs.declared.fault.TreeCertFault.TheVariants as tree_cert
use Rattle.cn_tree_check.specs.declared.fault.TreeCheckFault.{TreeCheckFault}
use Rattle.cn_tree_check.specs.declared.fault.TreeCheckFault.TheVariants as tree_check
use Rattle.cn_agree.specs.declared.fault.ScheduleFault.{ScheduleFault}
use Rattle.cn_agree.specs.declared.fault.ScheduleFault.TheVariants as schedule
use Rattle.cn_log.specs.declared.fault.ReplayFault.{ReplayFault}
use Rattle.cn_log.specs.declared.fault.ReplayFault.TheVariants as replay
use Rattle.cn_io.specs.declared.fault.Source.{Source}
use Rattle.cn_io.specs.declared.fault.Source.TheVariants as source
use Rattle.cn_io.specs.declared.fault.Argument.{Argument}
use Rattle.cn_io.specs.declared.fault.Argument.TheVariants as argument
use Rattle.cn_io.specs.declared.fault.AppFault.{AppFault}
use Rattle.cn_io.specs.declared.fault.AppFault.TheVariants as fault
use Rattle.cn_io.specs.declared.hints.Hint.{Hint}
use Rattle.cn_io.specs.declared.hints.Hint.TheVariants as hint
use Rattle.cn_io.specs.declared.known.Known.{Known}

-- the bytes spell a table, and this is the greatest limit that is not refused for it
abbrev pub IsGreatestLimitOf : List ℕ → ℕ → Type 0
IsGreatestLimitOf bytes limit = (t : TypeTable) × (tables.reading bytes ≡ Ok t)
    × IsGreatestLimit (length t.states) (length t.operations) limit

-- the bytes spell a certificate, and this is its number
abbrev pub IsNumberOf : List ℕ → ℕ → Type 0
IsNumberOf bytes number =
    (c : Certificate) × (certificates.reading bytes ≡ Ok c) × (c.number ≡ Some number)

-- the command that tells the mistakes of the table in this file, or of standard input
abbrev pub lint_text : Option (List ℕ) → List ℕ
lint_text (Some file) = codes "cnum lint " ++ file ++ codes " tells each mistake and its place"
lint_text None = codes "cnum lint tells each mistake of the table and its place"

-- the greatest limit that is not refused
abbrev pub greatest_limit_text : ℕ → List ℕ
greatest_limit_text limit = codes "the greatest limit for this table is " ++ decimal limit
    ++ codes "; find --stocks takes every limit"

-- how many processes there are, for INPUTS and SCHEDULE
abbrev pub processes_text : ℕ → List ℕ
processes_text count = codes "the protocol has " ++ decimal count
    ++ codes " processes: INPUTS has a number for each, and SCHEDULE names them from 0 on"

abbrev pub hint_text : Hint → List ℕ
hint_text (hint.Says text) = text.now
hint_text (hint.Lint file) = lint_text (option_map (λ s. s.now) file)
hint_text (hint.NotToml reason) = reason.now
hint_text (hint.GreatestLimit limit) = greatest_limit_text limit
hint_text (hint.Processes count) = processes_text count

-- what an argument is expected to be
abbrev pub argument_hint : Argument → List ℕ
argument_hint argument.Inputs = codes "INPUTS is a list of numbers with commas, such as 10,20"
argument_hint argument.Schedule =
    codes "SCHEDULE is a list of processes with commas, such as 1,0,0: who takes the next step"
argument_hint argument.Start = codes "START is the name of a state of the object"
argument_hint argument.Capacity = codes "CAPACITY is a number from 1 to 1024"
argument_hint argument.Events =
    codes "EVENTS is a list with commas, such as i0:inc,s0: process 0 calls inc and takes a step"
argument_hint argument.Calls =
    codes "CALLS has operations of the object for each process, such as inc,inc/none for two"
argument_hint argument.Processes = codes "the number of processes is from 2 to 8"
argument_hint argument.Prefix =
    codes "a prefix is 1 to 32 letters, digits or _, the first no digit, and no word of C or C++"

-- how long a text may be
abbrev pub size_hint : Source → List ℕ
size_hint source.Table = codes "a table has at most 65536 bytes"
size_hint source.Certificate = codes "a certificate has at most 16777216 bytes"
size_hint source.Object = codes "a table has at most 65536 bytes"
size_hint (source.Argument a) = codes "a file with a list has at most 1048576 bytes"

-- the command that tells the mistakes of a table, unless it has told them
abbrev pub lint_hint : Option (List ℕ) → Bool → Option (List ℕ)
lint_hint file true = None
lint_hint file false = Some (lint_text file)

-- the reason, if the text is no TOML and the reason is known; else the command that tells it
abbrev pub table_hint : TableFault → Option (List ℕ) → Bool → Option (List ℕ) → Option (List ℕ)
table_hint table.OutOfMemory file linted reason = None
table_hint table.NotToml file linted (Some reason) = Some reason
table_hint f file linted reason = lint_hint file linted

abbrev pub certificate_hint : CertFault → Option (List ℕ)
certificate_hint cert.NotJson = Some (codes "a certificate is one JSON object, as find writes it")
certificate_hint cert.WrongShape = Some (codes
    "a certificate has these keys alone: collisions, limit, number, type, version, witness; "
    ++ codes "check --stocks is for one of find --stocks, "
    ++ codes "check --without-read for one of find --without-read, "
    ++ codes "check --shortest for one of find --shortest")
certificate_hint cert.Version = Some (codes "the version of a certificate is 1 or 2")
certificate_hint cert.Range = Some (codes
    "a number or a list is too great for a certificate, or the type has no right name")
certificate_hint cert.OutOfMemory = None

-- the same of a certificate by stocks
abbrev pub stock_certificate_hint : StockCertFault → Option (List ℕ)
stock_certificate_hint stock_cert.NotJson =
    Some (codes "a certificate is one JSON object, as find --stocks writes it")
stock_certificate_hint stock_cert.WrongShape =
    Some (codes "a certificate by stocks has these keys alone: "
    ++ codes "at_least, at_most, least, most, type, version")
stock_certificate_hint stock_cert.Version =
    Some (codes "the version of a certificate by stocks is 3")
stock_certificate_hint stock_cert.Range =
    Some (codes "a number is too great for a certificate, or the type has no right name")
stock_certificate_hint stock_cert.OutOfMemory = None

-- the same of a certificate of a number without reads
abbrev pub unread_certificate_hint : UnreadCertFault → Option (List ℕ)
unread_certificate_hint unread_cert.NotJson =
    Some (codes "a certificate is one JSON object, as find --without-read writes it")
unread_certificate_hint unread_cert.WrongShape =
    Some (codes "a certificate without reads has these keys alone: "
    ++ codes "at_least, at_most, least, most, type, version")
unread_certificate_hint unread_cert.Version =
    Some (codes "the version of a certificate without reads is 4")
unread_certificate_hint unread_cert.Range = Some (codes
    "a number or a list is too great for a certificate, or the type has no right name")
unread_certificate_hint unread_cert.OutOfMemory = None

-- the same of a certificate of a plan tree
abbrev pub tree_certificate_hint : TreeCertFault → Option (List ℕ)
tree_certificate_hint tree_cert.NotJson =
    Some (codes "a certificate is one JSON object, as find --shortest writes it")
tree_certificate_hint tree_cert.WrongShape =
    Some (codes "a certificate of a plan has these keys alone: "
    ++ codes "nodes, processes, steps, type, version")
tree_certificate_hint tree_cert.Version =
    Some (codes "the version of a certificate of a plan is 5")
tree_certificate_hint tree_cert.Range =
    Some (codes "a number is too great for a certificate, or the type has no right name")
tree_certificate_hint tree_cert.OutOfMemory = None

-- why the check refuses a certificate
abbrev pub check_hint : CheckFault → List ℕ
check_hint check.OtherType = codes "the certificate is for a type of another name"
check_hint check.BadNumber =
    codes "the limit is from 2 to 8, or to 6 in version 1, and the number from 2 to the limit"
check_hint check.WitnessShape =
    codes "the witness is no choice of the table for as many processes as the number"
check_hint (check.WitnessMeets process) =
    codes "this process cannot always tell which team was first"
check_hint check.Unexpected = codes "a number that is the limit has no collisions"
check_hint (check.NotNext entry) =
    codes "this entry, from 0, is not of the choice that has to be refuted next"
check_hint (check.NotACollision entry) =
    codes "this entry, from 0, has no two runs that its process cannot tell apart"
check_hint check.TooFew = codes "some choice for one process more is not refuted"

-- why the check refuses a certificate by stocks
abbrev pub stock_check_hint : StockCheckFault → Option (List ℕ)
stock_check_hint stock_check.OtherType =
    Some (codes "the certificate is for a type of another name")
stock_check_hint stock_check.BadNumber =
    Some (codes "at_least is from 1 to 16 or null, and at_most from it to 16 or null")
stock_check_hint stock_check.LeastShape = Some (codes
    "least is null for 1, a witness for another number, and lasting sets for every number")
stock_check_hint stock_check.NotAChoice =
    Some (codes "the witness is no choice of the table for as many processes as at_least")
stock_check_hint stock_check.NoWitness =
    Some (codes "in the witness some process cannot always tell which team was first")
stock_check_hint stock_check.NotLasting =
    Some (codes "the sets of states do not show that the two operations last")
stock_check_hint stock_check.MostShape =
    Some (codes "most has joins exactly if at_most is a number")
stock_check_hint (stock_check.NotAJoin place) =
    Some (codes "this join, from 0, has no two words that show one operation the same")
stock_check_hint (stock_check.NoticesItself operation) =
    Some (codes "two processes with this operation, from 0, can tell who was first")
stock_check_hint (stock_check.NotConnected state) =
    Some (codes "from this state, from 0, the joins leave two teams to some stock")
stock_check_hint stock_check.OutOfMemory = None

-- why the check refuses a certificate of a number without reads
abbrev pub unread_check_hint : UnreadCheckFault → Option (List ℕ)
unread_check_hint unread_check.OtherType =
    Some (codes "the certificate is for a type of another name")
unread_check_hint unread_check.BadNumber =
    Some (codes "at_least is from 1 to 8 or null, and at_most from it to 7 or null")
unread_check_hint unread_check.Least = Some (codes "the evidence does not show at_least")
unread_check_hint unread_check.Most = Some (codes "the evidence does not show at_most")
unread_check_hint unread_check.TooManyScenes =
    Some (codes "the further operations lead to too many scenes for the check")
unread_check_hint unread_check.OutOfMemory = None

-- why the check refuses a certificate of a plan tree
abbrev pub tree_check_hint : TreeCheckFault → Option (List ℕ)
tree_check_hint tree_check.OtherType =
    Some (codes "the certificate is for a type of another name")
tree_check_hint tree_check.NotATree =
    Some (codes "the teams are not those of a tree of 2 to 8 processes, as many as it tells")
tree_check_hint tree_check.BadMeeting = Some (codes
    "a node has no state of the table, or not an operation of it for each of its processes")
tree_check_hint (tree_check.Meets node process) =
    Some (codes "at this node, from 0, this process cannot always tell which team was first")
tree_check_hint tree_check.BadSteps = Some (codes "steps is not the most that a process takes")
tree_check_hint tree_check.OutOfMemory = None

abbrev pub find_hint : FindFault → Option ℕ → Option (List ℕ)
find_hint find.BadLimit known = Some (codes "a limit is from 2 to 8")
find_hint (find.TooManyChoices choices) (Some limit) = Some (greatest_limit_text limit)
find_hint (find.TooManyChoices choices) None = Some (codes "take a smaller limit")
find_hint find.OutOfMemory known = None

abbrev pub schedule_hint : ScheduleFault → Option ℕ → Option (List ℕ)
schedule_hint schedule.OutOfMemory known = None
schedule_hint schedule.InputCount (Some count) = Some (processes_text count)
schedule_hint schedule.InputCount None = Some (codes "INPUTS has a number for each process")
schedule_hint (schedule.NoSuchProcess place) (Some count) = Some (processes_text count)
schedule_hint (schedule.NoSuchProcess place) None =
    Some (codes "SCHEDULE names processes from 0 on")

-- for how many processes there is a plan; without reads, other protocols may do more than plan trees
abbrev pub plan_hint : Bool → List ℕ
plan_hint false = codes "classify tells for how many processes there is one"
plan_hint true =
    codes "protocols of other kinds may exist: "
    ++ codes "classify --without-read tells for how many processes"

abbrev pub replay_hint : ReplayFault → Option (List ℕ)
replay_hint (replay.NoSuchProcess place) =
    Some (codes "the event at this place, from 0, is of no process")
replay_hint (replay.NoSuchOperation place) =
    Some (codes "the object has no operation of this event, from 0")
replay_hint (replay.NotIdle place) =
    Some (codes "at this event, from 0, the process is still in a call")
replay_hint (replay.Idle place) = Some (codes "at this event, from 0, the process is in no call")
replay_hint (replay.AtEnd place) =
    Some (codes "before this event, from 0, the process has seen the log full")
replay_hint replay.OutOfMemory = None

-- what to do about a fault, if there is something to say
abbrev pub hint_of : AppFault → Known → Option (List ℕ)
hint_of fault.Words known = Some (codes "a word is no UTF-8 or missing, "
    ++ codes "two texts would both be standard input, or two words exclude each other")
hint_of (fault.Argument a) known = Some (argument_hint a)
hint_of (fault.Table f) known = table_hint f (option_map (λ s. s.now) known.table) known.is_linted
    (option_map string_bytes known.reason)
hint_of (fault.Object f) known = table_hint f (option_map (λ s. s.now) known.object) false None
hint_of (fault.Certificate f) known = certificate_hint f
hint_of (fault.StockCertificate f) known = stock_certificate_hint f
hint_of (fault.UnreadCertificate f) known = unread_certificate_hint f
hint_of (fault.TooLong s) known = Some (size_hint s)
hint_of (fault.Check f) known = Some (check_hint f)
hint_of (fault.StockCheck f) known = stock_check_hint f
hint_of (fault.UnreadCheck f) known = unread_check_hint f
hint_of (fault.TreeCertificate f) known = tree_certificate_hint f
hint_of (fault.TreeCheck f) known = tree_check_hint f
hint_of fault.NoWitness known = Some (codes "the number is null, so there is no protocol")
hint_of fault.NoRecordingWitness known =
    Some (codes "classify --recoverable tells for how many processes there is one")
hint_of fault.NoPlanTree known = Some (plan_hint known.without_read)
hint_of (fault.Find f) known = find_hint f known.greatest_limit
hint_of (fault.Schedule f) known = schedule_hint f known.processes
hint_of (fault.Replay f) known = replay_hint f
hint_of (fault.Read s) known = Some (codes "it is not there, or it may not be read")
hint_of fault.Write known = None
hint_of fault.Thread known = None
hint_of fault.OutOfMemory known = None
