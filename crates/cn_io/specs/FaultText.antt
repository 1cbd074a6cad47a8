-- The text of each fault, as standard error has it behind `cnum: `, and its exit status.
use Rattle.std.specs.Prelude.{ℕ, List, codes, ◌++◌, [], Bool, true, false}
use Rattle.cn_table.specs.FaultText.{table_fault_text}
use Rattle.cn_table.specs.declared.fault.TableFault.TheVariants as table
use Rattle.cn_search.specs.FaultText.{find_fault_text}
use Rattle.cn_search.specs.declared.fault.FindFault.TheVariants as find
use Rattle.cn_cert.specs.FaultText.{cert_fault_text}
use Rattle.cn_cert.specs.declared.fault.CertFault.TheVariants as cert
use Rattle.cn_check.specs.FaultText.{check_fault_text}
use Rattle.cn_stock_cert.specs.FaultText.{stock_cert_fault_text}
use Rattle.cn_stock_cert.specs.declared.fault.StockCertFault.TheVariants as stock_cert
use Rattle.cn_stock_check.specs.FaultText.{stock_check_fault_text}
use Rattle.cn_stock_check.specs.declared.fault.StockCheckFault.TheVariants as stock_check
use Rattle.cn_unread_cert.specs.FaultText.{unread_cert_fault_text}
use Rattle.cn_unread_cert.specs.declared.fault.UnreadCertFault.TheVariants as unread_cert
use Rattle.cn_unread_check.specs.FaultText.{unread_fault_text}
use Rattle.cn_unread_check.specs.declared.fault.UnreadCheckFault.TheVariants as unread_check
use Rattle.cn_tree_cert.specs.FaultText.{tree_cert_fault_text}
use Rattle.cn_tree_cert.specs.declared.fault.TreeCertFault.TheVariants as tree_cert
use Rattle.cn_tree_check.specs.FaultText.{tree_fault_text}
use Rattle.cn_tree_check.specs.declared.fault.TreeCheckFault.TheVariants as tree_check
use Rattle.cn_agree.specs.FaultText.{schedule_fault_text}
use Rattle.cn_agree.specs.declared.fault.ScheduleFault.TheVariants as schedule
use Rattle.cn_log.specs.FaultText.{replay_fault_text}
use Rattle.cn_log.specs.declared.fault.ReplayFault.TheVariants as replay
use Rattle.cn_io.specs.declared.fault.Source.{Source}
use Rattle.cn_io.specs.declared.fault.Source.TheVariants as source
use Rattle.cn_io.specs.declared.fault.Argument.{Argument}
use Rattle.cn_io.specs.declared.fault.Argument.TheVariants as argument
use Rattle.cn_io.specs.declared.fault.AppFault.{AppFault}
use Rattle.cn_io.specs.declared.fault.AppFault.TheVariants as fault
use Rattle.cn_service.specs.declared.serving.ServeFault.{ServeFault}
use Rattle.cn_service.specs.declared.serving.ServeFault.TheVariants as serving

abbrev pub argument_text : Argument → List ℕ
argument_text argument.Inputs = codes "INPUTS"
argument_text argument.Schedule = codes "SCHEDULE"
argument_text argument.Start = codes "START"
argument_text argument.Capacity = codes "CAPACITY"
argument_text argument.Events = codes "EVENTS"
argument_text argument.Calls = codes "CALLS"
argument_text argument.Processes = codes "PROCESSES"
argument_text argument.Prefix = codes "PREFIX"

abbrev pub source_text : Source → List ℕ
source_text source.Table = codes "table"
source_text source.Certificate = codes "certificate"
source_text source.Object = codes "object"
source_text (source.Argument a) = argument_text a

-- the same fault; want of memory in any layer becomes one fault
abbrev pub plain_of : AppFault → AppFault
plain_of (fault.Table table.OutOfMemory) = fault.OutOfMemory
plain_of (fault.Object table.OutOfMemory) = fault.OutOfMemory
plain_of (fault.Certificate cert.OutOfMemory) = fault.OutOfMemory
plain_of (fault.StockCertificate stock_cert.OutOfMemory) = fault.OutOfMemory
plain_of (fault.StockCheck stock_check.OutOfMemory) = fault.OutOfMemory
plain_of (fault.UnreadCertificate unread_cert.OutOfMemory) = fault.OutOfMemory
plain_of (fault.UnreadCheck unread_check.OutOfMemory) = fault.OutOfMemory
plain_of (fault.TreeCertificate tree_cert.OutOfMemory) = fault.OutOfMemory
plain_of (fault.TreeCheck tree_check.OutOfMemory) = fault.OutOfMemory
plain_of (fault.Find find.OutOfMemory) = fault.OutOfMemory
plain_of (fault.Schedule schedule.OutOfMemory) = fault.OutOfMemory
plain_of (fault.Replay replay.OutOfMemory) = fault.OutOfMemory
plain_of f = f

-- the words before the text of the carried fault
abbrev pub head_of : AppFault → List ℕ
head_of fault.Words = codes "words refused"
head_of (fault.Argument a) = codes "argument: "
head_of (fault.Table f) = codes "table: "
head_of (fault.Object f) = codes "object: "
head_of (fault.Certificate f) = codes "certificate: "
head_of (fault.StockCertificate f) = codes "certificate: "
head_of (fault.UnreadCertificate f) = codes "certificate: "
head_of (fault.TreeCertificate f) = codes "certificate: "
head_of (fault.TooLong s) = source_text s
head_of (fault.Check f) = codes "check: "
head_of (fault.StockCheck f) = codes "check: "
head_of (fault.UnreadCheck f) = codes "check: "
head_of (fault.TreeCheck f) = codes "check: "
head_of fault.NoWitness = codes "certificate: no witness"
head_of fault.NoRecordingWitness = codes "table: no recording witness"
head_of fault.NoPlanTree = codes "table: no plan tree"
head_of (fault.Find f) = codes "find: "
head_of (fault.Schedule f) = codes "schedule: "
head_of (fault.Replay f) = codes "replay: "
head_of (fault.Read s) = codes "cannot read "
head_of fault.Write = codes "cannot write"
head_of fault.Thread = codes "cannot start a thread"
head_of fault.OutOfMemory = codes "out of memory"

-- the text of the carried fault
abbrev pub carried_text : AppFault → List ℕ
carried_text (fault.Table f) = table_fault_text f
carried_text (fault.Object f) = table_fault_text f
carried_text (fault.Certificate f) = cert_fault_text f
carried_text (fault.StockCertificate f) = stock_cert_fault_text f
carried_text (fault.UnreadCertificate f) = unread_cert_fault_text f
carried_text (fault.TreeCertificate f) = tree_cert_fault_text f
carried_text (fault.Check f) = check_fault_text f
carried_text (fault.StockCheck f) = stock_check_fault_text f
carried_text (fault.UnreadCheck f) = unread_fault_text f
carried_text (fault.TreeCheck f) = tree_fault_text f
carried_text (fault.Find f) = find_fault_text f
carried_text (fault.Schedule f) = schedule_fault_text f
carried_text (fault.Replay f) = replay_fault_text f
carried_text f = []

-- the words behind it
abbrev pub tail_of : AppFault → List ℕ
tail_of (fault.Argument a) = argument_text a
tail_of (fault.TooLong s) = codes ": too long"
tail_of (fault.Read s) = source_text s
tail_of f = []

-- the whole text; want of memory reads the same in every layer
abbrev pub app_fault_text : AppFault → List ℕ
app_fault_text f = head_of (plain_of f) ++ carried_text (plain_of f) ++ tail_of f

-- the status of a plain fault
abbrev pub plain_status : AppFault → ℕ
plain_status (fault.Check f) = 1
plain_status (fault.StockCheck f) = 1
plain_status (fault.UnreadCheck f) = 1
plain_status (fault.TreeCheck f) = 1
plain_status fault.NoWitness = 1
plain_status fault.NoRecordingWitness = 1
plain_status fault.NoPlanTree = 1
plain_status (fault.Table f) = 2
plain_status (fault.Object f) = 2
plain_status (fault.Certificate f) = 2
plain_status (fault.StockCertificate f) = 2
plain_status (fault.UnreadCertificate f) = 2
plain_status (fault.TreeCertificate f) = 2
plain_status (fault.TooLong s) = 2
plain_status (fault.Argument a) = 3
plain_status (fault.Find f) = 3
plain_status fault.Words = 3
plain_status (fault.Schedule f) = 3
plain_status (fault.Replay f) = 3
plain_status (fault.Read s) = 4
plain_status fault.Write = 4
plain_status fault.Thread = 4
plain_status fault.OutOfMemory = 5

abbrev pub status_of : AppFault → ℕ
status_of f = plain_status (plain_of f)

-- the fault of the command for a fault of serving
abbrev pub of_serving : ServeFault → AppFault
of_serving serving.Thread = fault.Thread
of_serving serving.OutOfMemory = fault.OutOfMemory

-- every table would have a fault of the limit or of the writer
abbrev pub is_of_every_table : AppFault → Bool
is_of_every_table (fault.Find f) = true
is_of_every_table fault.Write = true
is_of_every_table f = false
