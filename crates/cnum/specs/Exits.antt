-- The exit statuses of the program.
use Rattle.std.specs.Prelude.{ℕ, Option, Some, None, Result, Ok, Err}
use Rattle.cn_io.specs.FaultText.{status_of}
use Rattle.cn_io.specs.declared.fault.AppFault.{AppFault}
use Rattle.cn_io.specs.declared.report.Outcome.{Outcome}
use Rattle.cn_io.specs.declared.report.Outcome.TheVariants.{Cut, Refused, Whole}

-- after a command of one table: 1 if some call has no reply; the status of the fault if a text is
-- refused, or if the command wrote nothing
abbrev pub command_status : Result Outcome AppFault → ℕ
command_status (Ok Whole) = 0
command_status (Ok Cut) = 1
command_status (Ok (Refused fault)) = status_of fault
command_status (Err e) = status_of e

-- after several tables: the status of the first fault
abbrev pub classify_status : Result (Option AppFault) AppFault → ℕ
classify_status (Ok None) = 0
classify_status (Ok (Some e)) = status_of e
classify_status (Err e) = status_of e
