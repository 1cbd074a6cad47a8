-- What `draw` writes: a function of the table that it reads.
use Rattle.std.specs.Prelude.{◌≡◌, Result, Ok, Err, string_bytes}
use Rattle.cn_table.specs.TypeTable.{TypeTable}
use Rattle.cn_text.specs.Diagram.{diagram}
use Rattle.cn_io.specs.Steps.{Then}
use Rattle.cn_io.specs.Texts.Contents.{GivesTable}
use Rattle.cn_io.specs.declared.report.Outcome.TheVariants.{Whole}
use Rattle.cn_io.specs.declared.report.Report.{Report}
use Rattle.cn_io.specs.declared.streams.text.Text.{Text}
use Rattle.cn_io.specs.declared.fault.AppFault.{AppFault}
use Rattle.cn_io.specs.declared.fault.AppFault.TheVariants.{OutOfMemory}

-- the result of drawing a table: its picture, unless memory ran out
abbrev pub IsDrawReport : TypeTable → Result Report AppFault → Type 0
IsDrawReport t (Ok report) = (string_bytes report.text ≡ diagram t) × (report.outcome ≡ Whole)
IsDrawReport t (Err e) = e ≡ OutOfMemory

-- the result of `draw` for a text
abbrev pub HasDrawReport : {R : Type 0} → Text R → Result Report AppFault → Type 0
HasDrawReport text r = Then (GivesTable text) IsDrawReport r
