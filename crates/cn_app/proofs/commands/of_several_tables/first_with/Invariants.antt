use Rattle.std.proofs.Common.{◌≡◌, drop}
use Rattle.cn_app.specs.Commands.ClassifyEach.{names_with}
use Rattle.cn_app.proofs.commands.of_several_tables.first_with.Given as goal

abbrev pub invariant-loop-table : goal.invariant-loop-table
invariant-loop-table g l = names_with l.line l.tables ≡ names_with l.line (drop l.table-index l.tables)
