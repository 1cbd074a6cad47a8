use Rattle.std.proofs.Common.{◌≡◌, take, drop}
use Rattle.cn_io.specs.Streams.Writing.{IsWritable}
use Rattle.cn_app.proofs.CommandLemmas.SeveralTables.{Leads}
use Rattle.cn_app.proofs.commands.of_several_tables.classify_tables.Given as goal

abbrev pub invariant-loop-i : goal.invariant-loop-i
invariant-loop-i g l = record {
  leads : Leads g.R.Read.remaining g.W.Write.contents g.F.Tell.tells g.F.Tell.notes l.asked l.fn.tables l.fn.output l.fn.faults l.first (take l.i l.tables) (drop l.i l.tables) l.output l.faults;
  rest : drop l.i l.tables ≡ drop l.i l.fn.tables;
  writable : IsWritable l.output;
}
