use Rattle.std.proofs.Common.{Some, None}
use Rattle.cn_app.specs.Commands.Find.{HasFindReport}
use Rattle.cn_app.specs.Runs.{find_of}
use Rattle.cn_app.proofs.RunLemmas.{find_is, of_table, written}
use Rattle.cn_app.proofs.runs.run_find.Goals as goal

pub returns : goal.returns
returns g c =
    let t = of_table g.R.Read.remaining c.new-table.result c.find-ended.new.table c.args.table c.new-table.ensures.reader c.find-ended.ensures.read in
    record {
      found = (
        t.0,
        t.1,
        written (λ _. None) g.W.Write.contents (HasFindReport c.find-ended.new.table (Some c.args.limit)) (find_of t.0 c.args.limit) c.kept-output.result c.find-ended.new.output
            c.kept-output.ensures (find_is c.find-ended.new.table t.0 c.args.limit t.2) c.args.writer.now c.hand_over.new.writer c.find-ended.result c.hand_over.result
            c.find-ended.ensures.found c.hand_over.ensures,
      );
    }
