use Rattle.std.proofs.Common.{None}
use Rattle.cn_app.specs.Commands.Agree.{HasAgreeReport}
use Rattle.cn_app.specs.Runs.{agree_of, decisions_in_lines}
use Rattle.cn_io.specs.declared.arguments.list_text.ListText.TheVariants.{Word}
use Rattle.cn_app.proofs.RunLemmas.{agree_is, of_certificate, of_table, written}
use Rattle.cn_app.proofs.runs.run_agree.Goals as goal

pub returns : goal.returns
returns g c =
    let t = of_table g.R.Read.remaining c.new-table.result c.agree-ended.new.table c.args.table c.new-table.ensures.reader c.agree-ended.ensures.read.table in
    let d = of_certificate g.C.Read.remaining c.new-certificate.result c.agree-ended.new.certificate c.args.certificate c.new-certificate.ensures.reader c.agree-ended.ensures.read.certificate in
    let xs = Word c.args.inputs in
    let ps = Word c.args.schedule in
    record {
      agreed = (
        t.0,
        t.1,
        (
          d.0,
          d.1,
          written (λ _. None) g.W.Write.contents (HasAgreeReport c.agree-ended.new.table c.agree-ended.new.certificate xs ps decisions_in_lines)
              (agree_of t.0 d.0 xs ps) c.kept-output.result c.agree-ended.new.output
              c.kept-output.ensures (agree_is c.agree-ended.new.table c.agree-ended.new.certificate t.0 d.0 t.2 d.2 xs ps) c.args.writer.now c.hand_over.new.writer
              c.agree-ended.result c.hand_over.result c.agree-ended.ensures.agreed c.hand_over.ensures,
        ),
      );
    }
