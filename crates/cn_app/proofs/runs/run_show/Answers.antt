use Rattle.std.proofs.Common.{None}
use Rattle.cn_app.specs.declared.plan_style.PlanStyle.TheVariants as style
use Rattle.cn_app.specs.Commands.Show.{HasShowReport}
use Rattle.cn_app.specs.Runs.{show_of}
use Rattle.cn_app.proofs.RunLemmas.{of_certificate, of_table, show_is, written}
use Rattle.cn_app.proofs.runs.run_show.Goals as goal

pub returns : goal.returns
returns g c =
    let t = of_table g.R.Read.remaining c.new-table.result c.show-ended.new.table c.args.table c.new-table.ensures.reader c.show-ended.ensures.read.table in
    let d = of_certificate g.C.Read.remaining c.new-certificate.result c.show-ended.new.certificate c.args.certificate c.new-certificate.ensures.reader c.show-ended.ensures.read.certificate in
    record {
      shown = (
        t.0,
        t.1,
        (
          d.0,
          d.1,
          written (λ _. None) g.W.Write.contents (HasShowReport c.show-ended.new.table c.show-ended.new.certificate style.Text) (show_of t.0 d.0) c.kept-output.result c.show-ended.new.output
              c.kept-output.ensures (show_is c.show-ended.new.table c.show-ended.new.certificate t.0 d.0 t.2 d.2) c.args.writer.now c.hand_over.new.writer c.show-ended.result
              c.hand_over.result c.show-ended.ensures.shown c.hand_over.ensures,
        ),
      );
    }
