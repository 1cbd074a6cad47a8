use Rattle.std.proofs.Common.{None}
use Rattle.cn_form.specs.declared.answer_form.AnswerForm.TheVariants as answer
use Rattle.cn_app.specs.Commands.Check.{HasCheckReport}
use Rattle.cn_app.specs.Runs.{check_of}
use Rattle.cn_app.proofs.RunLemmas.{check_is, of_certificate, of_table, written}
use Rattle.cn_app.proofs.runs.run_check.Goals as goal

pub returns : goal.returns
returns g c =
    let t = of_table g.R.Read.remaining c.new-table.result c.check-ended.new.table c.args.table c.new-table.ensures.reader c.check-ended.ensures.read.table in
    let d = of_certificate g.C.Read.remaining c.new-certificate.result c.check-ended.new.certificate c.args.certificate c.new-certificate.ensures.reader c.check-ended.ensures.read.certificate in
    record {
      checked = (
        t.0,
        t.1,
        (
          d.0,
          d.1,
          written (λ _. None) g.W.Write.contents (HasCheckReport c.check-ended.new.table c.check-ended.new.certificate answer.Text) (check_of t.0 d.0) c.kept-output.result c.check-ended.new.output
              c.kept-output.ensures (check_is c.check-ended.new.table c.check-ended.new.certificate t.0 d.0 t.2 d.2) c.args.writer.now c.hand_over.new.writer c.check-ended.result
              c.hand_over.result c.check-ended.ensures.checked c.hand_over.ensures,
        ),
      );
    }
