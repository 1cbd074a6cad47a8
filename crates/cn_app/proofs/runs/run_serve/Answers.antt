use Rattle.std.proofs.Common.{None, ap}
use Rattle.cn_form.specs.declared.answer_form.AnswerForm.TheVariants as answer
use Rattle.cn_app.specs.Commands.Serve.{HasServeReport}
use Rattle.cn_app.specs.Runs.{serve_of}
use Rattle.cn_service.specs.Workers.{EachHasOneGate}
use Rattle.cn_io.specs.declared.arguments.list_text.ListText.TheVariants.{Word}
use Rattle.cn_app.proofs.RunLemmas.{of_certificate, of_object, of_table, serve_is, written}
use Rattle.cn_app.proofs.runs.run_serve.Goals as goal

pub returns : goal.returns
returns g c =
    let read = c.serve-ended.ensures.read in
    let gates = EachHasOneGate g.G.Gate.asks g.G.Gate.says (λ p x. goal.F-post g c.args.make_gate p x) in
    let t = of_table g.R.Read.remaining c.new-table.result c.serve-ended.new.given.table c.args.table c.new-table.ensures.reader read.table in
    let d = of_certificate g.C.Read.remaining c.new-certificate.result c.serve-ended.new.given.certificate c.args.certificate c.new-certificate.ensures.reader read.certificate in
    let o = of_object g.O.Read.remaining c.new-object.result c.serve-ended.new.given.object c.args.object c.new-object.ensures.reader read.object in
    let calls = Word c.args.calls in
    record {
      served = (
        t.0,
        t.1,
        (
          d.0,
          d.1,
          (
            o.0,
            o.1,
            written (λ _. None) g.W.Write.contents (HasServeReport gates c.serve-ended.new.given calls answer.Text)
                (serve_of gates t.0 d.0 o.0 c.args.start.now c.args.capacity.now calls) c.kept-output.result c.serve-ended.new.output c.kept-output.ensures
                (serve_is c.serve-ended.new.given t.0 d.0 o.0 t.2 d.2 o.2 c.args.start.now c.args.capacity.now (ap (λ word. word.now) read.start) (ap (λ word. word.now) read.capacity) gates calls)
                c.args.writer.now c.hand_over.new.writer c.serve-ended.result c.hand_over.result c.serve-ended.ensures.served c.hand_over.ensures,
          ),
        ),
      );
    }
