use Rattle.std.proofs.Common.{None, ap}
use Rattle.cn_form.specs.declared.answer_form.AnswerForm.TheVariants as answer
use Rattle.cn_app.specs.Commands.Replay.{HasReplayReport}
use Rattle.cn_app.specs.Runs.{replay_of}
use Rattle.cn_io.specs.declared.arguments.list_text.ListText.TheVariants.{Word}
use Rattle.cn_app.proofs.RunLemmas.{of_certificate, of_object, of_table, replay_is, written}
use Rattle.cn_app.proofs.runs.run_replay.Goals as goal

pub returns : goal.returns
returns g c =
    let read = c.replay-ended.ensures.read in
    let t = of_table g.R.Read.remaining c.new-table.result c.replay-ended.new.given.table c.args.table c.new-table.ensures.reader read.table in
    let d = of_certificate g.C.Read.remaining c.new-certificate.result c.replay-ended.new.given.certificate c.args.certificate c.new-certificate.ensures.reader read.certificate in
    let o = of_object g.O.Read.remaining c.new-object.result c.replay-ended.new.given.object c.args.object c.new-object.ensures.reader read.object in
    let events = Word c.args.events in
    record {
      served = (
        t.0,
        t.1,
        (
          d.0,
          d.1,
          (
            o.0,
            o.1,
            written (λ _. None) g.W.Write.contents (HasReplayReport c.replay-ended.new.given events answer.Text)
                (replay_of t.0 d.0 o.0 c.args.start.now c.args.capacity.now events) c.kept-output.result c.replay-ended.new.output c.kept-output.ensures
                (replay_is c.replay-ended.new.given t.0 d.0 o.0 t.2 d.2 o.2 c.args.start.now c.args.capacity.now (ap (λ word. word.now) read.start) (ap (λ word. word.now) read.capacity) events)
                c.args.writer.now c.hand_over.new.writer c.replay-ended.result c.hand_over.result c.replay-ended.ensures.served c.hand_over.ensures,
          ),
        ),
      );
    }
