use Rattle.std.proofs.Common.{◌∙◌, List, ap, inl, subst}
use Rattle.std.proofs.lemmas.Result.{err_from_is_err_and}
use Rattle.cn_table.specs.TypeTable.{TypeTable}
use Rattle.cn_log.specs.declared.event.Event.{Event}
use Rattle.cn_io.specs.Arguments.Events.{events_in, words_of}
use Rattle.cn_app.specs.Commands.Replay.{IsReplayReport}
use Rattle.cn_app.proofs.commands.of_logs.event_report.Goals as goal

pub returns-in_err-events : goal.returns-in_err-events
returns-in_err-events c =
    let p = err_from_is_err_and c.from_residual.result c.from_residual.ensures.1 in
    rw p.1 (inl p.2)

pub returns : goal.returns
returns c =
    let same = c.deref.ensures.value ∙ c.in_ok-events.ensures ∙ ap (λ (t : TypeTable). events_in t (words_of c.args.list)) c.object.ensures in
    subst (λ (events : List Event). IsReplayReport c.args.form c.args.opening events c.replay_report.result) same c.replay_report.ensures
