use Rattle.std.proofs.Common.{inl, inr, refl, ap, ◌∙◌}
use Rattle.std.proofs.lemmas.Result.{err_from_is_err_and}
use Rattle.cn_io.specs.Arguments.Events.{capacity_of}
use Rattle.cn_app.specs.Commands.Replay.{HasReplayReport}
use Rattle.cn_app.proofs.CommandLemmas.Reports.{reported, silent}
use Rattle.cn_app.proofs.commands.of_logs.replay.Goals as goal

pub returns-in_err-list-clause-served : goal.returns-in_err-list-clause-served
returns-in_err-list-clause-served g c =
    let p = err_from_is_err_and c.from_residual-in_err-list.result c.from_residual-in_err-list.ensures.1 in
    rw (p.1, p.2) (inl (c.in_err-list.field-0.0, inr (c.in_ok-slots.slots, c.in_ok-slots.ensures.capacity, inl (c.in_err-list.field-0.0, c.in_err-list.ensures, refl)), refl, silent c.args.output.now))

pub returns-in_err-opening-clause-served : goal.returns-in_err-opening-clause-served
returns-in_err-opening-clause-served g c =
    let p = err_from_is_err_and c.from_residual-in_err-opening.result c.from_residual-in_err-opening.ensures.1 in
    rw (p.1, p.2) (inl (
      c.in_err-opening.field-0.0,
      inr (
        c.in_ok-slots.slots,
        ap (λ word. capacity_of word.now) c.read_opening.ensures.read.capacity ∙ c.in_ok-slots.ensures.capacity,
        inr (c.in_ok-list.list, c.in_ok-list.ensures, inl (c.in_err-opening.field-0.0, c.in_err-opening.ensures.opening, refl)),
      ),
      refl,
      silent c.args.output.now,
    ))

pub returns-clause-served : goal.returns-clause-served
returns-clause-served g c =
    reported g.W.Write.contents (HasReplayReport c.read_opening.new.given c.args.events.now c.args.form) c.args.output.now c.report.new.self c.event_report.result c.report.result
    (inr (
      c.in_ok-slots.slots,
      ap (λ word. capacity_of word.now) c.read_opening.ensures.read.capacity ∙ c.in_ok-slots.ensures.capacity,
      inr (c.in_ok-list.list, c.in_ok-list.ensures, inr (c.in_ok-opening.opening, c.in_ok-opening.ensures.opening, c.event_report.ensures)),
    )) c.report.ensures
