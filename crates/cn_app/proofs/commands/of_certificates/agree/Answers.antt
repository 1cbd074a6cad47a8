use Rattle.std.proofs.Common.{inl, inr, refl}
use Rattle.std.proofs.lemmas.Result.{err_from_is_err_and}
use Rattle.cn_app.specs.Commands.Agree.{HasAgreeReport}
use Rattle.cn_app.proofs.CommandLemmas.Lists.{agreed_as}
use Rattle.cn_app.proofs.CommandLemmas.Reports.{reported, silent}
use Rattle.cn_app.proofs.commands.of_certificates.agree.Goals as goal

pub returns-in_err-checked-clause-agreed : goal.returns-in_err-checked-clause-agreed
returns-in_err-checked-clause-agreed g c =
    let p = err_from_is_err_and c.from_residual-in_err-checked.result c.from_residual-in_err-checked.ensures.1 in
    rw (p.1, p.2) (inl (
      c.in_err-checked.field-0.0,
      inr (c.in_ok-lists.lists, c.in_ok-lists.ensures, inl (c.in_err-checked.field-0.0, c.in_err-checked.ensures.checked, refl)),
      refl,
      silent c.args.output.now,
    ))

pub returns-clause-agreed : goal.returns-clause-agreed
returns-clause-agreed g c =
    reported g.W.Write.contents (HasAgreeReport c.read_checked.new.table c.read_checked.new.certificate c.args.inputs.now c.args.schedule.now c.args.asked) c.args.output.now
    c.report.new.self c.agree_report.result c.report.result
    (inr (
      c.in_ok-lists.lists,
      c.in_ok-lists.ensures,
      inr (
        c.in_ok-checked.checked,
        c.in_ok-checked.ensures.checked,
        agreed_as c.in_ok-checked.checked _ _ _ _ c.args.asked c.agree_report.result c.deref.ensures.value c.deref-2.ensures.value c.agree_report.ensures,
      ),
    )) c.report.ensures
