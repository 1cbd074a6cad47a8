-- The report on the verdict of the check.
use Rattle.std.proofs.Common.{inl, inr, Result, Ok, Err, refl}
use Rattle.cn_table.specs.TypeTable.{TypeTable}
use Rattle.cn_form.specs.declared.answer_form.AnswerForm.{AnswerForm}
use Rattle.cn_app.specs.Commands.Check.{HasVerdictReport, IsVerdictReport}
use Rattle.cn_app.specs.Commands.CheckStocks.{HasStockVerdictReport, IsStockVerdictReport}
use Rattle.cn_app.specs.Commands.CheckUnread.{HasUnreadVerdictReport, IsUnreadVerdictReport}
use Rattle.cn_io.specs.Texts.Checked.{EndsCheck}
use Rattle.cn_io.specs.Texts.Stocks.{EndsStockCheck}
use Rattle.cn_io.specs.Texts.WithoutReads.{EndsUnreadCheck}
use Rattle.cn_io.specs.declared.fault.AppFault.{AppFault}
use Rattle.cn_io.specs.declared.readers.checked.Checked.{Checked}
use Rattle.cn_io.specs.declared.report.Report.{Report}
use Rattle.cn_io.specs.declared.streams.text.Text.{Text}

pub verdict_told : {C : Type 0} (t : TypeTable) (certificate : Text C) (told : AnswerForm) (verdict : Result (Unit {0}) AppFault) (r : Result Report AppFault)
    → EndsCheck t certificate verdict → IsVerdictReport told verdict r → HasVerdictReport certificate told t r
verdict_told t certificate told (Ok done) r ends report =
    let checked : Checked = record { table = t; certificate = ends.0 } in
    inr (checked, inr (ends.0, ends.1, (ends.2, refl, refl)), report checked ends.2)
verdict_told t certificate told (Err e) r ends report = inl (e, ends, report)

pub unread_verdict_told : {C : Type 0} (t : TypeTable) (certificate : Text C) (told : AnswerForm) (verdict : Result (Unit {0}) AppFault) (r : Result Report AppFault)
    → EndsUnreadCheck t certificate verdict → IsUnreadVerdictReport told verdict r → HasUnreadVerdictReport certificate told t r
unread_verdict_told t certificate told (Ok done) r (inl (e, gives, is)) report = cc
unread_verdict_told t certificate told (Ok done) r (inr (c, gives, right)) report = inr (c, gives, right, report t c right)
unread_verdict_told t certificate told (Err e) r ends report = inl (e, ends, report)

pub stock_verdict_told : {C : Type 0} (t : TypeTable) (certificate : Text C) (told : AnswerForm) (verdict : Result (Unit {0}) AppFault) (r : Result Report AppFault)
    → EndsStockCheck t certificate verdict → IsStockVerdictReport told verdict r → HasStockVerdictReport certificate told t r
stock_verdict_told t certificate told (Ok done) r (inl (e, gives, is)) report = cc
stock_verdict_told t certificate told (Ok done) r (inr (c, gives, right)) report = inr (c, gives, right, report t c right)
stock_verdict_told t certificate told (Err e) r ends report = inl (e, ends, report)
