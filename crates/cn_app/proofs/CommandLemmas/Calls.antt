-- Facts about lists of calls hold for the same lists in a `Vec`.
use Rattle.std.proofs.Common.{◌≡◌, ℕ, List, Result, subst}
use Rattle.cn_log.specs.Opening.{Log, Opening}
use Rattle.cn_form.specs.declared.answer_form.AnswerForm.{AnswerForm}
use Rattle.cn_app.specs.Commands.Serve.{IsServeReport}
use Rattle.cn_io.specs.declared.fault.AppFault.{AppFault}
use Rattle.cn_io.specs.declared.report.Report.{Report}
use Rattle.cn_service.specs.declared.workers.ProcessHistory.{ProcessHistory}

pub served_as : (gates : Log → List ProcessHistory → Type 0) (told : AnswerForm) (o : Opening) (calls others : List (List ℕ)) (r : Result Report AppFault) → calls ≡ others
    → IsServeReport gates told o calls r → IsServeReport gates told o others r
served_as gates told o calls others r same h = subst (λ (lists : List (List ℕ)). IsServeReport gates told o lists r) same h
