-- Facts about lists hold for the same lists in a `Vec`.
use Rattle.std.proofs.Common.{◌≡◌, ℕ, List, Result, subst}
use Rattle.cn_table.specs.TypeTable.{TypeTable}
use Rattle.cn_lives.specs.declared.schedule.Event.{Event}
use Rattle.cn_app.specs.Commands.Agree.{IsAgreeReport}
use Rattle.cn_app.specs.Commands.AgreeShortest.{IsAgreeShortestReport}
use Rattle.cn_app.specs.Commands.Lives.{IsLivesReport}
use Rattle.cn_io.specs.declared.fault.AppFault.{AppFault}
use Rattle.cn_io.specs.declared.readers.checked.Checked.{Checked}
use Rattle.cn_io.specs.declared.report.Report.{Report}
use Rattle.cn_app.specs.declared.reports.agree.AskedRun.{AskedRun}
use Rattle.cn_app.specs.declared.reports.lives.AskedLives.{AskedLives}
use Rattle.cn_app.specs.declared.reports.shortest.AskedPlan.{AskedPlan}

pub agreed_as : (checked : Checked) (xs ys s t : List ℕ) (asked : AskedRun) (r : Result Report AppFault) → xs ≡ ys → s ≡ t → IsAgreeReport checked xs s asked r → IsAgreeReport checked ys t asked r
agreed_as checked xs ys s t asked r inputs schedule h =
    subst (λ (l : List ℕ). IsAgreeReport checked ys l asked r) schedule (subst (λ (l : List ℕ). IsAgreeReport checked l s asked r) inputs h)

pub lived_as : (t : TypeTable) (xs ys : List ℕ) (s u : List Event) (asked : AskedLives) (r : Result Report AppFault) → xs ≡ ys → s ≡ u → IsLivesReport t xs s asked r → IsLivesReport t ys u asked r
lived_as t xs ys s u asked r inputs schedule h =
    subst (λ (l : List Event). IsLivesReport t ys l asked r) schedule (subst (λ (l : List ℕ). IsLivesReport t l s asked r) inputs h)

pub shortest_as : (t : TypeTable) (which : AskedPlan) (xs ys s u : List ℕ) (asked : AskedRun) (r : Result Report AppFault) → xs ≡ ys → s ≡ u
    → IsAgreeShortestReport t which xs s asked r → IsAgreeShortestReport t which ys u asked r
shortest_as t which xs ys s u asked r inputs schedule h =
    subst (λ (l : List ℕ). IsAgreeShortestReport t which ys l asked r) schedule (subst (λ (l : List ℕ). IsAgreeShortestReport t which l s asked r) inputs h)
