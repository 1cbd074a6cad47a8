-- What `find --shortest` writes: a certificate of the shortest plan of the table that it reads.
use Rattle.std.specs.Prelude.{◌≡◌, ◌++◌, ℕ, List, None, Option, codes, false, Result, Ok, Err, string_bytes}
use Rattle.cn_table.specs.TypeTable.{TypeTable}
use Rattle.cn_tree_cert.specs.Certificate.{TreeCertificate}
use Rattle.cn_tree_cert.specs.Reading.{AreOf, fault_of}
use Rattle.cn_tree_cert.specs.TreeText.{tree_certificate_text}
use Rattle.cn_tree_check.specs.Right.{IsCertificateOf, IsRight}
use Rattle.cn_tree_plans.specs.Plan.{TreePlan}
use Rattle.cn_io.specs.Steps.{Then}
use Rattle.cn_io.specs.Texts.Contents.{GivesTable}
use Rattle.cn_io.specs.declared.report.Outcome.TheVariants.{Whole}
use Rattle.cn_io.specs.declared.report.Report.{Report}
use Rattle.cn_io.specs.declared.streams.text.Text.{Text}
use Rattle.cn_io.specs.declared.fault.AppFault.{AppFault}
use Rattle.cn_io.specs.declared.fault.AppFault.TheVariants.{OutOfMemory}
use Rattle.cn_app.specs.Commands.Shortest.{GivesShortestPlan}

-- the text is a certificate that says what this plan is and is right for the table, and a line feed;
-- it is read back as this certificate
pub record IsFoundPlan (t : TypeTable) (plan : TreePlan) (text : List ℕ) : Type 0 where
  pub certificate : TreeCertificate
  pub says : IsCertificateOf plan certificate
  pub right : IsRight t certificate
  pub written : text ≡ tree_certificate_text certificate ++ codes "\n"
  pub read : AreOf text certificate × (fault_of text ≡ None)

-- the result of writing a certificate of a plan; the only fault is want of memory
abbrev pub IsPlanFoundReport : TypeTable → TreePlan → Result Report AppFault → Type 0
IsPlanFoundReport t plan (Ok report) =
    IsFoundPlan t plan (string_bytes report.text) × (report.outcome ≡ Whole)
IsPlanFoundReport t plan (Err e) = e ≡ OutOfMemory

-- the same for the shortest plan of the table
abbrev pub IsFindShortestReport : TypeTable → Option ℕ → Result Report AppFault → Type 0
IsFindShortestReport t processes r =
    Then (GivesShortestPlan t (record { processes = processes; without_read = false }))
    (λ plan. IsPlanFoundReport t plan) r

-- the result of `find --shortest` for a text
abbrev pub HasFindShortestReport : {R : Type 0} → Text R → Option ℕ → Result Report AppFault → Type 0
HasFindShortestReport table processes r =
    Then (GivesTable table) (λ t. IsFindShortestReport t processes) r
