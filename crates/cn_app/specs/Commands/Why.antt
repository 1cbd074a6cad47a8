-- What `why` writes: a function of the table that it reads, of the limit, if one was given, and of the
-- form.
use Rattle.std.specs.Prelude.{◌≡◌, ℕ, List, Bool, Option, Some, None, MatchOption, Result, Ok, Err}
use Rattle.std.specs.Prelude.{string_bytes}
use Rattle.cn_table.specs.TypeTable.{TypeTable}
use Rattle.cn_stocks.specs.Lasting.{NoneLast}
use Rattle.cn_stocks.specs.Leaving.{IsLasting}
use Rattle.cn_stocks.specs.declared.lasting.search.Lasting.{Lasting}
use Rattle.cn_search.specs.Numbers.{HasNumber}
use Rattle.cn_search.specs.declared.exact.ConsensusNumber.{ConsensusNumber}
use Rattle.cn_cert.specs.Certificate.{Certificate}
use Rattle.cn_reasons.specs.Explanation.{Explains}
use Rattle.cn_reasons.specs.declared.explanation.Explanation.{Explanation}
use Rattle.cn_reasons.specs.declared.numbers.TypeNumber.TheVariants.{Exact}
use Rattle.cn_sentences.specs.declared.shortest.ShortestCost.{ShortestCost}
use Rattle.cn_form.specs.declared.answer_form.DocumentForm.{DocumentForm}
use Rattle.cn_app.specs.Commands.Explain.{explanation_in, IsExplainReport}
use Rattle.cn_app.specs.Commands.Find.{GivesFound, IsFoundCertificate, IsLimitFor}
use Rattle.cn_app.specs.Commands.ShortestCost.{TellsShortest}
use Rattle.cn_io.specs.Steps.{Then}
use Rattle.cn_io.specs.Texts.Contents.{GivesTable}
use Rattle.cn_io.specs.declared.report.Outcome.TheVariants.{Whole}
use Rattle.cn_io.specs.declared.report.Report.{Report}
use Rattle.cn_io.specs.declared.streams.text.Text.{Text}
use Rattle.cn_io.specs.declared.fault.AppFault.{AppFault}
use Rattle.cn_io.specs.declared.fault.AppFault.TheVariants.{OutOfMemory}

-- the result of `why` for a table and a limit: that of `explain` for the certificate that `find`
-- finds
abbrev pub IsLimitedReport : TypeTable → ℕ → Bool → DocumentForm → Result Report AppFault → Type 0
IsLimitedReport t limit all told r =
    Then (GivesFound t limit)
    (λ c. IsExplainReport (record { table = t; certificate = c }) all told) r

-- the explanation is of the number of the table with no limit: with two operations that last, if any
-- do, and the certificate up to the greatest limit
pub record ExplainsNumber (t : TypeTable) (all : Bool) (e : Explanation) : Type 0 where
  pub number : ConsensusNumber
  pub is_number : HasNumber t number
  pub limit : ℕ
  pub is_limit : IsLimitFor t None limit
  pub certificate : Certificate
  pub found : IsFoundCertificate t limit certificate
  pub lasting : Option Lasting
  pub is_lasting : MatchOption lasting (NoneLast t) (IsLasting t)
  pub explains : Explains t certificate (Exact number) lasting all e

-- the text tells the number of the table with no limit, the reasons for it, and how short protocols
-- get, in a form
pub record HasReasonsFor (t : TypeTable) (all : Bool) (told : DocumentForm) (text : List ℕ)
    : Type 0 where
  pub explanation : Explanation
  pub explains : ExplainsNumber t all explanation
  pub shortest : Option ShortestCost
  pub is_shortest : TellsShortest t shortest
  pub written : text ≡ explanation_in told explanation shortest

-- the result of `why` for a table with no limit; the only fault is want of memory
abbrev pub IsReasonsReport : TypeTable → Bool → DocumentForm → Result Report AppFault → Type 0
IsReasonsReport t all told (Ok report) =
    HasReasonsFor t all told (string_bytes report.text) × (report.outcome ≡ Whole)
IsReasonsReport t all told (Err e) = e ≡ OutOfMemory

-- the result of `why` for a table, with a given limit or none
abbrev pub IsWhyReport : TypeTable → Option ℕ → Bool → DocumentForm → Result Report AppFault
    → Type 0
IsWhyReport t (Some limit) all told r = IsLimitedReport t limit all told r
IsWhyReport t None all told r = IsReasonsReport t all told r

-- the result of `why` for a text
abbrev pub HasWhyReport : {R : Type 0} → Text R → Option ℕ → Bool → DocumentForm
    → Result Report AppFault → Type 0
HasWhyReport text given all told r =
    Then (GivesTable text) (λ t s. IsWhyReport t given all told s) r
