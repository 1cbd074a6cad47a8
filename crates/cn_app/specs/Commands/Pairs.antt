-- What `pairs` writes: a function of the table that it reads, of the numbers and of the form.
use Rattle.std.specs.Prelude.{◌≡◌, ◌++◌, ℕ, List, codes, Result, Ok, Err}
use Rattle.std.specs.Prelude.{string_bytes}
use Rattle.cn_table.specs.TypeTable.{TypeTable}
use Rattle.cn_search.specs.Numbers.{HasNumber}
use Rattle.cn_pairs.specs.SetNumbers.{AreSetNumbers, set_lists}
use Rattle.cn_pairs.specs.Smallest.{AreSmallest}
use Rattle.cn_pairs.specs.declared.pairs.Pairs.{Pairs}
use Rattle.serde_json.specs.Written.{compact_text}
use Rattle.cn_markdown.specs.Pairs.{pairs_markdown}
use Rattle.cn_text.specs.PairLines.{pairs_text}
use Rattle.cn_json.specs.Pairs.{pairs_data}
use Rattle.cn_form.specs.declared.answer_form.DocumentForm.{DocumentForm}
use Rattle.cn_form.specs.declared.answer_form.DocumentForm.TheVariants as form
use Rattle.cn_io.specs.Steps.{Then}
use Rattle.cn_io.specs.Texts.Contents.{GivesTable}
use Rattle.cn_io.specs.declared.report.Outcome.TheVariants.{Whole}
use Rattle.cn_io.specs.declared.report.Report.{Report}
use Rattle.cn_io.specs.declared.streams.text.Text.{Text}
use Rattle.cn_io.specs.declared.fault.AppFault.{AppFault}
use Rattle.cn_io.specs.declared.fault.AppFault.TheVariants.{OutOfMemory}

-- the numbers are those of the type, of each of its operations alone and of each pair of them, and
-- the sets are the smallest with the number of the type, one at least
pub record ArePairs (t : TypeTable) (p : Pairs) : Type 0 where
  pub number : HasNumber t p.number
  pub alone : AreSetNumbers t 1 p.alone.items
  pub pairs : AreSetNumbers t 2 p.pairs.items
  pub smallest : AreSmallest t p.number (set_lists p.smallest)

-- the text of the numbers in a form
abbrev pub pairs_in : DocumentForm → TypeTable → Pairs → List ℕ
pairs_in form.Text t p = pairs_text t p
pairs_in form.Json t p = compact_text (pairs_data t p) ++ codes "\n"
pairs_in form.Markdown t p = pairs_markdown t p

-- the result of telling the numbers in a form, unless memory ran out
abbrev pub IsPairsReport : TypeTable → DocumentForm → Result Report AppFault → Type 0
IsPairsReport t told (Ok report) = ((p : Pairs) × ArePairs t p
    × (string_bytes report.text ≡ pairs_in told t p)) × (report.outcome ≡ Whole)
IsPairsReport t told (Err e) = e ≡ OutOfMemory

-- the result of `pairs` for a text
abbrev pub HasPairsReport : {R : Type 0} → Text R → DocumentForm → Result Report AppFault → Type 0
HasPairsReport text told r = Then (GivesTable text) (λ t s. IsPairsReport t told s) r
