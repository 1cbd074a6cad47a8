-- What `changes` writes: a function of the table that it reads, of the numbers and of the form.
use Rattle.std.specs.Prelude.{◌≡◌, ◌++◌, ◌==◌, ℕ, List, Bool, true, false, codes, length, Option, None}
use Rattle.std.specs.Prelude.{IsSomeAnd, Result, Ok, Err, string_bytes}
use Rattle.cn_table.specs.TypeTable.{TypeTable}
use Rattle.cn_changes.specs.Kinds.{HasNumberOf}
use Rattle.cn_changes.specs.Pairs.{ArePairNumbers}
use Rattle.cn_changes.specs.Raises.{raises_of}
use Rattle.cn_changes.specs.Told.{AreAllNumbers}
use Rattle.cn_changes.specs.declared.changes.Changes.{Changes}
use Rattle.cn_changes.specs.declared.kind.NumberKind.{NumberKind}
use Rattle.cn_changes.specs.declared.pairs.PairNumbers.{PairNumbers}
use Rattle.serde_json.specs.Written.{compact_text}
use Rattle.cn_markdown.specs.Changes.{changes_markdown}
use Rattle.cn_text.specs.ChangeLines.{changes_text}
use Rattle.cn_json.specs.Changes.{changes_data}
use Rattle.cn_form.specs.declared.answer_form.DocumentForm.{DocumentForm}
use Rattle.cn_form.specs.declared.answer_form.DocumentForm.TheVariants as form
use Rattle.cn_io.specs.Steps.{Then}
use Rattle.cn_io.specs.Texts.Contents.{GivesTable}
use Rattle.cn_io.specs.declared.report.Outcome.TheVariants.{Whole}
use Rattle.cn_io.specs.declared.report.Report.{Report}
use Rattle.cn_io.specs.declared.streams.text.Text.{Text}
use Rattle.cn_io.specs.declared.fault.AppFault.{AppFault}
use Rattle.cn_io.specs.declared.fault.AppFault.TheVariants.{OutOfMemory}
use Rattle.cn_app.specs.declared.reports.changes.AskedChanges.{AskedChanges}

-- the numbers are those of the type and of the type with each change of one entry
pub record AreChanges (kind : NumberKind) (t : TypeTable) (c : Changes) : Type 0 where
  pub kind_is : c.kind ≡ kind
  pub number : HasNumberOf kind t c.number
  pub nexts : AreAllNumbers kind t c.nexts.items

-- changes of two entries are tried, or not
abbrev pub ArePairsAfter : Bool → TypeTable → Changes → Option PairNumbers → Type 0
ArePairsAfter true t c pairs = IsSomeAnd pairs (ArePairNumbers c.kind t c.number)
ArePairsAfter false t c pairs = pairs ≡ None

-- changes of two entries are tried if that is asked and none of one entry raises the number
abbrev pub ArePairsFor : Bool → TypeTable → Changes → Option PairNumbers → Type 0
ArePairsFor false t c pairs = pairs ≡ None
ArePairsFor true t c pairs = ArePairsAfter (length (raises_of c.number c.nexts.items) == 0) t c pairs

-- the text of the numbers in a form
abbrev pub changes_in : DocumentForm → TypeTable → Changes → Option PairNumbers → List ℕ
changes_in form.Text t c pairs = changes_text t c pairs
changes_in form.Json t c pairs = compact_text (changes_data t c pairs) ++ codes "\n"
changes_in form.Markdown t c pairs = changes_markdown t c pairs

-- what is told of the type in the form that is asked for
pub record IsChangesText (t : TypeTable) (asked : AskedChanges) (text : List ℕ) : Type 0 where
  pub changes : Changes
  pub pairs : Option PairNumbers
  pub are : AreChanges asked.kind t changes
  pub pairs_are : ArePairsFor asked.pairs t changes pairs
  pub written : text ≡ changes_in asked.form t changes pairs

-- the result of telling the changes, unless memory ran out
abbrev pub IsChangesReport : TypeTable → AskedChanges → Result Report AppFault → Type 0
IsChangesReport t asked (Ok report) =
    IsChangesText t asked (string_bytes report.text) × (report.outcome ≡ Whole)
IsChangesReport t asked (Err e) = e ≡ OutOfMemory

-- the result of `changes` for a text
abbrev pub HasChangesReport : {R : Type 0} → Text R → AskedChanges → Result Report AppFault → Type 0
HasChangesReport text asked r = Then (GivesTable text) (λ t s. IsChangesReport t asked s) r
