-- What `lint` writes: a function of the bytes that it reads and of the form.
use Rattle.std.specs.Prelude.{◌≡◌, ◌≤◌, ℕ, List, ◌++◌, codes, flat_map, length, IsOk, Err, Ok}
use Rattle.std.specs.Prelude.{Result, MatchResult, string_bytes}
use Rattle.serde_json.specs.Written.{compact_text}
use Rattle.cn_table.specs.Faults.{reading}
use Rattle.cn_table.specs.TypeTable.{TypeTable}
use Rattle.cn_table.specs.declared.fault.TableFault.{TableFault}
use Rattle.cn_text.specs.Grid.{IsGrid}
use Rattle.cn_flaws.specs.Flaws.{Flaw, flaws_at}
use Rattle.cn_flaws.specs.Notes.{AreNotes, Notes}
use Rattle.cn_json.specs.Flaws.{flaws_data, notes_data}
use Rattle.cn_form.specs.declared.answer_form.AnswerForm.{AnswerForm}
use Rattle.cn_form.specs.declared.answer_form.AnswerForm.TheVariants as form
use Rattle.cn_io.specs.FaultText.{plain_of}
use Rattle.cn_app.specs.Forms.{if_json}
use Rattle.cn_io.specs.Steps.{Then}
use Rattle.cn_io.specs.Streams.Reading.{EndsText}
use Rattle.cn_io.specs.declared.report.Outcome.{Outcome}
use Rattle.cn_io.specs.declared.report.Outcome.TheVariants.{Cut, Refused, Whole}
use Rattle.cn_io.specs.declared.report.Report.{Report}
use Rattle.cn_io.specs.declared.streams.text.Text.{Text}
use Rattle.cn_io.specs.declared.fault.AppFault.{AppFault}
use Rattle.cn_io.specs.declared.fault.AppFault.TheVariants.{OutOfMemory}
use Rattle.cn_io.specs.declared.fault.AppFault.TheVariants as app
use Rattle.cn_io.specs.declared.fault.Source.TheVariants.{Table}

-- a line for each flaw
abbrev pub flaw_lines : List Flaw → List ℕ
flaw_lines flaws = flat_map (λ f. f.text ++ codes "\n") flaws

-- the flaws as one JSON value
abbrev pub flaw_json : List Flaw → List ℕ
flaw_json flaws = compact_text (flaws_data flaws) ++ codes "\n"

-- that a table has no flaws, and its notes, as one JSON value
abbrev pub note_json : TypeTable → Notes → List ℕ
note_json t notes = compact_text (notes_data t notes) ++ codes "\n"

-- the text of the flaws of bytes that spell no table; bytes that are no TOML have one flaw, at some
-- place in them
abbrev pub HasFlawText : AnswerForm → List ℕ → List ℕ → Type 0
HasFlawText told bytes text = (place : ℕ) × (place ≤ length bytes)
    × (text ≡ if_json told (flaw_json (flaws_at place bytes)) (flaw_lines (flaws_at place bytes)))

-- the text that a table has no flaws, with its notes
abbrev pub HasNoteText : TypeTable → List ℕ → Type 0
HasNoteText t text = (notes : Notes) × AreNotes t notes × (text ≡ note_json t notes)

-- the grid of a table, or as JSON that it has no flaws, with its notes
abbrev pub IsTableText : AnswerForm → TypeTable → List ℕ → Type 0
IsTableText form.Text t text = IsGrid t text
IsTableText form.Json t text = HasNoteText t text

-- the text of the table that the bytes spell, or else that of their flaws
abbrev pub IsLinted : AnswerForm → List ℕ → List ℕ → Type 0
IsLinted told bytes text =
    MatchResult (reading bytes) (λ t. IsTableText told t text) (λ _. HasFlawText told bytes text)

-- the bytes spell a table, or this is the fault of a table for which they are refused
abbrev pub Tells : Outcome → List ℕ → Type 0
Tells Whole bytes = IsOk (reading bytes)
Tells (Refused e) bytes =
    (fault : TableFault) × (reading bytes ≡ Err fault) × (e ≡ plain_of (app.Table fault))
Tells Cut bytes = ⊥

-- the result of `lint` for bytes, unless memory ran out
abbrev pub IsLintReport : AnswerForm → List ℕ → Result Report AppFault → Type 0
IsLintReport told bytes (Ok report) =
    IsLinted told bytes (string_bytes report.text) × Tells report.outcome bytes
IsLintReport told bytes (Err e) = e ≡ OutOfMemory

-- the result of `lint` for a text
abbrev pub HasLintReport : {R : Type 0} → Text R → AnswerForm → Result Report AppFault → Type 0
HasLintReport text told r =
    Then (EndsText Table text) (λ _. IsLintReport told text.bytes.items) r
