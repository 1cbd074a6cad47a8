-- What a command does over a caller's readers and writer, by the bytes of the readers.
use Rattle.std.specs.Prelude.{◌≡◌, ◌⊎◌, ⊤, ℕ, false, map, List, Option, None, Some, Result, Ok, Err}
use Rattle.std.specs.Prelude.{string_bytes}
use Rattle.std.specs.Io.KnownBytes.{Appends}
use Rattle.cn_table.specs.TypeTable.{TypeTable}
use Rattle.cn_cert.specs.Certificate.{Certificate}
use Rattle.cn_log.specs.Opening.{Log, Opening}
use Rattle.cn_app.specs.declared.plan_style.PlanStyle.TheVariants as style
use Rattle.cn_form.specs.declared.answer_form.AnswerForm.TheVariants as answer
use Rattle.cn_io.specs.Arguments.Calls.{GivesCalls, calls_in}
use Rattle.cn_io.specs.Arguments.Events.{GivesCapacity, GivesEvents, events_in, words_of}
use Rattle.cn_io.specs.Arguments.Lists.{GivesLists}
use Rattle.cn_app.specs.Commands.Agree.{IsAgreeReport}
use Rattle.cn_app.specs.Commands.Check.{IsCheckReport}
use Rattle.cn_app.specs.Commands.Find.{IsFindReport}
use Rattle.cn_app.specs.Commands.Replay.{IsReplayReport}
use Rattle.cn_app.specs.Commands.Serve.{IsServeReport}
use Rattle.cn_app.specs.Commands.Show.{IsShowReport}
use Rattle.cn_io.specs.Steps.{Then}
use Rattle.cn_io.specs.Texts.Checked.{GivesCheck}
use Rattle.cn_io.specs.Texts.Contents.{certificate_in, object_in, table_in}
use Rattle.cn_io.specs.Texts.Openings.{OpensWith}
use Rattle.cn_io.specs.declared.arguments.list_text.ListText.{ListText}
use Rattle.cn_io.specs.declared.fault.AppFault.{AppFault}
use Rattle.cn_io.specs.declared.fault.AppFault.TheVariants.{OutOfMemory, Read, Write}
use Rattle.cn_io.specs.declared.fault.Source.{Source}
use Rattle.cn_io.specs.declared.fault.Source.TheVariants as source
use Rattle.cn_io.specs.declared.readers.checked.Checked.{Checked}
use Rattle.cn_io.specs.declared.report.Outcome.{Outcome}
use Rattle.cn_io.specs.declared.report.Report.{Report}
use Rattle.cn_app.specs.declared.reports.agree.AskedRun.{AskedRun}
use Rattle.cn_service.specs.declared.workers.ProcessHistory.{ProcessHistory}

-- these are all bytes that a reader has left, if those are known
abbrev pub AreLeft : Option (List ℕ) → List ℕ → Type 0
AreLeft None bytes = ⊤
AreLeft (Some known) bytes = bytes ≡ known

-- this holds of the bytes that a reader has left: of all, if they are known, and else of some
abbrev pub OfBytes : Option (List ℕ) → (List ℕ → Type 0) → Type 0
OfBytes left holds = (bytes : List ℕ) × AreLeft left bytes × holds bytes

-- the result of reading these bytes: the value that they spell; or memory ran out, or the reader
-- failed; or this is the first fault of what they spell
abbrev pub Reads : {X : Type 0} → Source → (List ℕ → Result X AppFault) → List ℕ
    → Result X AppFault → Type 0
Reads source reads bytes (Ok x) = reads bytes ≡ Ok x
Reads source reads bytes (Err e) =
    ((e ≡ OutOfMemory) ⊎ (e ≡ Read source)) ⊎ (reads bytes ≡ Err e)

abbrev pub ReadsTable : List ℕ → Result TypeTable AppFault → Type 0
ReadsTable bytes r = Reads source.Table table_in bytes r

abbrev pub ReadsCertificate : List ℕ → Result Certificate AppFault → Type 0
ReadsCertificate bytes r = Reads source.Certificate certificate_in bytes r

abbrev pub ReadsObject : List ℕ → Result TypeTable AppFault → Type 0
ReadsObject bytes r = Reads source.Object object_in bytes r

-- a table is read, then a certificate, and then the certificate is checked against the table
abbrev pub ReadsChecked : List ℕ → List ℕ → Result Checked AppFault → Type 0
ReadsChecked table certificate r =
    Then (ReadsTable table) (λ t. Then (ReadsCertificate certificate) (λ c. GivesCheck t c)) r

-- a table is read, then a certificate, then an object; then a log of this capacity is opened with
-- them
abbrev pub ReadsOpening : List ℕ → List ℕ → List ℕ → List ℕ → ℕ
    → Result Opening AppFault → Type 0
ReadsOpening table certificate object start slots r =
    Then (ReadsTable table) (λ t. Then (ReadsCertificate certificate)
    (λ c. Then (ReadsObject object) (λ o. OpensWith t c o start slots))) r

-- what each command has to say of these bytes and arguments: the lists are read first, from left to
-- right
abbrev pub find_of : List ℕ → ℕ → Result Report AppFault → Type 0
find_of table limit r = Then (ReadsTable table) (λ t. IsFindReport t limit) r

abbrev pub check_of : List ℕ → List ℕ → Result Report AppFault → Type 0
check_of table certificate r =
    Then (ReadsChecked table certificate) (IsCheckReport answer.Text) r

abbrev pub show_of : List ℕ → List ℕ → Result Report AppFault → Type 0
show_of table certificate r =
    Then (ReadsChecked table certificate) (λ checked. IsShowReport checked style.Text) r

-- the decisions alone, in lines
abbrev pub decisions_in_lines : AskedRun
decisions_in_lines = record { steps = false; form = answer.Text }

abbrev pub agree_of : List ℕ → List ℕ → ListText → ListText → Result Report AppFault → Type 0
agree_of table certificate inputs schedule r =
    Then (GivesLists inputs schedule) (λ lists. Then (ReadsChecked table certificate)
    (λ checked. IsAgreeReport checked lists.inputs.items lists.schedule.items decisions_in_lines)) r

abbrev pub replay_of : List ℕ → List ℕ → List ℕ → List ℕ → List ℕ → ListText
    → Result Report AppFault → Type 0
replay_of table certificate object start capacity events r =
    Then (GivesCapacity capacity) (λ slots. Then (GivesEvents events)
    (λ list. Then (ReadsOpening table certificate object start slots)
    (λ o. IsReplayReport answer.Text o (events_in o.object (words_of list))))) r

abbrev pub serve_of : (Log → List ProcessHistory → Type 0) → List ℕ → List ℕ → List ℕ → List ℕ
    → List ℕ → ListText → Result Report AppFault → Type 0
serve_of gates table certificate object start capacity calls r =
    Then (GivesCapacity capacity) (λ slots. Then (GivesCalls calls)
    (λ lists. Then (ReadsOpening table certificate object start slots)
    (λ o. IsServeReport gates answer.Text o
    (calls_in o.object (map (λ list. list.items) lists.items))))) r

-- the result of handing the bytes that a command wrote to a writer, if it ended so: its fault, and
-- the writer is as it was; or its outcome, and the writer took them; or the writer failed
abbrev pub HandsOn : {W : Type 0} → (W → Option (List ℕ)) → List ℕ → Result Outcome AppFault
    → W → W → Result Outcome AppFault → Type 0
HandsOn contents bytes (Err e) old new r = (r ≡ Err e) × (new ≡ old)
HandsOn contents bytes (Ok outcome) old new (Ok o) =
    (o ≡ outcome) × Appends (contents old) (contents new) bytes
HandsOn contents bytes (Ok outcome) old new (Err e) = e ≡ Write

-- the result of a command with this work: its outcome, and the writer took the text of the report;
-- or the fault of the work, or want of memory, and the writer is as it was; or the writer failed
abbrev pub WritesReport : {W : Type 0} → (W → Option (List ℕ)) → (Result Report AppFault → Type 0)
    → W → W → Result Outcome AppFault → Type 0
WritesReport contents work old new (Ok outcome) = (report : Report) × work (Ok report)
    × (outcome ≡ report.outcome)
    × Appends (contents old) (contents new) (string_bytes report.text)
WritesReport contents work old new (Err e) = (work (Err e) × (new ≡ old))
    ⊎ ((report : Report) × work (Ok report) × ((e ≡ Write) ⊎ ((e ≡ OutOfMemory) × (new ≡ old))))
