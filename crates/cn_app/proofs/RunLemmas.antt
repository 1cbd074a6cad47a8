-- Commands over readers and a writer of a caller: what a command says of its texts and its output holds of the bytes and of the writer.
use Rattle.std.proofs.Common.{◌≡◌, ◌⊎◌, ◌∙◌, inl, inr, ℕ, List, ◌++◌, map, Option, Some, None, Result, Ok, Err, refl, ap, sym, string_bytes, subst}
use Rattle.std.specs.Io.KnownBytes.{Appends}
use Rattle.cn_table.specs.Faults as table
use Rattle.cn_cert.specs.Reading as certificate
use Rattle.cn_log.specs.Opening.{Log, Opening}
use Rattle.cn_table.specs.TypeTable.{TypeTable}
use Rattle.cn_cert.specs.Certificate.{Certificate}
use Rattle.cn_app.specs.declared.plan_style.PlanStyle.TheVariants as style
use Rattle.cn_io.specs.Arguments.Calls.{GivesCalls, calls_in}
use Rattle.cn_io.specs.Arguments.Events.{GivesCapacity, GivesEvents, events_in, words_of}
use Rattle.cn_io.specs.Arguments.Lists.{GivesLists}
use Rattle.cn_app.specs.Commands.Agree.{HasAgreeReport, IsAgreeReport}
use Rattle.cn_form.specs.declared.answer_form.AnswerForm.TheVariants as answer
use Rattle.cn_app.specs.Commands.Check.{HasCheckReport}
use Rattle.cn_app.specs.Commands.Find.{HasFindReport, IsFindReport, IsLimitFor}
use Rattle.cn_app.specs.Commands.Replay.{HasReplayReport, IsReplayReport}
use Rattle.cn_app.specs.Commands.Serve.{HasServeReport, IsServeReport}
use Rattle.cn_app.specs.Commands.Show.{HasShowReport, IsShowReport}
use Rattle.cn_app.specs.Runs.{HandsOn, OfBytes, Reads, ReadsCertificate, ReadsChecked, ReadsObject, ReadsOpening, ReadsTable, WritesReport, agree_of, check_of, decisions_in_lines, find_of, replay_of, serve_of, show_of}
use Rattle.cn_io.specs.Steps.{Then}
use Rattle.cn_io.specs.Streams.Reading.{FailsReading, Gives, HasRead}
use Rattle.cn_io.specs.Streams.Writing.{IsUnwritten, Reports}
use Rattle.cn_io.specs.Texts.Checked.{GivesCheck, GivesChecked}
use Rattle.cn_io.specs.Texts.Contents.{GivesCertificate, GivesObject, GivesTable, value_in}
use Rattle.cn_io.specs.Texts.Openings.{GivesOpening, OpensWith}
use Rattle.cn_io.specs.declared.arguments.list_text.ListText.{ListText}
use Rattle.cn_io.specs.declared.fault.AppFault.{AppFault}
use Rattle.cn_io.specs.declared.fault.AppFault.TheVariants as fault
use Rattle.cn_io.specs.declared.fault.Source.{Source}
use Rattle.cn_io.specs.declared.fault.Source.TheVariants as source
use Rattle.cn_io.specs.declared.readers.checked.Checked.{Checked}
use Rattle.cn_io.specs.declared.readers.opening.OpeningArguments.{OpeningArguments}
use Rattle.cn_io.specs.declared.report.Outcome.{Outcome}
use Rattle.cn_io.specs.declared.report.Report.{Report}
use Rattle.cn_io.specs.declared.streams.output.Output.{Output}
use Rattle.cn_io.specs.declared.streams.text.Text.{Text}
use Rattle.cn_service.specs.declared.workers.ProcessHistory.{ProcessHistory}
use Rattle.cn_io.proofs.StreamLemmas.KnownBytes.{reads_known_bytes}

-- what a text says of its bytes holds of those that its reader had left
module _ {R X F : Type 0} (from : Source) (fault_of : F → AppFault) (reads : List ℕ → Result X F) (remaining : R → Option (List ℕ)) (old new : Text R)
    (read : HasRead from remaining old new) where
  fails : (bytes : List ℕ) (e : AppFault) → FailsReading from new e ⊎ (value_in from fault_of reads bytes ≡ Err e) → Reads from (value_in from fault_of reads) bytes (Err e)
  fails bytes e (inl (inl memory)) = inl (inl memory)
  fails bytes e (inl (inr failed)) = inl (inr failed.0)
  fails bytes e (inr spelled) = inr spelled

  known : (bytes : List ℕ) → remaining old.reader ≡ Some bytes → (r : Result X AppFault) → Gives from (value_in from fault_of reads) new r
      → Reads from (value_in from fault_of reads) bytes r
  known bytes had (Ok x) gives = reads_known_bytes from fault_of reads remaining old new bytes (Ok x) had read gives
  known bytes had (Err e) gives = fails bytes e (reads_known_bytes from fault_of reads remaining old new bytes (Err e) had read gives)

  given : (r : Result X AppFault) → Gives from (value_in from fault_of reads) new r → Reads from (value_in from fault_of reads) new.bytes.items r
  given (Ok x) gives = gives.1
  given (Err e) (inl (inl memory)) = inl (inl memory)
  given (Err e) (inl (inr failed)) = inl (inr failed.0)
  given (Err e) (inr spelled) = inr spelled.1

  of_text : (reader : R) → old.reader ≡ reader → OfBytes (remaining reader)
      (λ bytes. (r : Result X AppFault) → Gives from (value_in from fault_of reads) new r → Reads from (value_in from fault_of reads) bytes r)
  of_text reader is = go (remaining reader) (ap remaining is)
    where
      go : (left : Option (List ℕ)) → remaining old.reader ≡ left → OfBytes left
          (λ bytes. (r : Result X AppFault) → Gives from (value_in from fault_of reads) new r → Reads from (value_in from fault_of reads) bytes r)
      go None had = (new.bytes.items, tt, given)
      go (Some bytes) had = (bytes, refl, known bytes had)

module _ {R : Type 0} (remaining : R → Option (List ℕ)) (old new : Text R) (reader : R) (is : old.reader ≡ reader) where
  pub of_table : HasRead source.Table remaining old new → OfBytes (remaining reader) (λ bytes. (r : Result TypeTable AppFault) → GivesTable new r → ReadsTable bytes r)
  of_table read = of_text source.Table fault.Table table.reading remaining old new read reader is

  pub of_certificate : HasRead source.Certificate remaining old new
      → OfBytes (remaining reader) (λ bytes. (r : Result Certificate AppFault) → GivesCertificate new r → ReadsCertificate bytes r)
  of_certificate read = of_text source.Certificate fault.Certificate certificate.reading remaining old new read reader is

  pub of_object : HasRead source.Object remaining old new → OfBytes (remaining reader) (λ bytes. (r : Result TypeTable AppFault) → GivesObject new r → ReadsObject bytes r)
  of_object read = of_text source.Object fault.Object table.reading remaining old new read reader is

-- steps in sequence, each of which says something else
then_by : {X Y : Type 0} (A B : Result X AppFault → Type 0) (P Q : X → Result Y AppFault → Type 0) → ((q : Result X AppFault) → A q → B q)
    → ((x : X) (q : Result Y AppFault) → P x q → Q x q) → (r : Result Y AppFault) → Then A P r → Then B Q r
then_by A B P Q first next r (inl (e, is, same)) = inl (e, first (Err e) is, same)
then_by A B P Q first next r (inr (x, is, rest)) = inr (x, first (Ok x) is, next x r rest)

-- the same, if the first step says the same
then_next : {X Y : Type 0} (A : Result X AppFault → Type 0) (P Q : X → Result Y AppFault → Type 0) → ((x : X) (q : Result Y AppFault) → P x q → Q x q)
    → (r : Result Y AppFault) → Then A P r → Then A Q r
then_next A P Q next r h = then_by A A P Q (λ _ is. is) next r h

-- the same, if the next step does
then_same : {X Y : Type 0} (A B : Result X AppFault → Type 0) (P : X → Result Y AppFault → Type 0) → ((q : Result X AppFault) → A q → B q)
    → (r : Result Y AppFault) → Then A P r → Then B P r
then_same A B P first r h = then_by A B P P first (λ _ _ is. is) r h

pub find_is : {R : Type 0} (t : Text R) (bytes : List ℕ) (limit : ℕ) → ((r : Result TypeTable AppFault) → GivesTable t r → ReadsTable bytes r) → (r : Result Report AppFault)
    → HasFindReport t (Some limit) r → find_of bytes limit r
find_is t bytes limit is r h =
    then_by (GivesTable t) (ReadsTable bytes) (λ u q. (n : ℕ) × IsLimitFor u (Some limit) n × IsFindReport u n q) (λ u. IsFindReport u limit) is
    (λ u q found. subst (λ (n : ℕ). IsFindReport u n q) found.1 found.2) r h

-- a table and a certificate, by the bytes of each
module _ {R C : Type 0} (t : Text R) (c : Text C) (table_bytes certificate_bytes : List ℕ)
    (table_is : (r : Result TypeTable AppFault) → GivesTable t r → ReadsTable table_bytes r)
    (certificate_is : (r : Result Certificate AppFault) → GivesCertificate c r → ReadsCertificate certificate_bytes r) where
  checked_is : (r : Result Checked AppFault) → GivesChecked t c r → ReadsChecked table_bytes certificate_bytes r
  checked_is r h =
      then_by (GivesTable t) (ReadsTable table_bytes) (λ u. Then (GivesCertificate c) (λ d. GivesCheck u d)) (λ u. Then (ReadsCertificate certificate_bytes) (λ d. GivesCheck u d)) table_is
      (λ u. then_same (GivesCertificate c) (ReadsCertificate certificate_bytes) (λ d. GivesCheck u d) certificate_is) r h

  certificate_then : (u : TypeTable) (r : Result Checked AppFault) → Then (GivesCertificate c) (λ d. GivesCheck u d) r → Then (ReadsCertificate certificate_bytes) (λ d. GivesCheck u d) r
  certificate_then u r h = then_same (GivesCertificate c) (ReadsCertificate certificate_bytes) (λ d. GivesCheck u d) certificate_is r h

  pub check_is : (r : Result Report AppFault) → HasCheckReport t c answer.Text r → check_of table_bytes certificate_bytes r
  check_is r (inl (e, gives, is)) = inl (e, inl (e, table_is (Err e) gives, refl), is)
  check_is r (inr (u, gives, inl (e, ends, is))) = inl (e, inr (u, table_is (Ok u) gives, certificate_then u (Err e) ends), is)
  check_is r (inr (u, gives, inr (checked, ends, report))) = inr (checked, inr (u, table_is (Ok u) gives, certificate_then u (Ok checked) ends), report)

  pub show_is : (r : Result Report AppFault) → HasShowReport t c style.Text r → show_of table_bytes certificate_bytes r
  show_is r h = then_same (GivesChecked t c) (ReadsChecked table_bytes certificate_bytes) (λ checked. IsShowReport checked style.Text) checked_is r h

  pub agree_is : (inputs schedule : ListText) (r : Result Report AppFault) → HasAgreeReport t c inputs schedule decisions_in_lines r → agree_of table_bytes certificate_bytes inputs schedule r
  agree_is inputs schedule r h =
      then_next (GivesLists inputs schedule) (λ l. Then (GivesChecked t c) (λ checked. IsAgreeReport checked l.inputs.items l.schedule.items decisions_in_lines))
      (λ l. Then (ReadsChecked table_bytes certificate_bytes) (λ checked. IsAgreeReport checked l.inputs.items l.schedule.items decisions_in_lines))
      (λ l. then_same (GivesChecked t c) (ReadsChecked table_bytes certificate_bytes) (λ checked. IsAgreeReport checked l.inputs.items l.schedule.items decisions_in_lines) checked_is) r h

-- a table, a certificate and an object, by the bytes of each
module _ {R C O : Type 0} (given : OpeningArguments R C O) (table_bytes certificate_bytes object_bytes : List ℕ)
    (table_is : (r : Result TypeTable AppFault) → GivesTable given.table r → ReadsTable table_bytes r)
    (certificate_is : (r : Result Certificate AppFault) → GivesCertificate given.certificate r → ReadsCertificate certificate_bytes r)
    (object_is : (r : Result TypeTable AppFault) → GivesObject given.object r → ReadsObject object_bytes r)
    (start capacity : List ℕ) (start_is : given.start.now ≡ start) (capacity_is : given.capacity.now ≡ capacity) where
  opening_is : (slots : ℕ) (r : Result Opening AppFault) → GivesOpening given slots r → ReadsOpening table_bytes certificate_bytes object_bytes start slots r
  opening_is slots r h =
      let S = given.start.now in
      subst (λ (s : List ℕ). ReadsOpening table_bytes certificate_bytes object_bytes s slots r) start_is
      (then_by (GivesTable given.table) (ReadsTable table_bytes) (λ t. Then (GivesCertificate given.certificate) (λ c. Then (GivesObject given.object) (λ o. OpensWith t c o S slots)))
      (λ t. Then (ReadsCertificate certificate_bytes) (λ c. Then (ReadsObject object_bytes) (λ o. OpensWith t c o S slots))) table_is
      (λ t. then_by (GivesCertificate given.certificate) (ReadsCertificate certificate_bytes) (λ c. Then (GivesObject given.object) (λ o. OpensWith t c o S slots))
      (λ c. Then (ReadsObject object_bytes) (λ o. OpensWith t c o S slots)) certificate_is
      (λ c. then_same (GivesObject given.object) (ReadsObject object_bytes) (λ o. OpensWith t c o S slots) object_is)) r h)

  spelled : (r : Result ℕ AppFault) → GivesCapacity given.capacity.now r → GivesCapacity capacity r
  spelled r h = subst (λ (s : List ℕ). GivesCapacity s r) capacity_is h

  -- the slots, then a list, then the opening, and then what a command does with these
  serves : {L : Type 0} (list : Result L AppFault → Type 0) (work : Opening → L → Result Report AppFault → Type 0) (r : Result Report AppFault)
      → Then (GivesCapacity given.capacity.now) (λ slots. Then list (λ l. Then (GivesOpening given slots) (λ o. work o l))) r
      → Then (GivesCapacity capacity) (λ slots. Then list (λ l. Then (ReadsOpening table_bytes certificate_bytes object_bytes start slots) (λ o. work o l))) r
  serves list work r h =
      then_by (GivesCapacity given.capacity.now) (GivesCapacity capacity) (λ slots. Then list (λ l. Then (GivesOpening given slots) (λ o. work o l)))
      (λ slots. Then list (λ l. Then (ReadsOpening table_bytes certificate_bytes object_bytes start slots) (λ o. work o l))) spelled
      (λ slots. then_next list (λ l. Then (GivesOpening given slots) (λ o. work o l)) (λ l. Then (ReadsOpening table_bytes certificate_bytes object_bytes start slots) (λ o. work o l))
      (λ l. then_same (GivesOpening given slots) (ReadsOpening table_bytes certificate_bytes object_bytes start slots) (λ o. work o l) (opening_is slots))) r h

  pub replay_is : (events : ListText) (r : Result Report AppFault) → HasReplayReport given events answer.Text r
      → replay_of table_bytes certificate_bytes object_bytes start capacity events r
  replay_is events r h = serves (GivesEvents events) (λ o list. IsReplayReport answer.Text o (events_in o.object (words_of list))) r h

  pub serve_is : (gates : Log → List ProcessHistory → Type 0) (calls : ListText) (r : Result Report AppFault) → HasServeReport gates given calls answer.Text r
      → serve_of gates table_bytes certificate_bytes object_bytes start capacity calls r
  serve_is gates calls r h = serves (GivesCalls calls) (λ o lists. IsServeReport gates answer.Text o (calls_in o.object (map (λ list. list.items) lists.items))) r h

-- what a command wrote to an output that keeps it was handed to the writer
module _ {V W : Type 0} (kept : V → Option (List ℕ)) (contents : W → Option (List ℕ)) (work told : Result Report AppFault → Type 0) (before after : Output V)
    (new_one : IsUnwritten before) (by : (q : Result Report AppFault) → work q → told q) (old new : W) where
  text_is : (text : List ℕ) → after.bytes.items ≡ before.bytes.items ++ text → after.bytes.items ≡ text
  text_is text is = is ∙ ap (λ (l : List ℕ). l ++ text) new_one.empty

  pub written : (ended r : Result Outcome AppFault) → Reports kept work before after ended → HandsOn contents after.bytes.items ended old new r
      → WritesReport contents told old new r
  written ended r (inl (e, is, same, silent)) handed =
      let h : (r ≡ Err e) × (new ≡ old) = subst (λ (q : Result Outcome AppFault). HandsOn contents after.bytes.items q old new r) same handed in
      subst (λ (q : Result Outcome AppFault). WritesReport contents told old new q) (sym h.0) (inl (by (Err e) is, h.1))
  written (Ok outcome) (Ok o) (inr (report, is, (was, taken))) handed =
      (report, by (Ok report) is, handed.0 ∙ was, subst (λ (bytes : List ℕ). Appends (contents old) (contents new) bytes) (text_is (string_bytes report.text) taken.bytes) handed.1)
  written (Ok outcome) (Err e) (inr (report, is, (was, taken))) handed = inr (report, by (Ok report) is, inl handed)
  written (Err e) r (inr (report, is, inl failed)) handed =
      subst (λ (q : Result Outcome AppFault). WritesReport contents told old new q) (sym handed.0) (inr (report, by (Ok report) is, inl failed.0))
  written (Err e) r (inr (report, is, inr silent)) handed =
      subst (λ (q : Result Outcome AppFault). WritesReport contents told old new q) (sym handed.0) (inr (report, by (Ok report) is, inr (silent.0, handed.1)))
