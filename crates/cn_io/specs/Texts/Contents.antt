-- The texts that a command reads, and what they spell.
use Rattle.std.specs.Prelude.{ℕ, List, length, Result, Ok, Err, nat_lt, if◌then◌else◌}
use Rattle.std.specs.Result.{result_map_both}
use Rattle.cn_table.specs.TypeTable.{TypeTable}
use Rattle.cn_table.specs.Faults as table
use Rattle.cn_cert.specs.Certificate.{Certificate}
use Rattle.cn_cert.specs.Reading as certificate
use Rattle.cn_io.specs.Streams.Reading.{Gives, most_of}
use Rattle.cn_io.specs.FaultText.{plain_of}
use Rattle.cn_io.specs.declared.fault.AppFault.{AppFault}
use Rattle.cn_io.specs.declared.fault.AppFault.TheVariants as fault
use Rattle.cn_io.specs.declared.fault.Source.{Source}
use Rattle.cn_io.specs.declared.fault.Source.TheVariants as source
use Rattle.cn_io.specs.declared.streams.text.Text.{Text}

-- what a text of limited length spells, or its first fault: it is too long, or has a fault of its
-- own
abbrev pub value_in : {X F : Type 0} → Source → (F → AppFault) → (List ℕ → Result X F)
    → List ℕ → Result X AppFault
value_in source fault_of reads bytes =
    if nat_lt (most_of source) (length bytes) then Err (fault.TooLong source)
    else result_map_both (λ x. x) (λ f. plain_of (fault_of f)) (reads bytes)

-- the table that the bytes spell, or their first fault
abbrev pub table_in : List ℕ → Result TypeTable AppFault
table_in bytes = value_in source.Table fault.Table table.reading bytes

-- the certificate that the bytes spell, or their first fault
abbrev pub certificate_in : List ℕ → Result Certificate AppFault
certificate_in bytes = value_in source.Certificate fault.Certificate certificate.reading bytes

-- the table of the object that the bytes spell, or their first fault
abbrev pub object_in : List ℕ → Result TypeTable AppFault
object_in bytes = value_in source.Object fault.Object table.reading bytes

-- the result of reading a table, by what its text is then; likewise of a certificate and of an
-- object
abbrev pub GivesTable : {R : Type 0} → Text R → Result TypeTable AppFault → Type 0
GivesTable text r = Gives source.Table table_in text r

abbrev pub GivesCertificate : {R : Type 0} → Text R → Result Certificate AppFault → Type 0
GivesCertificate text r = Gives source.Certificate certificate_in text r

abbrev pub GivesObject : {R : Type 0} → Text R → Result TypeTable AppFault → Type 0
GivesObject text r = Gives source.Object object_in text r

-- the text is whole and spells a table; likewise a certificate
abbrev pub SpellsTable : {R : Type 0} → Text R → Type 0
SpellsTable text = (t : TypeTable) × GivesTable text (Ok t)

abbrev pub SpellsCertificate : {R : Type 0} → Text R → Type 0
SpellsCertificate text = (c : Certificate) × GivesCertificate text (Ok c)
