-- What opens a log: the texts of a table, a certificate and an object, the name of a state and a
-- number of slots.
use Rattle.std.specs.Prelude.{ℕ, List, Option, None, Result, Ok, Err, IsSomeAnd, ◌≡◌, ◌⊎◌}
use Rattle.cn_table.specs.Names.{number_of}
use Rattle.cn_table.specs.TypeTable.{TypeTable}
use Rattle.cn_cert.specs.Certificate.{Certificate}
use Rattle.cn_proto.specs.Plan.{Plan}
use Rattle.cn_log.specs.Opening.{Opening, opening_of}
use Rattle.cn_io.specs.Steps.{Then}
use Rattle.cn_io.specs.Streams.Reading.{HasRead, IsUnread}
use Rattle.cn_io.specs.Texts.Checked.{GivesCheck}
use Rattle.cn_io.specs.Texts.Contents.{GivesCertificate, GivesObject, GivesTable}
use Rattle.cn_io.specs.Texts.Contents.{SpellsCertificate, SpellsTable}
use Rattle.cn_io.specs.Texts.Plans.{GivesPlan}
use Rattle.cn_io.specs.declared.readers.opening.OpeningArguments.{OpeningArguments}
use Rattle.cn_io.specs.declared.fault.AppFault.{AppFault}
use Rattle.cn_io.specs.declared.fault.AppFault.TheVariants.{Argument}
use Rattle.cn_io.specs.declared.fault.Argument.TheVariants.{Start}
use Rattle.cn_io.specs.declared.fault.Source.TheVariants as source

-- the result of opening a log of so many slots for an object: the object starts in the state of
-- this name, or has none
abbrev pub GivesStart : Plan → TypeTable → List ℕ → ℕ → Result Opening AppFault → Type 0
GivesStart plan object start slots (Ok opening) =
    IsSomeAnd (number_of object.states start) (λ q. opening ≡ opening_of plan object q slots)
GivesStart plan object start slots (Err e) =
    (e ≡ Argument Start) × (number_of object.states start ≡ None)

-- the same with the plan of the witness of a certificate, which is checked first
abbrev pub OpensWith : TypeTable → Certificate → TypeTable → List ℕ → ℕ
    → Result Opening AppFault → Type 0
OpensWith t c object start slots r = Then (GivesCheck t c)
    (λ checked. Then (GivesPlan checked) (λ plan. GivesStart plan object start slots)) r

-- a table is read, then a certificate, then an object; then a log of so many slots is opened with
-- them
abbrev pub GivesOpening : {R C O : Type 0} → OpeningArguments R C O → ℕ
    → Result Opening AppFault → Type 0
GivesOpening given slots r =
    Then (GivesTable given.table) (λ t. Then (GivesCertificate given.certificate)
    (λ c. Then (GivesObject given.object) (λ o. OpensWith t c o given.start.now slots))) r

-- no text has given anything yet
pub record AreArgumentsUnread {R C O : Type 0} (given : OpeningArguments R C O) : Type 0 where
  pub table : IsUnread given.table
  pub certificate : IsUnread given.certificate
  pub object : IsUnread given.object

-- what became of the texts: if one does not spell what it should, the next is as it was; the other
-- fields are as they were
pub record HaveReadAll {R C O : Type 0} (remaining : R → Option (List ℕ))
    (left : C → Option (List ℕ)) (behind : O → Option (List ℕ))
    (old new : OpeningArguments R C O) : Type 0 where
  pub table : HasRead source.Table remaining old.table new.table
  pub certificate : HasRead source.Certificate left old.certificate new.certificate
  pub object : HasRead source.Object behind old.object new.object
  pub certificate_order : (new.certificate ≡ old.certificate) ⊎ SpellsTable new.table
  pub object_order : (new.object ≡ old.object) ⊎ SpellsCertificate new.certificate
  pub start : new.start ≡ old.start
  pub capacity : new.capacity ≡ old.capacity
