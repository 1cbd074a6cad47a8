-- A certificate of a plan tree, and its check against a table.
use Rattle.std.specs.Prelude.{◌≡◌, ◌⊎◌, None, Some, Result, Ok, Err}
use Rattle.cn_table.specs.TypeTable.{TypeTable}
use Rattle.cn_tree_cert.specs.Certificate.{TreeCertificate}
use Rattle.cn_tree_cert.specs.Reading.{AreOf, fault_of}
use Rattle.cn_tree_cert.specs.declared.fault.TreeCertFault.{TreeCertFault}
use Rattle.cn_tree_check.specs.Faults.{IsFirstFault}
use Rattle.cn_tree_check.specs.Right.{IsCertificateOf, IsRight}
use Rattle.cn_tree_check.specs.declared.fault.TreeCheckFault.{TreeCheckFault}
use Rattle.cn_tree_plans.specs.Plan.{TreePlan}
use Rattle.cn_io.specs.FaultText.{plain_of}
use Rattle.cn_io.specs.Steps.{Then}
use Rattle.cn_io.specs.Streams.Reading.{EndsText, IsWhole}
use Rattle.cn_io.specs.declared.fault.AppFault.{AppFault}
use Rattle.cn_io.specs.declared.fault.AppFault.TheVariants as app
use Rattle.cn_io.specs.declared.fault.Source.TheVariants as source
use Rattle.cn_io.specs.declared.streams.text.Text.{Text}

-- the result of reading a certificate: the text is whole and spells this one; or it could not be
-- read, or is too long; or this is its first fault; or memory ran out
abbrev pub GivesTreeCertificate : {C : Type 0} → Text C → Result TreeCertificate AppFault → Type 0
GivesTreeCertificate text (Ok c) = IsWhole source.Certificate text × AreOf text.bytes.items c
    × (fault_of text.bytes.items ≡ None)
GivesTreeCertificate text (Err e) = EndsText source.Certificate text (Err e)
    ⊎ (IsWhole source.Certificate text × ((fault : TreeCertFault)
    × (fault_of text.bytes.items ≡ Some fault) × (e ≡ plain_of (app.TreeCertificate fault))))

-- a certificate that is right, and its plan, which is of the table
pub record IsCheckedTree (t : TypeTable) (c : TreeCertificate) (plan : TreePlan) : Type 0 where
  pub right : IsRight t c
  pub table : plan.table ≡ t
  pub says : IsCertificateOf plan c

-- the result of the check of a certificate against a table: its plan; or this is the first fault, or
-- memory ran out
abbrev pub GivesTreeCheck : TypeTable → TreeCertificate → Result TreePlan AppFault → Type 0
GivesTreeCheck t c (Ok plan) = IsCheckedTree t c plan
GivesTreeCheck t c (Err e) = (e ≡ app.OutOfMemory)
    ⊎ ((fault : TreeCheckFault) × IsFirstFault t c fault × (e ≡ plain_of (app.TreeCheck fault)))

-- the result of reading a certificate and checking it against a table
abbrev pub EndsTreeCheck : {C : Type 0} → TypeTable → Text C → Result TreePlan AppFault → Type 0
EndsTreeCheck t certificate r =
    Then (GivesTreeCertificate certificate) (λ c. GivesTreeCheck t c) r
