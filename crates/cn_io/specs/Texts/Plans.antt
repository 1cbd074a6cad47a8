-- The plan that a certificate stands for.
use Rattle.std.specs.Prelude.{◌≡◌, ◌⊎◌, Some, None, Result, Ok, Err}
use Rattle.cn_table.specs.TypeTable.{TypeTable}
use Rattle.cn_cert.specs.Certificate.{Certificate}
use Rattle.cn_proto.specs.Plan.{Plan, IsPlan}
use Rattle.cn_io.specs.declared.readers.checked.Checked.{Checked}
use Rattle.cn_io.specs.declared.fault.AppFault.{AppFault}
use Rattle.cn_io.specs.declared.fault.AppFault.TheVariants.{NoWitness, OutOfMemory}

-- the plan of the certificate's witness for the table
pub record IsPlanOf (t : TypeTable) (c : Certificate) (plan : Plan) : Type 0 where
  pub is_plan : IsPlan plan
  pub table : plan.table ≡ t
  pub witness : c.witness ≡ Some plan.choice

-- the result of making the plan of a certificate: its plan; or it has no witness, or memory ran out
abbrev pub GivesPlan : Checked → Result Plan AppFault → Type 0
GivesPlan checked (Ok plan) = IsPlanOf checked.table checked.certificate plan
GivesPlan checked (Err e) =
    (e ≡ OutOfMemory) ⊎ ((e ≡ NoWitness) × (checked.certificate.witness ≡ None))
