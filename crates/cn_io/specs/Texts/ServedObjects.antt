-- What a program that serves an object is made of: the texts of a table, a certificate and an object,
-- and the name of a state.
use Rattle.std.specs.Prelude.{ℕ, List, Option, None, Result, Ok, Err, IsSomeAnd, ◌≡◌, ◌⊎◌}
use Rattle.cn_table.specs.Names.{number_of}
use Rattle.cn_table.specs.TypeTable.{TypeTable}
use Rattle.cn_cert.specs.Certificate.{Certificate}
use Rattle.cn_proto.specs.Plan.{Plan}
use Rattle.cn_code.specs.Served.{Served, served_of}
use Rattle.cn_io.specs.Steps.{Then}
use Rattle.cn_io.specs.Streams.Reading.{HasRead}
use Rattle.cn_io.specs.Texts.Checked.{GivesCheck}
use Rattle.cn_io.specs.Texts.Contents.{GivesCertificate, GivesObject, GivesTable}
use Rattle.cn_io.specs.Texts.Contents.{SpellsCertificate, SpellsTable}
use Rattle.cn_io.specs.Texts.Plans.{GivesPlan}
use Rattle.cn_io.specs.declared.readers.served_object.ServedPlan.{ServedPlan}
use Rattle.cn_io.specs.declared.fault.AppFault.{AppFault}
use Rattle.cn_io.specs.declared.fault.AppFault.TheVariants.{Argument}
use Rattle.cn_io.specs.declared.fault.Argument.TheVariants.{Start}
use Rattle.cn_io.specs.declared.fault.Source.TheVariants as source
use Rattle.cn_io.specs.declared.streams.text.Text.{Text}

-- the object starts in the state of this name, or has none
abbrev pub GivesServed : TypeTable → List ℕ → Result Served AppFault → Type 0
GivesServed object start (Ok served) =
    IsSomeAnd (number_of object.states start) (λ q. served ≡ served_of object q)
GivesServed object start (Err e) = (e ≡ Argument Start) × (number_of object.states start ≡ None)

-- the same with a plan
abbrev pub IsServedBy : Plan → TypeTable → List ℕ → Result ServedPlan AppFault → Type 0
IsServedBy plan object start r = Then (GivesServed object start)
    (λ served made. made ≡ Ok (record { plan = plan; object = served })) r

-- the same with the plan of the witness of a certificate, which is checked first
abbrev pub ServesWith : TypeTable → Certificate → TypeTable → List ℕ → Result ServedPlan AppFault
    → Type 0
ServesWith t c object start r = Then (GivesCheck t c)
    (λ checked. Then (GivesPlan checked) (λ plan. IsServedBy plan object start)) r

-- a table is read, then a certificate, then an object, which is served by the plan of the
-- certificate's witness
abbrev pub GivesServedPlan : {R C O : Type 0} → Text R → Text C → Text O → List ℕ
    → Result ServedPlan AppFault → Type 0
GivesServedPlan table certificate object start r =
    Then (GivesTable table) (λ t. Then (GivesCertificate certificate)
    (λ c. Then (GivesObject object) (λ o. ServesWith t c o start))) r

-- what became of a text t, then of a text c, and then of a text o: if one does not spell what it
-- should, the next is as it was
pub record HaveReadWithObject {R C O : Type 0} (remaining : R → Option (List ℕ))
    (left : C → Option (List ℕ)) (behind : O → Option (List ℕ))
    (t u : Text R) (c d : Text C) (o p : Text O) : Type 0 where
  pub table : HasRead source.Table remaining t u
  pub certificate : HasRead source.Certificate left c d
  pub object : HasRead source.Object behind o p
  pub certificate_order : (d ≡ c) ⊎ SpellsTable u
  pub object_order : (p ≡ o) ⊎ SpellsCertificate d

-- what became of a text t and then of a text o: if the first spells no table, the second is as it was
pub record HaveReadTableAndObject {R O : Type 0} (remaining : R → Option (List ℕ))
    (behind : O → Option (List ℕ)) (t u : Text R) (o p : Text O) : Type 0 where
  pub table : HasRead source.Table remaining t u
  pub object : HasRead source.Object behind o p
  pub order : (p ≡ o) ⊎ SpellsTable u
