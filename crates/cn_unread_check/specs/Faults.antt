-- The faults of a certificate of a number without reads, and the order in which the check looks for
-- them.
use Rattle.std.specs.Prelude.{◌≡◌, ◌≢◌, ℕ, ◌<◌, ◌⊎◌, List}
use Rattle.cn_table.specs.TypeTable.{TypeTable}
use Rattle.cn_unread_cert.specs.Certificate.{UnreadCertificate}
use Rattle.cn_unread_cert.specs.Right.{AreInRange, IsMerging, ShowsAtLeast, ShowsAtMost}
use Rattle.cn_unread_cert.specs.declared.certificate.LeastClaim.{LeastClaim}
use Rattle.cn_unread_cert.specs.declared.certificate.LeastClaim.TheVariants as least
use Rattle.cn_unread_check.specs.FaultText.{unread_fault_number}
use Rattle.cn_unread_check.specs.declared.fault.UnreadCheckFault.{UnreadCheckFault}
use Rattle.cn_unread_check.specs.declared.fault.UnreadCheckFault.TheVariants.{BadNumber, Least, Most}
use Rattle.cn_unread_check.specs.declared.fault.UnreadCheckFault.TheVariants.{OtherType, OutOfMemory}
use Rattle.cn_unread_check.specs.declared.fault.UnreadCheckFault.TheVariants.{TooManyScenes}

-- the certificate has the fault, for the type of this name whose states merge to those of u
abbrev pub HasFault : List ℕ → TypeTable → UnreadCertificate → UnreadCheckFault → Type 0
HasFault name u c OtherType = c.type_name ≢ name
HasFault name u c BadNumber = ¬ AreInRange c.at_least c.at_most
HasFault name u c Least = ¬ ShowsAtLeast u c.least c.at_least
HasFault name u c Most = ¬ ShowsAtMost u c.most c.at_most
HasFault name u c TooManyScenes = ⊥
HasFault name u c OutOfMemory = ⊥

-- the certificate has the fault, and none with a lesser number
abbrev pub IsFirstFault : TypeTable → UnreadCertificate → UnreadCheckFault → Type 0
IsFirstFault t c e = (u : TypeTable) × IsMerging t u × HasFault t.name u c e
    × ((f : UnreadCheckFault) → unread_fault_number f < unread_fault_number e
    → ¬ HasFault t.name u c f)

-- the evidence for the lower bound is of further operations
abbrev pub IsByFurther : LeastClaim → Type 0
IsByFurther least.Alone = ⊥
IsByFurther (least.Visible c) = ⊥
IsByFurther (least.Further further) = Unit {0}
IsByFurther (least.Signs signs) = ⊥

-- the check comes to no end: for want of memory, or for want of room for the scenes of further
-- operations
abbrev pub IsUndecided : UnreadCertificate → UnreadCheckFault → Type 0
IsUndecided c e = (e ≡ OutOfMemory) ⊎ ((e ≡ TooManyScenes) × IsByFurther c.least)

-- room for scenes runs out only where the type and the range of the bounds are right
abbrev pub ComeScenesLast : TypeTable → UnreadCertificate → UnreadCheckFault → Type 0
ComeScenesLast t c TooManyScenes = (c.type_name ≡ t.name) × AreInRange c.at_least c.at_most
ComeScenesLast t c OtherType = Unit {0}
ComeScenesLast t c BadNumber = Unit {0}
ComeScenesLast t c Least = Unit {0}
ComeScenesLast t c Most = Unit {0}
ComeScenesLast t c OutOfMemory = Unit {0}
