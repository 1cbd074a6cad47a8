-- The first faults of certificates.
use Rattle.std.proofs.Common.{◌≡◌, ◌≢◌, ℕ, ◌<◌, ◌≤◌, arith, subst}
use Rattle.cn_table.specs.TypeTable.{IsTypeTable, TypeTable}
use Rattle.cn_unread_cert.specs.Certificate.{UnreadCertificate}
use Rattle.cn_unread_cert.specs.Right.{AreInRange, IsMerging, IsRight, IsRightFor, ShowsAtLeast, ShowsAtMost}
use Rattle.cn_unread_check.proofs.OneMerging.{one_merging}
use Rattle.cn_unread_check.specs.FaultText.{unread_fault_number}
use Rattle.cn_unread_check.specs.Faults.{HasFault, IsFirstFault}
use Rattle.cn_unread_check.specs.declared.fault.UnreadCheckFault.{UnreadCheckFault}
use Rattle.cn_unread_check.specs.declared.fault.UnreadCheckFault.TheVariants.{BadNumber, Least, Most}
use Rattle.cn_unread_check.specs.declared.fault.UnreadCheckFault.TheVariants.{OtherType, OutOfMemory}
use Rattle.cn_unread_check.specs.declared.fault.UnreadCheckFault.TheVariants.{TooManyScenes}

module _ (t u : TypeTable) (merging : IsMerging t u) (c : UnreadCertificate) where
  -- no fault with a number below n, if those parts are right that come sooner
  sooner : (n : ℕ) → n ≤ 4 → (1 < n → c.type_name ≡ t.name) → (2 < n → AreInRange c.at_least c.at_most)
      → (3 < n → ShowsAtLeast u c.least c.at_least) → (f : UnreadCheckFault)
      → unread_fault_number f < n → ¬ HasFault t.name u c f
  sooner n few type range least OtherType less = λ has. has (type less)
  sooner n few type range least BadNumber less = λ has. has (range less)
  sooner n few type range least Least less = λ has. has (least less)
  sooner n few type range least Most less = absurd (omega (arith, less, few))
  sooner n few type range least TooManyScenes less = λ has. has
  sooner n few type range least OutOfMemory less = λ has. has

  pub other_type : (c.type_name ≢ t.name) → IsFirstFault t c OtherType
  other_type has = (
    u,
    merging,
    has,
    sooner 1 (omega arith) (λ less. absurd (omega (arith, less)))
        (λ less. absurd (omega (arith, less))) (λ less. absurd (omega (arith, less))),
  )

  pub bad_number : c.type_name ≡ t.name → ¬ AreInRange c.at_least c.at_most → IsFirstFault t c BadNumber
  bad_number type has = (
    u,
    merging,
    has,
    sooner 2 (omega arith) (λ _. type)
        (λ less. absurd (omega (arith, less))) (λ less. absurd (omega (arith, less))),
  )

  pub no_least : c.type_name ≡ t.name → AreInRange c.at_least c.at_most
      → ¬ ShowsAtLeast u c.least c.at_least → IsFirstFault t c Least
  no_least type range has = (
    u,
    merging,
    has,
    sooner 3 (omega arith) (λ _. type) (λ _. range)
        (λ less. absurd (omega (arith, less))),
  )

  pub no_most : c.type_name ≡ t.name → AreInRange c.at_least c.at_most
      → ShowsAtLeast u c.least c.at_least → ¬ ShowsAtMost u c.most c.at_most → IsFirstFault t c Most
  no_most type range least has = (u, merging, has, sooner 4 (omega arith) (λ _. type) (λ _. range) (λ _. least))

-- a certificate that is right has no fault
no_fault : (t u : TypeTable) (c : UnreadCertificate) (e : UnreadCheckFault) → IsRightFor t.name u c
    → ¬ HasFault t.name u c e
no_fault t u c OtherType right = λ has. has right.type_name
no_fault t u c BadNumber right = λ has. has right.in_range
no_fault t u c Least right = λ has. has right.least
no_fault t u c Most right = λ has. has right.most
no_fault t u c TooManyScenes right = λ has. has
no_fault t u c OutOfMemory right = λ has. has

-- for it is judged by the one type to which the states merge
pub fault_is_wrong : (t : TypeTable) (c : UnreadCertificate) (e : UnreadCheckFault) → IsTypeTable t
    → IsFirstFault t c e → ¬ IsRight t c
fault_is_wrong t c e table first = λ right.
    no_fault t first.0 c e (subst (λ (u : TypeTable). IsRightFor t.name u c)
    (one_merging t right.0 first.0 table right.1 first.1) right.2) first.2
