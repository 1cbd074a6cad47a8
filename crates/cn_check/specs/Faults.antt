-- The faults of a certificate, and the order in which the check looks for them.
use Rattle.std.specs.Prelude.{◌≡◌, ◌≢◌, ℕ, ◌+◌, ◌*◌, ◌<◌, ◌⊎◌, [], length, Some, IsSomeAnd}
use Rattle.std.specs.Prelude.{slice_get}
use Rattle.cn_table.specs.TypeTable.{TypeTable}
use Rattle.cn_choice.specs.Discerning.{OutcomeSetsMeet}
use Rattle.cn_choice.specs.Canonical.{raw_choice_of}
use Rattle.cn_cert.specs.Certificate.{Certificate}
use Rattle.cn_check.specs.Conditions.{IsInRange, HasWitnessFor, HoldsCollision}
use Rattle.cn_check.specs.Versions.{choices_to_refute_in}
use Rattle.cn_check.specs.declared.fault.CheckFault.{CheckFault}
use Rattle.cn_check.specs.declared.fault.CheckFault.TheVariants.{OtherType, BadNumber, WitnessShape}
use Rattle.cn_check.specs.declared.fault.CheckFault.TheVariants.{WitnessMeets, Unexpected, NotNext}
use Rattle.cn_check.specs.declared.fault.CheckFault.TheVariants.{NotACollision, TooFew}

-- entry i of the certificate is not of the choice that it must refute, or there is no choice for it
-- to refute
abbrev pub IsNotNext : TypeTable → Certificate → ℕ → Type 0
IsNotNext t c i = IsSomeAnd (slice_get c.collisions i)
    (λ entry. slice_get (choices_to_refute_in c.version t c.limit c.number) i ≢ Some entry.choice)

-- entry i of the certificate holds no collision of its choice
abbrev pub IsNoCollision : TypeTable → Certificate → ℕ → Type 0
IsNoCollision t c i = IsSomeAnd (slice_get c.collisions i) (λ entry. ¬ HoldsCollision t entry)

-- the certificate has the fault, as a certificate of the table
abbrev pub HasFault : TypeTable → Certificate → CheckFault → Type 0
HasFault t c OtherType = c.type_name ≢ t.name
HasFault t c BadNumber = ¬ IsInRange c.version c.limit c.number
HasFault t c WitnessShape = ¬ HasWitnessFor t c.number c.witness
HasFault t c (WitnessMeets j) = IsSomeAnd c.witness (λ w. OutcomeSetsMeet t (raw_choice_of w) j)
HasFault t c Unexpected = (c.number ≡ Some c.limit) × (c.collisions ≢ [])
HasFault t c (NotNext i) = IsNotNext t c i
HasFault t c (NotACollision i) = IsNoCollision t c i
HasFault t c TooFew =
    length c.collisions < length (choices_to_refute_in c.version t c.limit c.number)

-- when the check looks for a fault: the round, and the turn within the round; one round goes
-- through the entries, and looks at the choice of each, then at its collision
abbrev pub turn : CheckFault → ℕ × ℕ
turn OtherType = (1, 0)
turn BadNumber = (2, 0)
turn WitnessShape = (3, 0)
turn (WitnessMeets j) = (4, j)
turn Unexpected = (5, 0)
turn (NotNext i) = (6, 2 * i)
turn (NotACollision i) = (6, 2 * i + 1)
turn TooFew = (7, 0)

-- the check looks for the first fault before the second
abbrev pub ComesSooner : CheckFault → CheckFault → Type 0
ComesSooner e f =
    ((turn e).0 < (turn f).0) ⊎ (((turn e).0 ≡ (turn f).0) × ((turn e).1 < (turn f).1))

-- the certificate has the fault, and none for which the check looks sooner
pub record IsFirstFault (t : TypeTable) (c : Certificate) (e : CheckFault) : Type 0 where
  pub holds : HasFault t c e
  pub first : (f : CheckFault) → ComesSooner f e → ¬ HasFault t c f
