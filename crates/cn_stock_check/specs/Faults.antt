-- The faults of a certificate by stocks, and the order in which the check looks for them.
use Rattle.std.specs.Prelude.{◌≡◌, ◌≢◌, ℕ, ◌+◌, ◌<◌, ◌⊎◌, List, length, Option, Some, None, IsSomeAnd}
use Rattle.std.specs.Prelude.{slice_get}
use Rattle.cn_table.specs.TypeTable.{TypeTable}
use Rattle.cn_choice.specs.Canonical.{raw_choice_of}
use Rattle.cn_choice.specs.Discerning.{IsWitness}
use Rattle.cn_choice.specs.RawChoices.{IsRawChoice}
use Rattle.cn_joins.specs.Evidence.{NoticesItself}
use Rattle.cn_joins.specs.Joins.{IsJoin, Join}
use Rattle.cn_stock_cert.specs.Certificate.{StockCertificate}
use Rattle.cn_stock_cert.specs.LastingSets.{AreLastingSets}
use Rattle.cn_stock_cert.specs.Right.{AreInRange}
use Rattle.cn_stock_cert.specs.declared.certificate.StockClaim.{StockClaim}
use Rattle.cn_stock_cert.specs.declared.certificate.StockClaim.TheVariants.{Alone, Lasting, Witness}
use Rattle.cn_stock_check.specs.FaultText.{stock_check_fault_number}
use Rattle.cn_stock_check.specs.Needs.{ConnectFrom}
use Rattle.cn_stock_check.specs.declared.fault.StockCheckFault.{StockCheckFault}
use Rattle.cn_stock_check.specs.declared.fault.StockCheckFault.TheVariants as fault

-- the kind of claim that a lower bound wants: nothing for 1, a witness for a number, lasting
-- operations for every number
abbrev pub IsClaimFor : StockClaim → Option ℕ → Type 0
IsClaimFor Alone None = ⊥
IsClaimFor Alone (Some n) = n ≡ 1
IsClaimFor (Witness c) None = ⊥
IsClaimFor (Witness c) (Some n) = Unit {0}
IsClaimFor (Lasting s) None = Unit {0}
IsClaimFor (Lasting s) (Some n) = ⊥

-- the claim is a choice, but not one of the type for so many processes
abbrev pub IsOtherChoice : TypeTable → StockClaim → Option ℕ → Type 0
IsOtherChoice t Alone bound = ⊥
IsOtherChoice t (Witness c) bound = IsSomeAnd bound (λ n. ¬ IsRawChoice t n (raw_choice_of c))
IsOtherChoice t (Lasting s) bound = ⊥

-- the claim is a choice that is no witness
abbrev pub IsNoWitness : TypeTable → StockClaim → Type 0
IsNoWitness t Alone = ⊥
IsNoWitness t (Witness c) = ¬ IsWitness t (raw_choice_of c)
IsNoWitness t (Lasting s) = ⊥

-- the claim has sets that do not show that the operations last
abbrev pub IsNotLasting : TypeTable → StockClaim → Type 0
IsNotLasting t Alone = ⊥
IsNotLasting t (Witness c) = ⊥
IsNotLasting t (Lasting s) = ¬ AreLastingSets t s

-- joins are there exactly if there is an upper bound
abbrev pub AreThereFor : Option (List Join) → Option ℕ → Type 0
AreThereFor None None = Unit {0}
AreThereFor None (Some m) = ⊥
AreThereFor (Some joins) None = ⊥
AreThereFor (Some joins) (Some m) = Unit {0}

-- the join at the place is none of the type
abbrev pub IsOtherJoin : TypeTable → List Join → ℕ → Type 0
IsOtherJoin t joins i = IsSomeAnd (slice_get joins i) (λ join. ¬ IsJoin t join)

-- the operation of the type notices itself from some state
abbrev pub NoticesItselfSomewhere : TypeTable → ℕ → Type 0
NoticesItselfSomewhere t o = (o < length t.operations)
    × ((start : ℕ) × (start < length t.states) × NoticesItself t start o)

-- the joins do not connect each stock of n operations that must be connected, from the state
abbrev pub IsLeftOpen : TypeTable → ℕ → List Join → ℕ → Type 0
IsLeftOpen t n joins start =
    (start < length t.states) × ¬ ConnectFrom t n joins start

-- the certificate has the fault, as one of the type
abbrev pub HasFault : TypeTable → StockCertificate → StockCheckFault → Type 0
HasFault t c fault.OtherType = c.type_name ≢ t.name
HasFault t c fault.BadNumber = ¬ AreInRange c.at_least c.at_most
HasFault t c fault.LeastShape = ¬ IsClaimFor c.least c.at_least
HasFault t c fault.NotAChoice = IsOtherChoice t c.least c.at_least
HasFault t c fault.NoWitness = IsNoWitness t c.least
HasFault t c fault.NotLasting = IsNotLasting t c.least
HasFault t c fault.MostShape = ¬ AreThereFor c.most c.at_most
HasFault t c (fault.NotAJoin i) = IsSomeAnd c.most (λ joins. IsOtherJoin t joins i)
HasFault t c (fault.NoticesItself o) = (c.at_most ≡ Some 1) × NoticesItselfSomewhere t o
HasFault t c (fault.NotConnected q) =
    IsSomeAnd c.most (λ joins. IsSomeAnd c.at_most (λ m. IsLeftOpen t (m + 1) joins q))
HasFault t c fault.OutOfMemory = ⊥

-- the number that a fault carries, 0 for the others
abbrev pub carried : StockCheckFault → ℕ
carried fault.OtherType = 0
carried fault.BadNumber = 0
carried fault.LeastShape = 0
carried fault.NotAChoice = 0
carried fault.NoWitness = 0
carried fault.NotLasting = 0
carried fault.MostShape = 0
carried (fault.NotAJoin i) = i
carried (fault.NoticesItself o) = o
carried (fault.NotConnected q) = q
carried fault.OutOfMemory = 0

-- the check looks for the first fault before the second
abbrev pub ComesSooner : StockCheckFault → StockCheckFault → Type 0
ComesSooner e f = (stock_check_fault_number e < stock_check_fault_number f)
    ⊎ ((stock_check_fault_number e ≡ stock_check_fault_number f) × (carried e < carried f))

-- the certificate has the fault, and none for which the check looks sooner
pub record IsFirstFault (t : TypeTable) (c : StockCertificate) (e : StockCheckFault) : Type 0 where
  pub holds : HasFault t c e
  pub first : (f : StockCheckFault) → ComesSooner f e → ¬ HasFault t c f
