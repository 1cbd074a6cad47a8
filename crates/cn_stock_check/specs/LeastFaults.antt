-- The faults of the claim of a lower bound.
use Rattle.std.specs.Prelude.{◌≡◌, ◌⊎◌, ℕ, Option}
use Rattle.cn_table.specs.TypeTable.{TypeTable}
use Rattle.cn_choice.specs.Canonical.{Choice, raw_choice_of}
use Rattle.cn_choice.specs.Discerning.{IsWitness}
use Rattle.cn_choice.specs.RawChoices.{IsRawChoice}
use Rattle.cn_stock_cert.specs.declared.certificate.StockClaim.{StockClaim}
use Rattle.cn_stock_check.specs.Faults.{ComesSooner, IsClaimFor, IsNoWitness, IsNotLasting, IsOtherChoice}
use Rattle.cn_stock_check.specs.declared.fault.StockCheckFault.{StockCheckFault}
use Rattle.cn_stock_check.specs.declared.fault.StockCheckFault.TheVariants as fault

-- the claim has the fault, for the bound
abbrev pub HasLeastFault : TypeTable → StockClaim → Option ℕ → StockCheckFault → Type 0
HasLeastFault t claim bound fault.LeastShape = ¬ IsClaimFor claim bound
HasLeastFault t claim bound fault.NotAChoice = IsOtherChoice t claim bound
HasLeastFault t claim bound fault.NoWitness = IsNoWitness t claim
HasLeastFault t claim bound fault.NotLasting = IsNotLasting t claim
HasLeastFault t claim bound fault.OtherType = ⊥
HasLeastFault t claim bound fault.BadNumber = ⊥
HasLeastFault t claim bound fault.MostShape = ⊥
HasLeastFault t claim bound (fault.NotAJoin i) = ⊥
HasLeastFault t claim bound (fault.NoticesItself o) = ⊥
HasLeastFault t claim bound (fault.NotConnected q) = ⊥
HasLeastFault t claim bound fault.OutOfMemory = ⊥

-- it has the fault, and none for which the check looks sooner
pub record IsFirstLeastFault (t : TypeTable) (claim : StockClaim) (bound : Option ℕ)
    (e : StockCheckFault) : Type 0 where
  pub holds : HasLeastFault t claim bound e
  pub first : (f : StockCheckFault) → ComesSooner f e → ¬ HasLeastFault t claim bound f

-- the choice is none of the type for n processes, or it is no witness
abbrev pub IsWitnessFault : TypeTable → ℕ → Choice → StockCheckFault → Type 0
IsWitnessFault t n c e = ((e ≡ fault.NotAChoice) × ¬ IsRawChoice t n (raw_choice_of c))
    ⊎ ((e ≡ fault.NoWitness) × IsRawChoice t n (raw_choice_of c)
    × ¬ IsWitness t (raw_choice_of c))
