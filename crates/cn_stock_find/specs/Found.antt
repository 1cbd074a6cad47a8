-- The certificate by stocks that is found for a type and a limit.
use Rattle.std.specs.Prelude.{◌≡◌, ◌≤◌, ℕ, ◌⊎◌, Option, Some, None, nat_lt, if◌then◌else◌}
use Rattle.cn_table.specs.TypeTable.{TypeTable}
use Rattle.cn_choice.specs.Canonical.{Choice}
use Rattle.cn_choice.specs.Discerning.{IsNumberUpTo}
use Rattle.cn_choice.specs.Live.{live_choices}
use Rattle.cn_finding.specs.Evidence.{IsFirstWitness}
use Rattle.cn_finding.specs.declared.limits.TheConstants.{GREATEST_LIMIT, LEAST_LIMIT}
use Rattle.cn_search.specs.Faults.{number_fault}
use Rattle.cn_search.specs.Numbers.{HasNumber}
use Rattle.cn_search.specs.declared.exact.ConsensusNumber.TheVariants.{Finite}
use Rattle.cn_search.specs.declared.fault.FindFault.{FindFault}
use Rattle.cn_stocks.specs.Lasting.{IsAlwaysDiscerning}
use Rattle.cn_stock_cert.specs.Certificate.{StockCertificate}
use Rattle.cn_stock_cert.specs.Right.{IsRight, ShowsAtLeast}
use Rattle.cn_stock_cert.specs.declared.certificate.StockClaim.{StockClaim}
use Rattle.cn_stock_cert.specs.declared.certificate.StockClaim.TheVariants.{Alone, Witness}

-- the fault of a limit, if there is a limit and it has one
abbrev pub limit_fault : Option ℕ → Option FindFault
limit_fault None = None
limit_fault (Some limit) = number_fault limit

-- the lower bound for a number up to a limit: 1 if there is none
abbrev pub lower_bound : Option ℕ → ℕ
lower_bound None = 1
lower_bound (Some n) = n

-- the upper bound: it is known if the number is below the limit
abbrev pub upper_bound : ℕ → Option ℕ → Option ℕ
upper_bound limit None = Some 1
upper_bound limit (Some n) = if nat_lt n limit then Some n else None

-- nothing shows that there is no number; what shows a number is the first live canonical witness
abbrev pub IsFirstClaim : TypeTable → Option ℕ → StockClaim → Type 0
IsFirstClaim t None claim = claim ≡ Alone
IsFirstClaim t (Some n) claim =
    (w : Choice) × (claim ≡ Witness w) × IsFirstWitness t (live_choices t n) w

-- the claim shows the number, if this is not above the greatest limit by the first witness
pub record IsClaimOf (t : TypeTable) (number : Option ℕ) (claim : StockClaim) : Type 0 where
  pub shows : ShowsAtLeast t claim (Some (lower_bound number))
  pub first : lower_bound number ≤ GREATEST_LIMIT → IsFirstClaim t number claim

-- the bounds are those that the number up to the limit gives, and the first witness shows the lower
-- one
pub record IsFoundUpTo (t : TypeTable) (limit : ℕ) (c : StockCertificate) : Type 0 where
  pub number : Option ℕ
  pub is_number : IsNumberUpTo t limit number
  pub at_least : c.at_least ≡ Some (lower_bound number)
  pub at_most : c.at_most ≡ upper_bound limit number
  pub least : IsFirstClaim t number c.least

-- the certificate is right, and its bounds are those that the number up to the limit gives
pub record IsCertificateOf (t : TypeTable) (limit : ℕ) (number : Option ℕ)
    (c : StockCertificate) : Type 0 where
  pub right : IsRight t c
  pub at_least : c.at_least ≡ Some (lower_bound number)
  pub at_most : c.at_most ≡ upper_bound limit number
  pub least : IsClaimOf t number c.least

-- the bounds of a type with every number
abbrev pub HasNoBounds : StockCertificate → Type 0
HasNoBounds c = (c.at_least ≡ None) × (c.at_most ≡ None)

-- the number, if it is from 2 on
abbrev pub discerning_number : ℕ → Option ℕ
discerning_number n = if nat_lt n LEAST_LIMIT then None else Some n

-- the number of the type is the lower and the upper bound; the first witness shows a number up to the
-- greatest limit
pub record IsFoundExactly (t : TypeTable) (c : StockCertificate) : Type 0 where
  pub number : ℕ
  pub is_number : HasNumber t (Finite number)
  pub at_least : c.at_least ≡ Some number
  pub at_most : c.at_most ≡ Some number
  pub least : number ≤ GREATEST_LIMIT → IsFirstClaim t (discerning_number number) c.least

-- with no limit: no bounds for a type that is n-discerning for every n; for any other type its number
abbrev pub IsFoundWithin : TypeTable → Option ℕ → StockCertificate → Type 0
IsFoundWithin t (Some limit) c = IsFoundUpTo t limit c
IsFoundWithin t None c = (IsAlwaysDiscerning t × HasNoBounds c) ⊎ IsFoundExactly t c

-- the certificate is right for the type, and says what is found within the limit
pub record IsFoundCertificate (t : TypeTable) (limit : Option ℕ)
    (c : StockCertificate) : Type 0 where
  pub right : IsRight t c
  pub found : IsFoundWithin t limit c
