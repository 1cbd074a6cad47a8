-- Certificates that are right: their bounds are in range, and their evidence shows them.
use Rattle.std.specs.Prelude.{◌≡◌, ℕ, ◌+◌, ◌≤◌, ◌<◌, List, Option, Some, None}
use Rattle.cn_table.specs.TypeTable.{TypeTable}
use Rattle.cn_table.specs.declared.limits.TheConstants.{MOST_STATES}
use Rattle.cn_choice.specs.Canonical.{raw_choice_of}
use Rattle.cn_choice.specs.Discerning.{IsDiscerning, IsWitness}
use Rattle.cn_choice.specs.RawChoices.{IsRawChoice}
use Rattle.cn_stocks.specs.Lasting.{IsAlwaysDiscerning}
use Rattle.cn_joins.specs.Evidence.{IsEvidenceAgainst}
use Rattle.cn_joins.specs.Joins.{Join}
use Rattle.cn_stock_cert.specs.Certificate.{StockCertificate}
use Rattle.cn_stock_cert.specs.LastingSets.{AreLastingSets}
use Rattle.cn_stock_cert.specs.declared.certificate.StockClaim.{StockClaim}
use Rattle.cn_stock_cert.specs.declared.certificate.StockClaim.TheVariants.{Alone, Lasting, Witness}

-- every number and no upper bound; or a least number from 1 on, and a greatest one from it on or none,
-- both at most as great as finite numbers are
abbrev pub AreInRange : Option ℕ → Option ℕ → Type 0
AreInRange None None = Unit {0}
AreInRange None (Some m) = ⊥
AreInRange (Some n) None = (1 ≤ n) × (n ≤ MOST_STATES)
AreInRange (Some n) (Some m) = (1 ≤ n) × (n ≤ m) × (m ≤ MOST_STATES)

-- the claim shows a number: one process decides alone, or this choice for n is a witness; or it shows
-- every number: these operations last
abbrev pub ShowsAtLeast : TypeTable → StockClaim → Option ℕ → Type 0
ShowsAtLeast t Alone None = ⊥
ShowsAtLeast t Alone (Some n) = n ≡ 1
ShowsAtLeast t (Witness c) None = ⊥
ShowsAtLeast t (Witness c) (Some n) =
    IsRawChoice t n (raw_choice_of c) × IsWitness t (raw_choice_of c)
ShowsAtLeast t (Lasting s) None = AreLastingSets t s
ShowsAtLeast t (Lasting s) (Some n) = ⊥

-- joins are evidence against one process more; without a bound there are none
abbrev pub ShowsAtMost : TypeTable → Option (List Join) → Option ℕ → Type 0
ShowsAtMost t None None = Unit {0}
ShowsAtMost t None (Some m) = ⊥
ShowsAtMost t (Some joins) None = ⊥
ShowsAtMost t (Some joins) (Some m) = IsEvidenceAgainst t (m + 1) joins

-- the certificate is right for the type
pub record IsRight (t : TypeTable) (c : StockCertificate) : Type 0 where
  pub type_name : c.type_name ≡ t.name
  pub in_range : AreInRange c.at_least c.at_most
  pub least : ShowsAtLeast t c.least c.at_least
  pub most : ShowsAtMost t c.most c.at_most

-- the bounds are those of the type: it is n-discerning for the least number, or for every n, and for
-- none above the greatest
abbrev pub IsAtLeast : TypeTable → Option ℕ → Type 0
IsAtLeast t None = IsAlwaysDiscerning t
IsAtLeast t (Some n) = 2 ≤ n → IsDiscerning t n

abbrev pub IsAtMost : TypeTable → Option ℕ → Type 0
IsAtMost t None = Unit {0}
IsAtMost t (Some m) = (k : ℕ) → m < k → ¬ IsDiscerning t k

pub record AreBounds (t : TypeTable) (at_least at_most : Option ℕ) : Type 0 where
  pub least : IsAtLeast t at_least
  pub most : IsAtMost t at_most
