-- Claims that are of a table: it has their states and operations.
use Rattle.std.specs.Prelude.{◌+◌, ◌≤◌, length}
use Rattle.cn_table.specs.TypeTable.{TypeTable}
use Rattle.cn_table.specs.declared.limits.TheConstants.{MOST_STATES}
use Rattle.cn_choice.specs.Canonical.{Choice, IsChoiceFor}
use Rattle.cn_stock_cert.specs.LastingSets.{AreLastingSets}
use Rattle.cn_stock_cert.specs.declared.certificate.StockClaim.{StockClaim}
use Rattle.cn_stock_cert.specs.declared.certificate.StockClaim.TheVariants.{Alone, Lasting, Witness}

-- a choice of the type for the processes of its teams
pub record IsKnownChoice (t : TypeTable) (c : Choice) : Type 0 where
  pub choice : IsChoiceFor t (length c.a + length c.b) c
  pub few : length c.a + length c.b ≤ MOST_STATES

-- nothing, a choice of the type, or sets that show that operations last
abbrev pub IsKnownClaim : TypeTable → StockClaim → Type 0
IsKnownClaim t Alone = Unit {0}
IsKnownClaim t (Witness c) = IsKnownChoice t c
IsKnownClaim t (Lasting s) = AreLastingSets t s
