-- What a certificate by stocks says.
use Rattle.std.specs.Prelude.{ℕ, List, Option}
use Rattle.cn_joins.specs.Joins.{Join}
use Rattle.cn_stock_cert.specs.declared.certificate.StockClaim.{StockClaim}

-- the least number, or none for every number; the greatest, if there is a bound; what shows them; and
-- the bytes of the type's name
pub record StockCertificate : Type 0 where
  pub at_least : Option ℕ
  pub at_most : Option ℕ
  pub least : StockClaim
  pub most : Option (List Join)
  pub type_name : List ℕ
