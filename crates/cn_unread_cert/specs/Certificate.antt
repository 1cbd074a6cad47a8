-- What a certificate of a number without reads says.
use Rattle.std.specs.Prelude.{ℕ, List, Option}
use Rattle.cn_game.specs.declared.trap.Trap.{Trap}
use Rattle.cn_unread_cert.specs.declared.certificate.LeastClaim.{LeastClaim}

-- the least number, or none for every number; the greatest, if there is a bound; what shows them; and
-- the bytes of the type's name
pub record UnreadCertificate : Type 0 where
  pub at_least : Option ℕ
  pub at_most : Option ℕ
  pub least : LeastClaim
  pub most : Option Trap
  pub type_name : List ℕ
