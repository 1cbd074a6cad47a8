-- No number of a certificate is a float.
use Rattle.std.proofs.Common.{◌≡◌, ℕ, List, [], ◌∷◌, Bool, false, ◌||◌, Option, Some, None, map, refl}
use Rattle.serde_json.specs.Data.{Data}
use Rattle.serde_json.specs.View.{items_of}
use Rattle.serde_json.specs.Written.{has_float, items_have_float}
use Rattle.cn_choice.specs.Canonical.{Choice}
use Rattle.cn_cert.specs.CertificateText.{number_data, number_or_null}
use Rattle.cn_joins.specs.Joins.{Join}
use Rattle.cn_stock_cert.specs.Certificate.{StockCertificate}
use Rattle.cn_stock_cert.specs.LastingSets.{LastingSets}
use Rattle.cn_stock_cert.specs.StockText.{each_number, join_data, lasting_data, least_data, most_data, stock_data, teams_data}
use Rattle.cn_stock_cert.specs.declared.certificate.StockClaim.{StockClaim}
use Rattle.cn_stock_cert.specs.declared.certificate.StockClaim.TheVariants as claim

either : {x y : Bool} → x ≡ false → y ≡ false → x || y ≡ false
either p q = rw (p, q)

each_plain : {X : Type 0} (json : X → Data) → ((x : X) → has_float (json x) ≡ false) → (xs : List X)
    → items_have_float (items_of (map json xs)) ≡ false
each_plain json plain [] = refl
each_plain json plain (x ∷ xs) = either (plain x) (each_plain json plain xs)

numbers_plain : (ns : List ℕ) → has_float (each_number ns) ≡ false
numbers_plain ns = each_plain number_data (λ n. refl) ns

teams_plain : (c : Choice) → has_float (teams_data c) ≡ false
teams_plain c = either (numbers_plain c.a) (either (numbers_plain c.b) refl)

lasting_plain : (s : LastingSets) → has_float (lasting_data s) ≡ false
lasting_plain s = either (numbers_plain s.alone) (either (numbers_plain s.behind) (either (numbers_plain s.first) refl))

join_plain : (j : Join) → has_float (join_data j) ≡ false
join_plain j = either (numbers_plain j.first.word) (either (numbers_plain j.second.word) refl)

bound_plain : (n : Option ℕ) → has_float (number_or_null n) ≡ false
bound_plain None = refl
bound_plain (Some n) = refl

least_plain : (l : StockClaim) → has_float (least_data l) ≡ false
least_plain claim.Alone = refl
least_plain (claim.Witness c) = either (teams_plain c) refl
least_plain (claim.Lasting s) = either (lasting_plain s) refl

most_plain : (m : Option (List Join)) → has_float (most_data m) ≡ false
most_plain None = refl
most_plain (Some joins) = each_plain join_data join_plain joins

pub certificate_plain : (c : StockCertificate) → has_float (stock_data c) ≡ false
certificate_plain c =
    either (bound_plain c.at_least) (either (bound_plain c.at_most) (either (least_plain c.least) (either (most_plain c.most) refl)))
