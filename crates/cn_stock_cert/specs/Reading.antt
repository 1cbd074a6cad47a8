-- The result of reading bytes as a certificate by stocks.
use Rattle.std.specs.Prelude.{◌≡◌, ℕ, List, [], ◌∷◌, Bool, true, false, not, Option, Some, is_none, codes, find}
use Rattle.std.specs.Option.{option_map_or}
use Rattle.serde_json.specs.Data.{Data, null, string}
use Rattle.serde_json.specs.Find.{get}
use Rattle.cn_cert.specs.CertificateText.{number_data, number_or_null}
use Rattle.cn_cert.specs.Document.{document_of}
use Rattle.cn_stock_cert.specs.Certificate.{StockCertificate}
use Rattle.cn_stock_cert.specs.Kinds.{has_keys, has_shape, has_version, is_in_range}
use Rattle.cn_stock_cert.specs.StockText.{lasting_data, most_data, stock_version, teams_data}
use Rattle.cn_stock_cert.specs.declared.certificate.StockClaim.{StockClaim}
use Rattle.cn_stock_cert.specs.declared.certificate.StockClaim.TheVariants.{Alone, Lasting, Witness}
use Rattle.cn_stock_cert.specs.declared.fault.StockCertFault.{StockCertFault}
use Rattle.cn_stock_cert.specs.declared.fault.StockCertFault.TheVariants.{NotJson, OutOfMemory, Range}
use Rattle.cn_stock_cert.specs.declared.fault.StockCertFault.TheVariants.{Version, WrongShape}

-- the object has this key alone, with this value
abbrev pub HasOne : List ℕ → Data → Data → Type 0
HasOne key value d = (has_keys 1 d ≡ true) × (get key d ≡ Some value)

-- the value is the claim's
abbrev pub SpellsLeast : Data → StockClaim → Type 0
SpellsLeast d Alone = d ≡ null
SpellsLeast d (Witness c) = HasOne (codes "witness") (teams_data c) d
SpellsLeast d (Lasting s) = HasOne (codes "lasting") (lasting_data s) d

-- the object has the six keys and no other, each with the value of the certificate
pub record Spells (d : Data) (c : StockCertificate) : Type 0 where
  pub keys : has_keys 6 d ≡ true
  pub at_least : get (codes "at_least") d ≡ Some (number_or_null c.at_least)
  pub at_most : get (codes "at_most") d ≡ Some (number_or_null c.at_most)
  pub least : (e : Data) × (get (codes "least") d ≡ Some e) × SpellsLeast e c.least
  pub most : get (codes "most") d ≡ Some (most_data c.most)
  pub type_name : get (codes "type") d ≡ Some (string c.type_name)
  pub version : get (codes "version") d ≡ Some (number_data stock_version)

-- whether the JSON value that bytes spell, if there is one, has a fault
abbrev pub holds : Option Data → StockCertFault → Bool
holds there NotJson = is_none there
holds there WrongShape = option_map_or (λ d. not (has_shape d)) there false
holds there Version = option_map_or (λ d. not (has_version d)) there false
holds there Range = option_map_or (λ d. not (is_in_range d)) there false
holds there OutOfMemory = false

-- the faults in the order of their numbers
abbrev pub faults : List StockCertFault
faults = NotJson ∷ WrongShape ∷ Version ∷ Range ∷ []

-- the first fault that the bytes have
abbrev pub fault_of : List ℕ → Option StockCertFault
fault_of bytes = find (holds (document_of bytes)) faults

-- the bytes spell the certificate
abbrev pub AreOf : List ℕ → StockCertificate → Type 0
AreOf bytes c = (d : Data) × (document_of bytes ≡ Some d) × Spells d c
