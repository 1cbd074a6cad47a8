-- The result of reading bytes as a certificate of a plan tree.
use Rattle.std.specs.Prelude.{◌≡◌, ℕ, List, [], ◌∷◌, Bool, true, false, not, Option, Some, is_none, codes, find}
use Rattle.std.specs.Option.{option_map_or}
use Rattle.serde_json.specs.Data.{Data, string}
use Rattle.serde_json.specs.Find.{get}
use Rattle.cn_cert.specs.CertificateText.{number_data}
use Rattle.cn_cert.specs.Document.{document_of}
use Rattle.cn_tree_cert.specs.Certificate.{TreeCertificate}
use Rattle.cn_tree_cert.specs.Kinds.{has_keys, has_shape, has_version, is_in_range}
use Rattle.cn_tree_cert.specs.TreeText.{each_data, node_data, tree_version}
use Rattle.cn_tree_cert.specs.declared.fault.TreeCertFault.{TreeCertFault}
use Rattle.cn_tree_cert.specs.declared.fault.TreeCertFault.TheVariants.{NotJson, OutOfMemory, Range}
use Rattle.cn_tree_cert.specs.declared.fault.TreeCertFault.TheVariants.{Version, WrongShape}

-- the object has the five keys and no other, each with the value of the certificate
pub record Spells (d : Data) (c : TreeCertificate) : Type 0 where
  pub keys : has_keys 5 d ≡ true
  pub nodes : get (codes "nodes") d ≡ Some (each_data node_data c.nodes)
  pub processes : get (codes "processes") d ≡ Some (number_data c.processes)
  pub steps : get (codes "steps") d ≡ Some (number_data c.steps)
  pub type_name : get (codes "type") d ≡ Some (string c.type_name)
  pub version : get (codes "version") d ≡ Some (number_data tree_version)

-- whether the JSON value that bytes spell, if there is one, has a fault
abbrev pub holds : Option Data → TreeCertFault → Bool
holds there NotJson = is_none there
holds there WrongShape = option_map_or (λ d. not (has_shape d)) there false
holds there Version = option_map_or (λ d. not (has_version d)) there false
holds there Range = option_map_or (λ d. not (is_in_range d)) there false
holds there OutOfMemory = false

-- the faults in the order of their numbers
abbrev pub faults : List TreeCertFault
faults = NotJson ∷ WrongShape ∷ Version ∷ Range ∷ []

-- the first fault that the bytes have
abbrev pub fault_of : List ℕ → Option TreeCertFault
fault_of bytes = find (holds (document_of bytes)) faults

-- the bytes spell the certificate
abbrev pub AreOf : List ℕ → TreeCertificate → Type 0
AreOf bytes c = (d : Data) × (document_of bytes ≡ Some d) × Spells d c
