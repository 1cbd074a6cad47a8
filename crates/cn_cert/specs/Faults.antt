-- The four faults that bytes can have as a certificate.
use Rattle.std.specs.Prelude.{ℕ, List, [], ◌∷◌, Bool, false, not, Option, is_none, find}
use Rattle.std.specs.Option.{option_map_or}
use Rattle.serde_json.specs.Data.{Data}
use Rattle.cn_cert.specs.Certificate.{Certificate, is_version}
use Rattle.cn_cert.specs.Document.{document_of}
use Rattle.cn_cert.specs.Draft.{draft_of}
use Rattle.cn_cert.specs.Ranges.{is_in_range}
use Rattle.cn_cert.specs.declared.fault.CertFault.{CertFault}
use Rattle.cn_cert.specs.declared.fault.CertFault.TheVariants.{NotJson, WrongShape, Version, Range}
use Rattle.cn_cert.specs.declared.fault.CertFault.TheVariants.{OutOfMemory}

-- the bytes spell a JSON value, or the draft of a certificate, that passes the test
abbrev pub in_document : (Data → Bool) → List ℕ → Bool
in_document test bytes = option_map_or test (document_of bytes) false

abbrev pub in_draft : (Certificate → Bool) → List ℕ → Bool
in_draft test bytes = in_document (λ d. option_map_or test (draft_of d) false) bytes

-- whether the bytes have a fault
abbrev pub holds : List ℕ → CertFault → Bool
holds bytes NotJson = is_none (document_of bytes)
holds bytes WrongShape = in_document (λ d. is_none (draft_of d)) bytes
holds bytes Version = in_draft (λ c. not (is_version c.version)) bytes
holds bytes Range = in_draft (λ c. not (is_in_range c)) bytes
holds bytes OutOfMemory = false

-- the faults in the order of their numbers
abbrev pub faults : List CertFault
faults = NotJson ∷ WrongShape ∷ Version ∷ Range ∷ []

-- the first fault that the bytes have
unfoldable pub fault_of : List ℕ → Option CertFault
fault_of bytes = find (holds bytes) faults
