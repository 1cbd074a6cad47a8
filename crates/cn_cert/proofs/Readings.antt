-- What reading comes to by what the bytes say as a certificate.
use Rattle.std.proofs.Common.{◌≡◌, ℕ, List, Option, Some, None, Bool, true, false, cond, not, is_none, Ok, Err, refl}
use Rattle.std.specs.Option.{option_map_or, ok_or}
use Rattle.std.specs.Prelude.{option_map, option_and_then}
use Rattle.serde_json.specs.Data.{Data}
use Rattle.cn_cert.specs.Certificate.{Certificate, is_version}
use Rattle.cn_cert.specs.Document.{document_of}
use Rattle.cn_cert.specs.Draft.{draft_of}
use Rattle.cn_cert.specs.Faults.{fault_of}
use Rattle.cn_cert.specs.Ranges.{is_in_range}
use Rattle.cn_cert.specs.Reading.{reading, draft_reading}
use Rattle.cn_cert.specs.declared.fault.CertFault.TheVariants.{NotJson, WrongShape, Version, Range}

by_tests : (c : Certificate) (version within : Bool)
    → option_map_or Err (cond (not version) (Some Version) (cond (not within) (Some Range) None)) (Ok c) ≡ cond version (cond within (Ok c) (Err Range)) (Err Version)
by_tests c true true = refl
by_tests c true false = refl
by_tests c false within = refl

pub reading_by_draft : (bytes : List ℕ)
    → reading bytes ≡ option_map_or (λ o. option_map_or draft_reading o (Err WrongShape)) (option_map draft_of (document_of bytes)) (Err NotJson)
unfolding fault_of
reading_by_draft bytes = of_document (document_of bytes) where
  of_draft : (o : Option Certificate)
      → option_map_or Err (cond (is_none o) (Some WrongShape) (cond (option_map_or (λ c. not (is_version c.version)) o false) (Some Version)
      (cond (option_map_or (λ c. not (is_in_range c)) o false) (Some Range) None))) (ok_or o WrongShape)
      ≡ option_map_or draft_reading o (Err WrongShape)
  of_draft None = refl
  of_draft (Some c) = by_tests c (is_version c.version) (is_in_range c)

  of_document : (o : Option Data)
      → option_map_or Err (cond (is_none o) (Some NotJson) (cond (option_map_or (λ d. is_none (draft_of d)) o false) (Some WrongShape)
      (cond (option_map_or (λ d. option_map_or (λ c. not (is_version c.version)) (draft_of d) false) o false) (Some Version)
      (cond (option_map_or (λ d. option_map_or (λ c. not (is_in_range c)) (draft_of d) false) o false) (Some Range) None)))) (ok_or (option_and_then draft_of o) WrongShape)
      ≡ option_map_or (λ o. option_map_or draft_reading o (Err WrongShape)) (option_map draft_of o) (Err NotJson)
  of_document None = refl
  of_document (Some d) = of_draft (draft_of d)
