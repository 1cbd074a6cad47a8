-- The result of reading bytes as a certificate.
use Rattle.std.specs.Prelude.{ℕ, List, Option, Result, Ok, Err, option_and_then, if◌then◌else◌}
use Rattle.std.specs.Option.{option_map_or, ok_or}
use Rattle.cn_cert.specs.Certificate.{Certificate, is_version}
use Rattle.cn_cert.specs.Document.{document_of}
use Rattle.cn_cert.specs.Draft.{draft_of}
use Rattle.cn_cert.specs.Faults.{fault_of}
use Rattle.cn_cert.specs.Ranges.{is_in_range}
use Rattle.cn_cert.specs.declared.fault.CertFault.{CertFault}
use Rattle.cn_cert.specs.declared.fault.CertFault.TheVariants.{WrongShape, Version, Range}

-- the certificate that the bytes spell, whatever its version and its numbers
abbrev pub draft_spelled : List ℕ → Option Certificate
draft_spelled bytes = option_and_then draft_of (document_of bytes)

-- the first fault of the bytes, or else the certificate that they spell
-- (bytes without a fault spell a certificate, so this `WrongShape` never occurs)
abbrev pub reading : List ℕ → Result Certificate CertFault
reading bytes = option_map_or Err (fault_of bytes) (ok_or (draft_spelled bytes) WrongShape)

-- the first fault of a draft, or else its certificate
abbrev pub draft_reading : Certificate → Result Certificate CertFault
draft_reading c =
    if is_version c.version then (if is_in_range c then Ok c else Err Range) else Err Version
