use Rattle.std.proofs.Common.{subst, IfOk}
use Rattle.std.specs.Prelude.{◌≡◌, string_bytes}
use Rattle.cn_cert.specs.Certificate.{Certificate}
use Rattle.cn_cert.specs.CertificateText.{certificate_text}
use Rattle.cn_find_text.proofs.text.text_of.Goals as goal

pub returns : goal.returns
returns c kept e =
    subst (λ (f : Certificate). IfOk c.write_with_entries.result (λ text. string_bytes text ≡ certificate_text (record f { collisions = kept })))
    c.in_ok-frame.ensures (c.write_with_entries.ensures kept e)
