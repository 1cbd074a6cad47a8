use Rattle.std.proofs.Common.{◌≡◌, ◌++◌, ◌∷◌, [], inl, inr, ap, ◌∙◌, arith}
use Rattle.cn_cert.specs.CertificateText.{certificate_text}
use Rattle.cn_cert.specs.Reading.{reading}
use Rattle.cn_cert.proofs.WrittenCertificates.{written_is_read_back, line_is_read_back}
use Rattle.cn_cert.proofs.guess.guessed_certificate.Goals as goal

pub returns-then-is_text_of-clause-certificate : goal.returns-then-is_text_of-clause-certificate
returns-then-is_text_of-clause-certificate c =
    let x = c.in_ok-guess.guess in
    let text : c.without_line_feed-line.result.now ≡ certificate_text x = grind arith in
    let ranges = c.in_ok-guess.ensures in
    elim c.without_line_feed-line.ensures [
      | inl same ↦ ap reading (same ∙ text) ∙ written_is_read_back x ranges.0 ranges.1
      | inr line ↦ ap reading (line ∙ ap (λ t. t ++ 10 ∷ []) text) ∙ line_is_read_back x ranges.0 ranges.1
    ]
