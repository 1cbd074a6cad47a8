use Rattle.std.proofs.Common.{◌++◌, ap, ◌∙◌}
use Rattle.cn_cert.specs.CertificateText.{certificate_text}
use Rattle.cn_cert.specs.Reading.{reading}
use Rattle.cn_cert.proofs.write.write_certificate.Goals as goal

whole : goal.returns-clause-text
whole c = c.in_ok-push_certificate.ensures ∙ ap (λ xs. xs ++ certificate_text c.args.certificate.now) c.new-out.ensures.bytes

pub returns-clause-text : goal.returns-clause-text
returns-clause-text c = whole c

pub returns-clause-read_back : goal.returns-clause-read_back
returns-clause-read_back c = λ version fits. ap reading (whole c) ∙ c.written_is_read_back.ensures c.args.certificate.now version fits
