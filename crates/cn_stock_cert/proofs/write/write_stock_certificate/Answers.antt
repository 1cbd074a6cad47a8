use Rattle.std.proofs.Common.{ap, ◌∙◌}
use Rattle.std.proofs.lemmas.Result.{IfOk-weaker}
use Rattle.serde_json.specs.Written.{compact_text, has_float}
use Rattle.cn_stock_cert.proofs.Plain.{certificate_plain}
use Rattle.cn_stock_cert.proofs.write.write_stock_certificate.Goals as goal

pub returns : goal.returns
returns c =
    let value = c.in_ok-certificate_value.ensures in
    IfOk-weaker c.to_string.result _ _ (λ s text. text (ap has_float value ∙ certificate_plain c.args.certificate.now) ∙ ap compact_text value)
    c.to_string.ensures.text
