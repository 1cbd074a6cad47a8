use Rattle.std.proofs.Common.{◌≡◌, ◌++◌, ap, ◌∙◌, string_bytes}
use Rattle.json.specs.Print.{print}
use Rattle.serde_json.proofs.Texts.{print-outline}
use Rattle.cn_json.proofs.json_text.JsonText.finish.Goals as goal

pub returns : goal.returns
returns c = λ d written.
    let bytes : string_bytes c.from_utf8_unchecked.result ≡ c.into_inner.result.items = cc in
    bytes ∙ (c.into_inner.ensures.items ∙ (ap (λ front. front ++ print c.self.inside.writer.tokens) c.self.invariant
    ∙ (ap print (c.self.view_is ∙ written) ∙ print-outline d)))
