use Rattle.std.proofs.Common.{◌≡◌, None, inl, inr, refl, sym, ap, ◌∙◌}
use Rattle.std.proofs.lemmas.Bool.{cases_Bool}
use Rattle.std.proofs.lemmas.Str.{IsUtf8-from_is_utf8, is_utf8-from_IsUtf8}
use Rattle.std.specs.Prelude.{if◌then◌else◌}
use Rattle.std.specs.Str.{is_utf8}
use Rattle.serde_json.specs.Read.{read}
use Rattle.cn_cert.specs.Document.{document_of}
use Rattle.cn_stock_cert.proofs.read.read_document.Goals as goal

pub returns-in_default-clause-err : goal.returns-in_default-clause-err
returns-in_default-clause-err c = inr (
  refl,
  elim (cases_Bool (is_utf8 c.args.bytes.now)) [
    | inl valid ↦ absurd (c.in_default.ensures.cases.0 (IsUtf8-from_is_utf8 _ valid))
    | inr other ↦ rw other
  ],
)

pub returns-in-Ok-from_str-clause-ok : goal.returns-in-Ok-from_str-clause-ok
returns-in-Ok-from_str-clause-ok c =
    let text : document_of c.args.bytes.now ≡ read c.args.bytes.now = ap (λ b. if b then read c.args.bytes.now else None) (is_utf8-from_IsUtf8 _ c.in-Ok.ensures.cases.1) in
    text ∙ ap read (sym c.in-Ok.ensures.cases.0) ∙ c.in-Ok-from_str.ensures.ok
