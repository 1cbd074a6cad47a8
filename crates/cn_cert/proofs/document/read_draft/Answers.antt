use Rattle.std.proofs.Common.{◌≡◌, Some, None, IfOk, option_map, inl, inr, refl, sym, ap, ◌∙◌, subst}
use Rattle.std.proofs.lemmas.Bool.{cases_Bool}
use Rattle.std.proofs.lemmas.Str.{IsUtf8-from_is_utf8, is_utf8-from_IsUtf8}
use Rattle.std.specs.Prelude.{if◌then◌else◌}
use Rattle.std.specs.Str.{is_utf8}
use Rattle.serde_json.specs.Read.{read}
use Rattle.cn_cert.specs.Document.{document_of}
use Rattle.cn_cert.specs.Draft.{draft_of}
use Rattle.cn_cert.proofs.document.read_draft.Goals as goal

pub returns-in_default-clause-err : goal.returns-in_default-clause-err
returns-in_default-clause-err c = inr (
  refl,
  elim (cases_Bool (is_utf8 c.args.bytes.now)) [
    | inl valid ↦ absurd (c.in_default.ensures.cases.0 (IsUtf8-from_is_utf8 _ valid))
    | inr other ↦ rw other
  ],
)

pub returns-clause-ok : goal.returns-clause-ok
returns-clause-ok c =
    let text : document_of c.args.bytes.now ≡ read c.args.bytes.now = ap (λ b. if b then read c.args.bytes.now else None) (is_utf8-from_IsUtf8 _ c.in-Ok.ensures.cases.1) in
    let same = text ∙ ap read (sym c.in-Ok.ensures.cases.0) in
    subst (λ there. IfOk c.draft_of_text.result (λ o. option_map draft_of there ≡ Some o)) (sym same) c.draft_of_text.ensures.ok
