use Rattle.std.proofs.Common.{◌≡◌, ◌++◌, ◌∷◌, List, ℕ, ap, append_assoc, codes, refl, true, ◌∙◌}
use Rattle.std.specs.Prelude.{string_bytes}
use Rattle.serde_json.specs.Written.{members_text}
use Rattle.cn_cert.specs.CertificateText.{certificate_text, other_members}
use Rattle.cn_cert.proofs.FramedTexts.{framed_text, with_entries}
use Rattle.cn_cert.proofs.entries.write_with_entries.Goals as goal

pub returns : goal.returns
returns c kept e =
    let head = codes "{\"collisions\":[" in
    let body : List ℕ = string_bytes c.array_body-text.result in
    let rest : List ℕ = members_text true (other_members c.args.certificate.now) in
    let framed : head ++ (body ++ 93 ∷ rest) ≡ certificate_text (with_entries c.args.certificate.now kept) = framed_text c.args.certificate.now kept body rest (c.array_body-text.ensures kept e) refl in
    let listed : string_bytes c.insert_str.new.self ≡ head ++ body = c.in_ok-insert_str.ensures.bytes in
    let closed : string_bytes c.push.new.self ≡ (head ++ body) ++ codes "]" = c.in_ok-push.ensures ∙ ap (λ (v : List ℕ). v ++ codes "]") listed in
    let whole : string_bytes c.push_rest.new.out ≡ head ++ (body ++ 93 ∷ rest) = c.in_ok-push_rest.ensures
    ∙ (ap (λ (v : List ℕ). v ++ rest) closed ∙ (append_assoc (head ++ body) (codes "]") rest ∙ append_assoc head body (93 ∷ rest))) in
    whole ∙ framed
