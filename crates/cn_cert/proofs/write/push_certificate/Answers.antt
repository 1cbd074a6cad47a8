use Rattle.std.proofs.Common.{◌≡◌, ◌++◌, List, ℕ, refl, sym, ap, ◌∙◌, arith, append_assoc, codes, true}
use Rattle.serde_json.specs.Written.{compact_text, members_text}
use Rattle.cn_cert.specs.CertificateText.{certificate_text, collisions_data, other_members}
use Rattle.cn_cert.proofs.WrittenTexts.{head_text, then_piece}
use Rattle.cn_cert.proofs.write.push_certificate.Goals as goal

pub returns : goal.returns
returns g c =
    let written = c.args.certificate.now in
    let text = g.S.Sink.text in
    let old = text c.args.out.now in
    let head = codes "{\"collisions\":" in
    let collisions = compact_text (collisions_data written.collisions) in
    let rest = members_text true (other_members written) in
    let begun : text c.push_str.new.self ≡ old ++ head = c.in_ok-push_str.ensures in
    let listed : text c.push_collisions.new.out ≡ text c.push_str.new.self ++ collisions = grind arith in
    let both = then_piece old head collisions _ _ begun listed in
    let all : text c.push_collisions.new.out ++ rest ≡ old ++ certificate_text written =
    then_piece old (head ++ collisions) rest _ _ both refl ∙ ap (λ (v : List ℕ). old ++ v) (append_assoc head collisions rest ∙ sym (head_text written)) in
    grind (arith, all, c.push_rest.ensures)
