use Rattle.std.proofs.Common.{◌≡◌, ◌++◌, ◌∷◌, [], List, ℕ, true, decimal, sym, ap, ◌∙◌, arith, append_assoc, codes}
use Rattle.serde_json.specs.Data.{string}
use Rattle.serde_json.specs.Written.{compact_text, members_text}
use Rattle.cn_cert.specs.CertificateText.{number_or_null, other_members, witness_data}
use Rattle.cn_cert.proofs.WrittenTexts.{rest_text, then_piece, eleven}
use Rattle.cn_cert.proofs.write.push_rest.Goals as goal

pub returns : goal.returns
returns g c =
    let text = g.S.Sink.text in
    let written = c.args.certificate.now in
    let old = text c.args.out.now in
    let a = codes ",\"limit\":" in
    let b = decimal written.limit in
    let d = codes ",\"number\":" in
    let e = compact_text (number_or_null written.number) in
    let f = codes ",\"type\":" in
    let g = compact_text (string written.type_name) in
    let h = codes ",\"version\":" in
    let i = decimal written.version in
    let j = codes ",\"witness\":" in
    let k = compact_text (witness_data written.witness) in
    let t1 : text c.push_str.new.self ≡ old ++ a = c.in_ok-push_str.ensures in
    let s2 : text c.push_number.new.out ≡ text c.push_str.new.self ++ b = grind arith in
    let t2 = then_piece old a b _ _ t1 s2 in
    let t3 = then_piece old (a ++ b) d _ _ t2 c.in_ok-push_str-2.ensures in
    let s4 : text c.push_number_or_null.new.out ≡ text c.push_str-2.new.self ++ e = grind arith in
    let t4 = then_piece old ((a ++ b) ++ d) e _ _ t3 s4 in
    let t5 = then_piece old (((a ++ b) ++ d) ++ e) f _ _ t4 c.in_ok-push_str-3.ensures in
    let s6 : text c.push_name.new.out ≡ text c.push_str-3.new.self ++ g = grind arith in
    let t6 = then_piece old ((((a ++ b) ++ d) ++ e) ++ f) g _ _ t5 s6 in
    let t7 = then_piece old (((((a ++ b) ++ d) ++ e) ++ f) ++ g) h _ _ t6 c.in_ok-push_str-4.ensures in
    let s8 : text c.push_number-2.new.out ≡ text c.push_str-4.new.self ++ i = grind arith in
    let t8 = then_piece old ((((((a ++ b) ++ d) ++ e) ++ f) ++ g) ++ h) i _ _ t7 s8 in
    let t9 = then_piece old (((((((a ++ b) ++ d) ++ e) ++ f) ++ g) ++ h) ++ i) j _ _ t8 c.in_ok-push_str-5.ensures in
    let s10 : text c.push_witness.new.out ≡ text c.push_str-5.new.self ++ k = grind arith in
    let t10 = then_piece old ((((((((a ++ b) ++ d) ++ e) ++ f) ++ g) ++ h) ++ i) ++ j) k _ _ t9 s10 in
    let all : text c.push_witness.new.out ++ (125 ∷ []) ≡ old ++ members_text true (other_members written) =
    ap (λ (v : List ℕ). v ++ (125 ∷ [])) t10 ∙ append_assoc old (((((((((a ++ b) ++ d) ++ e) ++ f) ++ g) ++ h) ++ i) ++ j) ++ k) (125 ∷ [])
    ∙ ap (λ (v : List ℕ). old ++ v) (eleven a b d e f g h i j k (125 ∷ []) ∙ sym (rest_text written)) in
    grind (arith, all, c.push.ensures)
