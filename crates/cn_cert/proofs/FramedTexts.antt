-- A text around the entries of a certificate.
use Rattle.std.proofs.Common.{◌≡◌, ℕ, ◌⊎◌, inl, inr, List, [], ◌∷◌, ◌++◌, codes, true, refl, ap, sym, ◌∙◌, append_assoc}
use Rattle.std.specs.List.{list_all}
use Rattle.std.proofs.lemmas.Bool.{and_parts}
use Rattle.serde_json.specs.Written.{compact_text, members_text}
use Rattle.cn_table.specs.Names.{is_name}
use Rattle.cn_table.specs.Texts.{line_feed}
use Rattle.cn_choice.specs.Collisions.{Collision}
use Rattle.cn_cert.specs.Certificate.{Certificate, is_version}
use Rattle.cn_cert.specs.CertificateText.{certificate_text, collisions_data, other_members}
use Rattle.cn_cert.specs.Frames.{AreEntries, IsReadWith}
use Rattle.cn_cert.specs.Ranges.{is_byte, is_collision_in_range, is_in_range, is_number_in_range, is_witness_in_range}
use Rattle.cn_cert.specs.Reading.{reading}
use Rattle.cn_cert.proofs.WrittenCertificates.{written_is_read_back, line_is_read_back}
use Rattle.cn_cert.proofs.WrittenTexts.{head_text}

-- the certificate with other entries
abbrev pub with_entries : Certificate → List Collision → Certificate
with_entries c entries = record c { collisions = entries }

-- the text of a certificate around its entries
pub framed_text : (c : Certificate) (entries : List Collision) (text rest : List ℕ) → AreEntries text entries → rest ≡ members_text true (other_members c)
    → codes "{\"collisions\":[" ++ (text ++ 93 ∷ rest) ≡ certificate_text (with_entries c entries)
framed_text c entries text rest are same =
    let listed : List ℕ = compact_text (collisions_data entries) in
    let inner : 91 ∷ (text ++ 93 ∷ rest) ≡ listed ++ members_text true (other_members c) =
    ap (λ (v : List ℕ). 91 ∷ v) (sym (append_assoc text (93 ∷ []) rest)) ∙ (ap (λ (v : List ℕ). v ++ rest) are ∙ ap (λ (v : List ℕ). listed ++ v) same) in
    ap (λ (v : List ℕ). codes "{\"collisions\":" ++ v) inner ∙ sym (head_text (with_entries c entries))

in_range_with : (c : Certificate) (entries : List Collision) → is_in_range c ≡ true → list_all is_collision_in_range entries ≡ true → is_in_range (with_entries c entries) ≡ true
in_range_with c entries pass fit =
    let p = and_parts _ _ pass in
    let q = and_parts _ _ p.1 in
    let r = and_parts _ _ q.1 in
    let s = and_parts _ _ r.1 in
    let limit : is_byte c.limit ≡ true = p.0 in
    let number : is_number_in_range c.number ≡ true = q.0 in
    let witness : is_witness_in_range c.witness ≡ true = r.0 in
    let name : is_name c.type_name ≡ true = s.1 in
    rw (limit, number, witness, fit, name) refl

-- a text around entries is read as the certificate with these entries
pub framed_is_read : (c : Certificate) (bytes line text rest : List ℕ) → is_version c.version ≡ true → is_in_range c ≡ true → (bytes ≡ line) ⊎ (bytes ≡ line ++ line_feed)
    → line ≡ codes "{\"collisions\":[" ++ (text ++ 93 ∷ rest) → rest ≡ members_text true (other_members c) → IsReadWith bytes c text
framed_is_read c bytes line text rest version pass ended framed same = λ entries are fit.
    let x = with_entries c entries in
    let whole : line ≡ certificate_text x = framed ∙ framed_text c entries text rest are same in
    let ranges = in_range_with c entries pass fit in
    elim ended [
      | inl plain ↦ ap reading (plain ∙ whole) ∙ written_is_read_back x version ranges
      | inr fed ↦ ap reading (fed ∙ ap (λ (t : List ℕ). t ++ line_feed) whole) ∙ line_is_read_back x version ranges
    ]
