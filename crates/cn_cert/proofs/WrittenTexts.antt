-- The text of a certificate, part by part.
use Rattle.std.proofs.Common.{◌≡◌, ◌++◌, ◌∷◌, List, [], codes, decimal, true, false, refl, ℕ, ap, sym, ◌∙◌, append_assoc, arith, nat_le, leb-true}
use Rattle.std.specs.List.{list_all}
use Rattle.std.proofs.lemmas.Bool.{and_parts}
use Rattle.std.proofs.lemmas.Bool.Decides.{nat_tests}
use Rattle.json.specs.Print.{escape, escape_byte}
use Rattle.json.proofs.Printed.Strings.{escape_byte_plain}
use Rattle.serde_json.specs.Data.{string}
use Rattle.serde_json.specs.Written.{compact_text, members_text}
use Rattle.cn_table.specs.Names.{is_name_byte, is_name}
use Rattle.cn_cert.specs.Certificate.{Certificate}
use Rattle.cn_cert.specs.CertificateText.{certificate_text, collisions_data, number_or_null, other_members, witness_data}

pub head_text : (c : Certificate) → certificate_text c ≡ codes "{\"collisions\":" ++ (compact_text (collisions_data c.collisions) ++ members_text true (other_members c))
unfolding escape_byte
head_text c = refl

pub rest_text : (c : Certificate) → members_text true (other_members c)
    ≡ codes ",\"limit\":" ++ (decimal c.limit ++ (codes ",\"number\":" ++ (compact_text (number_or_null c.number) ++ (codes ",\"type\":" ++ (compact_text (string c.type_name)
    ++ (codes ",\"version\":" ++ (decimal c.version ++ (codes ",\"witness\":" ++ (compact_text (witness_data c.witness) ++ 125 ∷ [])))))))))
unfolding escape_byte
rest_text c = refl

-- one piece behind another
pub then_piece : (old p q x y : List ℕ) → x ≡ old ++ p → y ≡ x ++ q → y ≡ old ++ (p ++ q)
then_piece old p q x y e f = f ∙ ap (λ v. v ++ q) e ∙ append_assoc old p q

pub eleven : (a b c d e f g h i j k : List ℕ) → ((((((((((a ++ b) ++ c) ++ d) ++ e) ++ f) ++ g) ++ h) ++ i) ++ j) ++ k)
    ≡ a ++ (b ++ (c ++ (d ++ (e ++ (f ++ (g ++ (h ++ (i ++ (j ++ k)))))))))
eleven a b c d e f g h i j k = simp append_assoc

-- ---- a name has nothing to escape

other_byte : (b k : ℕ) → is_name_byte b ≡ true → is_name_byte k ≡ false → b ≡ k → ⊥
other_byte b k is other e = absurd (cc (is, other, e))

from_space : (b : ℕ) → is_name_byte b ≡ true → nat_le 32 b ≡ true
from_space b is = grind (arith, nat_tests)

name_byte : (b : ℕ) → is_name_byte b ≡ true → escape_byte b ≡ b ∷ []
name_byte b is = escape_byte_plain b (other_byte b 34 is refl) (other_byte b 92 is refl) (leb-true 32 b (from_space b is))

name_bytes : (text : List ℕ) → list_all is_name_byte text ≡ true → escape text ≡ text
name_bytes [] pass = refl
name_bytes (b ∷ bs) pass = let p = and_parts _ _ pass in rw (name_byte b p.0, name_bytes bs p.1)

pub name_text : (old text : List ℕ) → is_name text ≡ true → ((old ++ 34 ∷ []) ++ text) ++ 34 ∷ [] ≡ old ++ compact_text (string text)
name_text old text pass =
    append_assoc (old ++ 34 ∷ []) text (34 ∷ []) ∙ append_assoc old (34 ∷ []) (text ++ 34 ∷ [])
    ∙ ap (λ (t : List ℕ). old ++ 34 ∷ (t ++ 34 ∷ [])) (sym (name_bytes text (and_parts _ _ pass).1))
