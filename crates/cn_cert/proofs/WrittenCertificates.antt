-- A certificate within the ranges is read back from its text.
use Rattle.std.proofs.Common.{◌≡◌, ◌==◌, ◌||◌, ℕ, suc, ◌-◌, ◌^◌, ◌<◌, ◌≤◌, List, [], ◌∷◌, ◌++◌, Bool, true, false, Option, Some, None, Ok, codes, IsUtf8, nat_le, nat_lt, refl, arith, leb-true}
use Rattle.std.specs.List.{list_all}
use Rattle.std.proofs.lemmas.Bool.{and_parts, eqb-true}
use Rattle.std.proofs.lemmas.Bool.Decides.{nat_tests}
use Rattle.std.proofs.lemmas.Str.{IsUtf8-append, is_utf8-from_IsUtf8}
use Rattle.json.proofs.Printed.Utf8.{are_ascii, IsUtf8-are_ascii}
use Rattle.serde_json.specs.Read.{read}
use Rattle.cn_table.specs.Names.{is_name_byte, is_name}
use Rattle.cn_table.specs.declared.limits.TheConstants.{MOST_STATES}
use Rattle.cn_choice.specs.Canonical.{Choice}
use Rattle.cn_choice.specs.Collisions.{Collision}
use Rattle.cn_cert.specs.Certificate.{Certificate, is_version}
use Rattle.cn_cert.specs.CertificateText.{number_data, numbers_data, number_or_null, choice_data, witness_data, collision_data, collisions_data, certificate_data, certificate_text}
use Rattle.cn_cert.specs.Faults.{fault_of}
use Rattle.cn_cert.specs.Ranges.{is_byte, is_number_in_range, is_short, is_choice_in_range, is_witness_in_range, is_collision_in_range, is_in_range}
use Rattle.cn_cert.specs.Reading.{reading}
use Rattle.cn_cert.proofs.PrintedValues.{IsReadBack, HoldReadBack, null_back, number_back, string_back, array_back, no_more, one_more, list_back, no_key, one_key, read_back, line_read_back}
use Rattle.cn_cert.proofs.SpelledCertificates as spelled
use Rattle.cn_choice.specs.declared.limits.TheConstants.{MOST_PROCESSES}

-- ---- the parts, each within its range

number_below : (most bound n : ℕ) → bound ≤ 255 → nat_le n bound ≡ true → IsReadBack most (number_data n)
number_below most bound n low pass = let below : n ≤ bound = leb-true n bound pass in number_back most n (omega arith)

byte : (most n : ℕ) → is_byte n ≡ true → IsReadBack most (number_data n)
byte most n pass = number_below most 255 n (omega arith) pass

version_back : (most n : ℕ) → is_version n ≡ true → IsReadBack most (number_data n)
version_back most n is = number_back most n (small (n == 1) (n == 2) refl refl is)
  where
    small : (one two : Bool) → (n == 1) ≡ one → (n == 2) ≡ two → (one || two) ≡ true → n < 2 ^ 64
    small true two e f g = omega (arith, eqb-true n 1 e)
    small false true e f g = omega (arith, eqb-true n 2 f)
    small false false e f g = absurd (cc g)

numbers : (most : ℕ) (ns : List ℕ) → is_short ns ≡ true → IsReadBack (suc most) (numbers_data ns)
numbers most ns pass = array_back most _ (list_back most (λ n. nat_le n (MOST_PROCESSES - 1)) number_data (λ n. number_below most (MOST_PROCESSES - 1) n (omega arith)) ns (and_parts _ _ pass).1)

number : (most : ℕ) (n : Option ℕ) → is_number_in_range n ≡ true → IsReadBack most (number_or_null n)
number most None pass = null_back most
number most (Some n) pass = byte most n pass

choice : (most : ℕ) (c : Choice) → is_choice_in_range c ≡ true → IsReadBack (suc (suc most)) (choice_data c)
choice most c pass =
    let p = and_parts _ _ pass in
    let q = and_parts _ _ p.1 in
    array_back (suc most) _ (one_more _ _ _ (number_below _ (MOST_STATES - 1) c.state (omega arith) p.0) (one_more _ _ _ (numbers most c.a q.0) (one_more _ _ _ (numbers most c.b q.1) (no_more _))))

witness : (most : ℕ) (w : Option Choice) → is_witness_in_range w ≡ true → IsReadBack (suc (suc most)) (witness_data w)
witness most None pass = null_back _
witness most (Some c) pass = choice most c pass

collision : (most : ℕ) (x : Collision) → is_collision_in_range x ≡ true → IsReadBack (suc (suc most)) (collision_data x)
collision most x pass =
    let p = and_parts _ _ pass in
    let q = and_parts _ _ p.0 in
    let teams = and_parts _ _ q.1 in
    let r = and_parts _ _ p.1 in
    let orders = and_parts _ _ r.1 in
    array_back (suc most) _
    (one_more _ _ _ (number_below _ (MOST_STATES - 1) x.choice.state (omega arith) q.0) (one_more _ _ _ (numbers most x.choice.a teams.0) (one_more _ _ _ (numbers most x.choice.b teams.1)
    (one_more _ _ _ (number_below _ (MOST_PROCESSES - 1) x.process (omega arith) r.0) (one_more _ _ _ (numbers most x.alpha orders.0) (one_more _ _ _ (numbers most x.beta orders.1) (no_more _)))))))

name_byte : (b : ℕ) → is_name_byte b ≡ true → nat_lt b 128 ≡ true
name_byte b pass = grind (arith, nat_tests)

name_bytes : (text : List ℕ) → list_all is_name_byte text ≡ true → are_ascii text ≡ true
name_bytes [] pass = refl
name_bytes (b ∷ bs) pass = let p = and_parts _ _ pass in rw (name_byte b p.0, name_bytes bs p.1)

name : (text : List ℕ) → is_name text ≡ true → IsUtf8 text
name text pass = IsUtf8-are_ascii text (name_bytes text (and_parts _ _ pass).1)

collisions : (xs : List Collision) → list_all is_collision_in_range xs ≡ true → IsReadBack 3 (collisions_data xs)
collisions xs pass = array_back 2 _ (list_back 2 is_collision_in_range collision_data (collision 0) xs pass)

-- ---- the whole

-- the six members, one by one
members : (c : Certificate) → IsReadBack 3 (collisions_data c.collisions) → IsReadBack 3 (number_data c.limit) → IsReadBack 3 (number_or_null c.number) → IsUtf8 c.type_name
    → IsReadBack 3 (number_data c.version) → IsReadBack 3 (witness_data c.witness) → IsReadBack 4 (certificate_data c)
members c collisions limit number type_name version witness =
    let held : HoldReadBack 3 _ =
    one_key 3 (codes "collisions") _ _ (IsUtf8-are_ascii _ refl) collisions
    (one_key 3 (codes "limit") _ _ (IsUtf8-are_ascii _ refl) limit
    (one_key 3 (codes "number") _ _ (IsUtf8-are_ascii _ refl) number
    (one_key 3 (codes "type") _ _ (IsUtf8-are_ascii _ refl) (string_back 3 c.type_name type_name)
    (one_key 3 (codes "version") _ _ (IsUtf8-are_ascii _ refl) version
    (one_key 3 (codes "witness") _ _ (IsUtf8-are_ascii _ refl) witness (no_key 3)))))) in
    record {
      numbers = held.numbers;
      same = rw (collisions.same, limit.same, number.same, version.same, witness.same);
      shallow = omega (arith, held.shallow);
      utf8 = IsUtf8-append (123 ∷ []) _ (IsUtf8-are_ascii (123 ∷ []) refl) (held.utf8 false);
    }

certificate : (c : Certificate) → is_version c.version ≡ true → is_in_range c ≡ true → IsReadBack 4 (certificate_data c)
certificate c version pass =
    let p = and_parts _ _ pass in
    let q = and_parts _ _ p.1 in
    let r = and_parts _ _ q.1 in
    let s = and_parts _ _ r.1 in
    members c (collisions c.collisions s.0) (byte 3 c.limit p.0) (number 3 c.number q.0) (name c.type_name s.1) (version_back 3 c.version version) (witness 1 c.witness r.0)

-- a text that spells the value of a certificate spells the certificate
spells : (text : List ℕ) (c : Certificate) → IsUtf8 text → read text ≡ Some (certificate_data c) → is_version c.version ≡ true → is_in_range c ≡ true → reading text ≡ Ok c
unfolding fault_of
spells text c utf8 is version fits = rw (is_utf8-from_IsUtf8 text utf8, is, spelled.draft c, version, fits)

pub written_is_read_back : (c : Certificate) → is_version c.version ≡ true → is_in_range c ≡ true → reading (certificate_text c) ≡ Ok c
written_is_read_back c version fits =
    let back = certificate c version fits in
    spells (certificate_text c) c back.utf8 (read_back 4 (certificate_data c) back (omega arith)) version fits

-- the same with a line feed behind the text
pub line_is_read_back : (c : Certificate) → is_version c.version ≡ true → is_in_range c ≡ true → reading (certificate_text c ++ 10 ∷ []) ≡ Ok c
line_is_read_back c version fits =
    let back = certificate c version fits in
    let utf8 = IsUtf8-append (certificate_text c) (10 ∷ []) back.utf8 (IsUtf8-are_ascii (10 ∷ []) refl) in
    spells (certificate_text c ++ 10 ∷ []) c utf8 (line_read_back 4 (certificate_data c) back (omega arith)) version fits
