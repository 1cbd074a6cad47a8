-- A certificate within its ranges is read back from its text.
use Rattle.std.proofs.Common.{◌≡◌, ◌&&◌, ℕ, zero, suc, ◌<◌, ◌≤◌, List, [], ◌∷◌, ◌++◌, Bool, true, false, Some, None, codes, nat_lt, IsUtf8, true≢false, get_or, map, refl, sym, ap, ◌∙◌, subst, arith, leb-true}
use Rattle.std.specs.List.{list_all}
use Rattle.std.proofs.lemmas.Bool.{and_parts}
use Rattle.std.proofs.lemmas.Bool.Decides.{nat_tests}
use Rattle.std.proofs.lemmas.Option.{same_Some}
use Rattle.std.proofs.lemmas.Str.{IsUtf8-append, IsUtf8-from_ascii, is_utf8-from_IsUtf8}
use Rattle.json.proofs.Printed.Utf8.{IsUtf8-are_ascii}
use Rattle.serde_json.specs.Data.{Data, null, boolean, number, unsigned, negative, float, string, array, object, Items, no_items, item}
use Rattle.serde_json.specs.View.{items_of}
use Rattle.cn_table.specs.Names.{is_name_byte, is_name}
use Rattle.cn_table.specs.declared.elements.Operation.{Operation}
use Rattle.cn_meetings.specs.declared.sight.Sight.{Sight}
use Rattle.cn_meetings.specs.declared.sight.Sight.TheVariants.{Nothing, Response, State}
use Rattle.cn_cert.specs.CertificateText.{number_data}
use Rattle.cn_cert.specs.Document.{document_of, list_of}
use Rattle.cn_cert.proofs.PrintedValues.{AreReadBack, HoldReadBack, IsReadBack, array_back, line_read_back, no_key, no_more, number_back, one_key, one_more, read_back, string_back}
use Rattle.cn_tree_cert.specs.Certificate.{TreeCertificate, TreeNode}
use Rattle.cn_tree_cert.specs.Kinds.{any_number, are_node_parts, greatest, has_shape, is_array, is_in_range, is_node, is_number, is_sight}
use Rattle.cn_tree_cert.specs.Reading.{AreOf, Spells, fault_of}
use Rattle.cn_tree_cert.specs.TreeText.{each_data, node_data, operation_data, sight_data, tree_certificate_data, tree_certificate_text}

no : {X : Type 0} → false ≡ true → X
no e = absurd (true≢false (sym e))

both : {x y : Bool} → x ≡ true → y ≡ true → (x && y) ≡ true
both p q = rw (p, q)

-- ---- texts of bytes below 128

ascii : (text : List ℕ) → list_all (λ b. nat_lt b 128) text ≡ true → (i : ℕ) → get_or text i 0 < 128
ascii [] pass i = omega arith
ascii (b ∷ bs) pass zero = grind (arith, nat_tests)
ascii (b ∷ bs) pass (suc i) = ascii bs (and_parts _ _ pass).1 i

plain : (text : List ℕ) → list_all (λ b. nat_lt b 128) text ≡ true → IsUtf8 text
plain text pass = IsUtf8-from_ascii text (ascii text pass)

name_byte : (b : ℕ) → is_name_byte b ≡ true → nat_lt b 128 ≡ true
name_byte b pass = grind (arith, nat_tests)

name_bytes : (text : List ℕ) → list_all is_name_byte text ≡ true → list_all (λ b. nat_lt b 128) text ≡ true
name_bytes [] pass = refl
name_bytes (b ∷ bs) pass = let p = and_parts _ _ pass in both (name_byte b p.0) (name_bytes bs p.1)

name_utf8 : (text : List ℕ) → is_name text ≡ true → IsUtf8 text
name_utf8 text pass = plain text (name_bytes text (and_parts _ _ pass).1)

-- ---- what passes a test with the greatest number of a certificate is read back, and passes it with any

-- a kind of values, with the greatest number and with any
abbrev Fits : ℕ → (Data → Bool) → (Data → Bool) → Type 0
Fits most kind loose = (d : Data) → kind d ≡ true → IsReadBack most d × (loose d ≡ true)

number_fits : (most : ℕ) → Fits most (is_number greatest) (is_number any_number)
number_fits most null e = no e
number_fits most (boolean b) e = no e
number_fits most (number (unsigned n)) e =
    let few : n ≤ 255 = leb-true n 255 e in
    (number_back most n (omega (arith, few)), grind (arith, nat_tests, few))
number_fits most (number (negative z)) e = no e
number_fits most (number (float x)) e = no e
number_fits most (string s) e = no e
number_fits most (array is) e = no e
number_fits most (object ms) e = no e

boolean_back : (most : ℕ) (b : Bool) → IsReadBack most (boolean b)
boolean_back most true = record { numbers = tt; same = refl; shallow = omega arith; utf8 = IsUtf8-are_ascii _ refl }
boolean_back most false = record { numbers = tt; same = refl; shallow = omega arith; utf8 = IsUtf8-are_ascii _ refl }

sight_fits : (most : ℕ) → Fits most (is_sight greatest) (is_sight any_number)
sight_fits most null e = no e
sight_fits most (boolean b) e = (boolean_back most b, refl)
sight_fits most (number n) e = number_fits most (number n) e
sight_fits most (string s) e = no e
sight_fits most (array is) e = no e
sight_fits most (object ms) e = no e

module _ (most : ℕ) (kind loose : Data → Bool) (fits : Fits most kind loose) where
  all_fit : (ds : Items) → list_all kind (list_of ds) ≡ true → AreReadBack most ds × (list_all loose (list_of ds) ≡ true)
  all_fit no_items e = (no_more most, refl)
  all_fit (item d ds) e =
      let p = and_parts _ _ e in
      let one = fits d p.0 in
      let rest = all_fit ds p.1 in
      (one_more most d ds one.0 rest.0, both one.1 rest.1)

  array_fits : Fits (suc most) (is_array kind) (is_array loose)
  array_fits null e = no e
  array_fits (boolean b) e = no e
  array_fits (number n) e = no e
  array_fits (string s) e = no e
  array_fits (array ds) e = let all = all_fit ds e in (array_back most ds all.0, all.1)
  array_fits (object ms) e = no e

numbers_fit : (most : ℕ) → Fits (suc most) (is_array (is_number greatest)) (is_array (is_number any_number))
numbers_fit most = array_fits most (is_number greatest) (is_number any_number) (number_fits most)

parts_fit : (ds : Items) → are_node_parts greatest (list_of ds) ≡ true → AreReadBack 1 ds × (are_node_parts any_number (list_of ds) ≡ true)
parts_fit no_items e = no e
parts_fit (item s no_items) e = no e
parts_fit (item s (item r no_items)) e = no e
parts_fit (item s (item r (item o no_items))) e = no e
parts_fit (item s (item r (item o (item t no_items)))) e =
    let p = and_parts _ _ e in
    let q = and_parts _ _ p.1 in
    let v = and_parts _ _ q.1 in
    let x = number_fits 1 s p.0 in
    let y = sight_fits 1 r q.0 in
    let z = numbers_fit 0 o v.0 in
    let w = numbers_fit 0 t v.1 in
    (one_more 1 s _ x.0 (one_more 1 r _ y.0 (one_more 1 o _ z.0 (one_more 1 t _ w.0 (no_more 1)))), both x.1 (both y.1 (both z.1 w.1)))
parts_fit (item s (item r (item o (item t (item c ds))))) e = no e

node_fits : Fits 2 (is_node greatest) (is_node any_number)
node_fits null e = no e
node_fits (boolean b) e = no e
node_fits (number n) e = no e
node_fits (string s) e = no e
node_fits (array ds) e = let all = parts_fit ds e in (array_back 1 ds all.0, all.1)
node_fits (object ms) e = no e

nodes_fit : Fits 3 (is_array (is_node greatest)) (is_array (is_node any_number))
nodes_fit = array_fits 2 (is_node greatest) (is_node any_number) node_fits

-- ---- the whole

certificate_back : (c : TreeCertificate) → IsReadBack 3 (each_data node_data c.nodes) → IsReadBack 3 (number_data c.processes)
    → IsReadBack 3 (number_data c.steps) → IsUtf8 c.type_name → IsReadBack 4 (tree_certificate_data c)
certificate_back c nodes processes steps name =
    let type_name = string_back 3 c.type_name name in
    let version = number_back 3 5 (omega arith) in
    let held : HoldReadBack 3 _ =
    one_key 3 (codes "nodes") _ _ (plain _ refl) nodes
    (one_key 3 (codes "processes") _ _ (plain _ refl) processes
    (one_key 3 (codes "steps") _ _ (plain _ refl) steps
    (one_key 3 (codes "type") _ _ (plain _ refl) type_name
    (one_key 3 (codes "version") _ _ (plain _ refl) version (no_key 3))))) in
    record {
      numbers = held.numbers;
      same = rw (nodes.same, processes.same, steps.same, version.same);
      shallow = omega (arith, held.shallow);
      utf8 = IsUtf8-append (123 ∷ []) _ (plain (123 ∷ []) refl) (held.utf8 false);
    }

whole : (c : TreeCertificate) → is_in_range (tree_certificate_data c) ≡ true → IsReadBack 4 (tree_certificate_data c) × (has_shape (tree_certificate_data c) ≡ true)
whole c e =
    let p = and_parts _ _ e in
    let q = and_parts _ _ p.1 in
    let r = and_parts _ _ q.1 in
    let nodes = nodes_fit (each_data node_data c.nodes) p.0 in
    let processes = number_fits 3 (number_data c.processes) q.0 in
    let steps = number_fits 3 (number_data c.steps) r.0 in
    let name = name_utf8 c.type_name (and_parts _ _ r.1).0 in
    (certificate_back c nodes.0 processes.0 steps.0 name, both nodes.1 (both processes.1 (both steps.1 refl)))

pub document_back : (c : TreeCertificate) → is_in_range (tree_certificate_data c) ≡ true → document_of (tree_certificate_text c) ≡ Some (tree_certificate_data c)
document_back c e =
    let back = (whole c e).0 in
    rw (is_utf8-from_IsUtf8 (tree_certificate_text c) back.utf8, read_back 4 (tree_certificate_data c) back (omega arith))

-- the same with a line feed behind the text
pub line_back : (c : TreeCertificate) → is_in_range (tree_certificate_data c) ≡ true → document_of (tree_certificate_text c ++ 10 ∷ []) ≡ Some (tree_certificate_data c)
line_back c e =
    let back = (whole c e).0 in
    let utf8 = IsUtf8-append (tree_certificate_text c) (10 ∷ []) back.utf8 (plain (10 ∷ []) refl) in
    rw (is_utf8-from_IsUtf8 (tree_certificate_text c ++ 10 ∷ []) utf8, line_read_back 4 (tree_certificate_data c) back (omega arith))

-- bytes of the value of the certificate have no fault
pub no_fault : (bytes : List ℕ) (c : TreeCertificate) → is_in_range (tree_certificate_data c) ≡ true → document_of bytes ≡ Some (tree_certificate_data c) → fault_of bytes ≡ None
no_fault bytes c e read = rw (read, (whole c e).1, e)

pub read_again : (bytes : List ℕ) (c : TreeCertificate) → document_of bytes ≡ Some (tree_certificate_data c) → AreOf bytes c
read_again bytes c read = (
  tree_certificate_data c,
  read,
  record { keys = refl; nodes = refl; processes = refl; steps = refl; type_name = refl; version = refl },
)

-- ---- a value is that of one certificate

one_number : (n m : ℕ) → number_data n ≡ number_data m → n ≡ m
one_number n m e = cc

one_list : (ds es : List Data) → items_of ds ≡ items_of es → ds ≡ es
one_list [] [] e = refl
one_list [] (f ∷ es) e = absurd cc
one_list (d ∷ ds) [] e = absurd cc
one_list (d ∷ ds) (f ∷ es) e =
    let rest = one_list ds es cc in
    cc

one_each : {X : Type 0} (json : X → Data) → ((x y : X) → json x ≡ json y → x ≡ y) → (xs ys : List X) → map json xs ≡ map json ys → xs ≡ ys
one_each json one [] [] e = refl
one_each json one [] (y ∷ ys) e = absurd cc
one_each json one (x ∷ xs) [] e = absurd cc
one_each json one (x ∷ xs) (y ∷ ys) e =
    let first = one x y cc in
    let rest = one_each json one xs ys cc in
    cc

one_array : {X : Type 0} (json : X → Data) → ((x y : X) → json x ≡ json y → x ≡ y) → (xs ys : List X) → each_data json xs ≡ each_data json ys → xs ≡ ys
one_array json one xs ys e = one_each json one xs ys (one_list (map json xs) (map json ys) cc)

one_operation : (o p : Operation) → operation_data o ≡ operation_data p → o ≡ p
one_operation o p e = ap (λ (x : ℕ). record { 0 = x }) (one_number o.0 p.0 e)

one_sight : (s r : Sight) → sight_data s ≡ sight_data r → s ≡ r
one_sight State State e = refl
one_sight State Nothing e = absurd cc
one_sight State (Response p) e = absurd cc
one_sight Nothing State e = absurd cc
one_sight Nothing Nothing e = refl
one_sight Nothing (Response p) e = absurd cc
one_sight (Response o) State e = absurd cc
one_sight (Response o) Nothing e = absurd cc
one_sight (Response o) (Response p) e = ap Response (one_operation o p e)

same_node : {a b : ℕ} {r s : Sight} {o p : List Operation} {t u : List ℕ} → a ≡ b → r ≡ s → o ≡ p → t ≡ u
    → ◌≡◌ {A = TreeNode} (record { start = a; sight = r; operations = o; teams = t }) (record { start = b; sight = s; operations = p; teams = u })
same_node start sight operations teams = cc

same_certificate : {a b : List TreeNode} {n m k l : ℕ} {t u : List ℕ} → a ≡ b → n ≡ m → k ≡ l → t ≡ u
    → ◌≡◌ {A = TreeCertificate} (record { nodes = a; processes = n; steps = k; type_name = t }) (record { nodes = b; processes = m; steps = l; type_name = u })
same_certificate nodes processes steps name = cc

one_node : (n m : TreeNode) → node_data n ≡ node_data m → n ≡ m
one_node n m e =
    let start : n.start ≡ m.start = one_number n.start m.start cc in
    let sight = one_sight n.sight m.sight cc in
    let operations = one_array operation_data one_operation n.operations m.operations cc in
    let teams = one_array number_data one_number n.teams m.teams cc in
    same_node start sight operations teams

pub one_certificate : (bytes : List ℕ) (c d : TreeCertificate) → AreOf bytes c → AreOf bytes d → c ≡ d
one_certificate bytes c d of other =
    let same : of.0 ≡ other.0 = same_Some _ _ (sym of.1 ∙ other.1) in
    let again : Spells of.0 d = subst (λ (x : Data). Spells x d) (sym same) other.2 in
    let nodes = one_array node_data one_node c.nodes d.nodes (same_Some _ _ (sym of.2.nodes ∙ again.nodes)) in
    let processes = one_number c.processes d.processes (same_Some _ _ (sym of.2.processes ∙ again.processes)) in
    let steps = one_number c.steps d.steps (same_Some _ _ (sym of.2.steps ∙ again.steps)) in
    let text : string c.type_name ≡ string d.type_name = same_Some _ _ (sym of.2.type_name ∙ again.type_name) in
    same_certificate nodes processes steps cc
