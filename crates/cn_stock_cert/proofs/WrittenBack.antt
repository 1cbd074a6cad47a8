-- A certificate within its ranges is read back from its text.
use Rattle.std.proofs.Common.{◌≡◌, ◌&&◌, ◌||◌, ℕ, zero, suc, ◌<◌, ◌≤◌, List, [], ◌∷◌, ◌++◌, Bool, true, false, Option, Some, None, codes, nat_lt, IsUtf8, true≢false, get_or, map, refl, sym, ap, ◌∙◌, subst, arith, leb-true}
use Rattle.std.specs.List.{list_all}
use Rattle.std.proofs.lemmas.Bool.{and_parts}
use Rattle.std.proofs.lemmas.Bool.Decides.{nat_tests}
use Rattle.std.proofs.lemmas.Option.{none-some, same_Some}
use Rattle.std.proofs.lemmas.Str.{IsUtf8-append, IsUtf8-from_ascii, is_utf8-from_IsUtf8}
use Rattle.serde_json.specs.Data.{Data, null, boolean, number, unsigned, negative, float, string, array, object, Items, no_items, item}
use Rattle.serde_json.specs.View.{items_of}
use Rattle.cn_table.specs.Names.{is_name_byte, is_name}
use Rattle.cn_choice.specs.Canonical.{Choice}
use Rattle.cn_cert.specs.CertificateText.{number_data, number_or_null}
use Rattle.cn_cert.specs.Document.{document_of, list_of}
use Rattle.cn_cert.proofs.PrintedValues.{AreReadBack, HoldReadBack, IsReadBack, array_back, line_read_back, no_key, no_more, null_back, number_back, one_key, one_more, read_back, string_back}
use Rattle.cn_joins.specs.Joins.{Join, PlacedWord}
use Rattle.cn_stock_cert.specs.Certificate.{StockCertificate}
use Rattle.cn_stock_cert.specs.Kinds.{any_number, are_join_parts, are_lasting_parts, are_team_parts, greatest, has_shape, is_array, is_in_range, is_join, is_least, is_most, is_null_or, is_number, is_number_list, is_row}
use Rattle.cn_stock_cert.specs.LastingSets.{LastingSets}
use Rattle.cn_stock_cert.specs.Reading.{AreOf, Spells, SpellsLeast, fault_of}
use Rattle.cn_stock_cert.specs.StockText.{at_one_key, each_data, each_number, join_data, lasting_data, least_data, most_data, stock_data, stock_text, teams_data}
use Rattle.cn_stock_cert.specs.declared.certificate.StockClaim.{StockClaim}
use Rattle.cn_stock_cert.specs.declared.certificate.StockClaim.TheVariants as claim

no : {X : Type 0} → false ≡ true → X
no e = absurd (true≢false (sym e))

both : {x y : Bool} → x ≡ true → y ≡ true → (x && y) ≡ true
both p q = rw (p, q)

-- ---- texts of bytes below 128

ascii : (text : List ℕ) → list_all (λ b. nat_lt b 128) text ≡ true → (i : ℕ) → get_or text i 0 < 128
ascii [] pass i = omega arith
ascii (b ∷ bs) pass zero = grind (arith, nat_tests)
ascii (b ∷ bs) pass (suc i) = ascii bs (and_parts _ _ pass).1 i

plain : (text : List ℕ) → list_all (λ b. nat_lt b 128) text ≡ true → IsUtf8 text
plain text pass = IsUtf8-from_ascii text (ascii text pass)

name_byte : (b : ℕ) → is_name_byte b ≡ true → nat_lt b 128 ≡ true
name_byte b pass = grind (arith, nat_tests)

name_bytes : (text : List ℕ) → list_all is_name_byte text ≡ true → list_all (λ b. nat_lt b 128) text ≡ true
name_bytes [] pass = refl
name_bytes (b ∷ bs) pass = let p = and_parts _ _ pass in both (name_byte b p.0) (name_bytes bs p.1)

name_utf8 : (text : List ℕ) → is_name text ≡ true → IsUtf8 text
name_utf8 text pass = plain text (name_bytes text (and_parts _ _ pass).1)

-- ---- what passes a test with the greatest number of a certificate is read back, and passes it with any

-- a kind of values, with the greatest number and with any
abbrev Fits : ℕ → (Data → Bool) → (Data → Bool) → Type 0
Fits most kind loose = (d : Data) → kind d ≡ true → IsReadBack most d × (loose d ≡ true)

number_fits : (most : ℕ) → Fits most (is_number greatest) (is_number any_number)
number_fits most null e = no e
number_fits most (boolean b) e = no e
number_fits most (number (unsigned n)) e =
    let few : n ≤ 255 = leb-true n 255 e in
    (number_back most n (omega (arith, few)), grind (arith, nat_tests, few))
number_fits most (number (negative z)) e = no e
number_fits most (number (float x)) e = no e
number_fits most (string s) e = no e
number_fits most (array is) e = no e
number_fits most (object ms) e = no e

module _ (most : ℕ) (kind loose : Data → Bool) (fits : Fits most kind loose) where
  all_fit : (ds : Items) → list_all kind (list_of ds) ≡ true → AreReadBack most ds × (list_all loose (list_of ds) ≡ true)
  all_fit no_items e = (no_more most, refl)
  all_fit (item d ds) e =
      let p = and_parts _ _ e in
      let one = fits d p.0 in
      let rest = all_fit ds p.1 in
      (one_more most d ds one.0 rest.0, both one.1 rest.1)

  array_fits : Fits (suc most) (is_array kind) (is_array loose)
  array_fits null e = no e
  array_fits (boolean b) e = no e
  array_fits (number n) e = no e
  array_fits (string s) e = no e
  array_fits (array ds) e = let all = all_fit ds e in (array_back most ds all.0, all.1)
  array_fits (object ms) e = no e

either_of : (x : Bool) → (x || false) ≡ true → x ≡ true
either_of true e = refl
either_of false e = no e

numbers_fit : (most : ℕ) → Fits (suc most) (is_number_list greatest) (is_number_list any_number)
numbers_fit most = array_fits most (is_number greatest) (is_number any_number) (number_fits most)

-- a row
module _ (most : ℕ) (test loose : List Data → Bool) (fit : (ds : Items) → test (list_of ds) ≡ true → AreReadBack most ds × (loose (list_of ds) ≡ true)) where
  row_fits : Fits (suc most) (is_row test) (is_row loose)
  row_fits null e = no e
  row_fits (boolean b) e = no e
  row_fits (number n) e = no e
  row_fits (string s) e = no e
  row_fits (array ds) e = let all = fit ds e in (array_back most ds all.0, all.1)
  row_fits (object ms) e = no e

team_parts_fit : (ds : Items) → are_team_parts greatest (list_of ds) ≡ true → AreReadBack 1 ds × (are_team_parts any_number (list_of ds) ≡ true)
team_parts_fit no_items e = no e
team_parts_fit (item s no_items) e = no e
team_parts_fit (item s (item a no_items)) e = no e
team_parts_fit (item s (item a (item b no_items))) e =
    let p = and_parts _ _ e in
    let q = and_parts _ _ p.1 in
    let x = number_fits 1 s p.0 in
    let y = numbers_fit 0 a q.0 in
    let z = numbers_fit 0 b q.1 in
    (one_more 1 s _ x.0 (one_more 1 a _ y.0 (one_more 1 b _ z.0 (no_more 1))), both x.1 (both y.1 z.1))
team_parts_fit (item s (item a (item b (item c ds)))) e = no e

lasting_parts_fit : (ds : Items) → are_lasting_parts greatest (list_of ds) ≡ true → AreReadBack 1 ds × (are_lasting_parts any_number (list_of ds) ≡ true)
lasting_parts_fit no_items e = no e
lasting_parts_fit (item s no_items) e = no e
lasting_parts_fit (item s (item m no_items)) e = no e
lasting_parts_fit (item s (item m (item o no_items))) e = no e
lasting_parts_fit (item s (item m (item o (item a no_items)))) e = no e
lasting_parts_fit (item s (item m (item o (item a (item b no_items))))) e = no e
lasting_parts_fit (item s (item m (item o (item a (item b (item f no_items)))))) e =
    let p = and_parts _ _ e in
    let q = and_parts _ _ p.1 in
    let r = and_parts _ _ q.1 in
    let v = and_parts _ _ r.1 in
    let w = and_parts _ _ v.1 in
    let x = number_fits 1 s p.0 in
    let y = number_fits 1 m q.0 in
    let z = number_fits 1 o r.0 in
    let i = numbers_fit 0 a v.0 in
    let j = numbers_fit 0 b w.0 in
    let k = numbers_fit 0 f w.1 in (
      one_more 1 s _ x.0 (one_more 1 m _ y.0 (one_more 1 o _ z.0 (one_more 1 a _ i.0 (one_more 1 b _ j.0 (one_more 1 f _ k.0 (no_more 1)))))),
      both x.1 (both y.1 (both z.1 (both i.1 (both j.1 k.1)))),
    )
lasting_parts_fit (item s (item m (item o (item a (item b (item f (item c ds))))))) e = no e

join_parts_fit : (ds : Items) → are_join_parts greatest (list_of ds) ≡ true → AreReadBack 1 ds × (are_join_parts any_number (list_of ds) ≡ true)
join_parts_fit no_items e = no e
join_parts_fit (item s no_items) e = no e
join_parts_fit (item s (item f no_items)) e = no e
join_parts_fit (item s (item f (item p no_items))) e = no e
join_parts_fit (item s (item f (item p (item g no_items)))) e = no e
join_parts_fit (item s (item f (item p (item g (item o no_items))))) e =
    let a = and_parts _ _ e in
    let b = and_parts _ _ a.1 in
    let c = and_parts _ _ b.1 in
    let d = and_parts _ _ c.1 in
    let x = number_fits 1 s a.0 in
    let y = numbers_fit 0 f b.0 in
    let z = number_fits 1 p c.0 in
    let v = numbers_fit 0 g d.0 in
    let w = number_fits 1 o d.1 in
    (one_more 1 s _ x.0 (one_more 1 f _ y.0 (one_more 1 p _ z.0 (one_more 1 g _ v.0 (one_more 1 o _ w.0 (no_more 1))))), both x.1 (both y.1 (both z.1 (both v.1 w.1))))
join_parts_fit (item s (item f (item p (item g (item o (item c ds)))))) e = no e

joins_fit : Fits 3 (is_array (is_join greatest)) (is_array (is_join any_number))
joins_fit = array_fits 2 (is_join greatest) (is_join any_number) (row_fits 1 (are_join_parts greatest) (are_join_parts any_number) join_parts_fit)

-- ---- the evidence

object_back : (most : ℕ) (key : List ℕ) (d : Data) → IsUtf8 key → IsReadBack most d → IsReadBack (suc most) (at_one_key key d)
object_back most key d utf8 back =
    let held : HoldReadBack most _ = one_key most key d _ utf8 back (no_key most) in
    record {
      numbers = held.numbers;
      same = rw back.same;
      shallow = omega (arith, held.shallow);
      utf8 = IsUtf8-append (123 ∷ []) _ (plain (123 ∷ []) refl) (held.utf8 false);
    }

least_fits : (l : StockClaim) → is_least greatest (least_data l) ≡ true → IsReadBack 3 (least_data l) × (is_least any_number (least_data l) ≡ true)
least_fits claim.Alone e = (null_back 3, refl)
least_fits (claim.Witness c) e =
    let x = row_fits 1 (are_team_parts greatest) (are_team_parts any_number) team_parts_fit (teams_data c) (either_of _ e) in
    (object_back 2 (codes "witness") (teams_data c) (plain _ refl) x.0, rw x.1)
least_fits (claim.Lasting s) e =
    let x = row_fits 1 (are_lasting_parts greatest) (are_lasting_parts any_number) lasting_parts_fit (lasting_data s) e in
    (object_back 2 (codes "lasting") (lasting_data s) (plain _ refl) x.0, x.1)

most_fits : (m : Option (List Join)) → is_most greatest (most_data m) ≡ true → IsReadBack 3 (most_data m) × (is_most any_number (most_data m) ≡ true)
most_fits None e = (null_back 3, refl)
most_fits (Some joins) e = joins_fit (most_data (Some joins)) e

bound_fits : (n : Option ℕ) → is_null_or (is_number greatest) (number_or_null n) ≡ true → IsReadBack 3 (number_or_null n) × (is_null_or (is_number any_number) (number_or_null n) ≡ true)
bound_fits None e = (null_back 3, refl)
bound_fits (Some n) e = number_fits 3 (number_data n) e

-- ---- the whole

certificate_back : (c : StockCertificate) → IsReadBack 3 (number_or_null c.at_least) → IsReadBack 3 (number_or_null c.at_most)
    → IsReadBack 3 (least_data c.least) → IsReadBack 3 (most_data c.most) → IsUtf8 c.type_name → IsReadBack 4 (stock_data c)
certificate_back c at_least at_most low high name =
    let type_name = string_back 3 c.type_name name in
    let version = number_back 3 3 (omega arith) in
    let held : HoldReadBack 3 _ =
    one_key 3 (codes "at_least") _ _ (plain _ refl) at_least
    (one_key 3 (codes "at_most") _ _ (plain _ refl) at_most
    (one_key 3 (codes "least") _ _ (plain _ refl) low
    (one_key 3 (codes "most") _ _ (plain _ refl) high
    (one_key 3 (codes "type") _ _ (plain _ refl) type_name
    (one_key 3 (codes "version") _ _ (plain _ refl) version (no_key 3)))))) in
    record {
      numbers = held.numbers;
      same = rw (at_least.same, at_most.same, low.same, high.same, version.same);
      shallow = omega (arith, held.shallow);
      utf8 = IsUtf8-append (123 ∷ []) _ (plain (123 ∷ []) refl) (held.utf8 false);
    }

whole : (c : StockCertificate) → is_in_range (stock_data c) ≡ true → IsReadBack 4 (stock_data c) × (has_shape (stock_data c) ≡ true)
whole c e =
    let p = and_parts _ _ e in
    let q = and_parts _ _ p.1 in
    let r = and_parts _ _ q.1 in
    let v = and_parts _ _ r.1 in
    let at_least = bound_fits c.at_least p.0 in
    let at_most = bound_fits c.at_most q.0 in
    let low = least_fits c.least r.0 in
    let high = most_fits c.most v.0 in
    let name = name_utf8 c.type_name (and_parts _ _ v.1).0 in
    (certificate_back c at_least.0 at_most.0 low.0 high.0 name, both at_least.1 (both at_most.1 (both low.1 (both high.1 refl))))

pub document_back : (c : StockCertificate) → is_in_range (stock_data c) ≡ true → document_of (stock_text c) ≡ Some (stock_data c)
document_back c e =
    let back = (whole c e).0 in
    rw (is_utf8-from_IsUtf8 (stock_text c) back.utf8, read_back 4 (stock_data c) back (omega arith))

-- the same with a line feed behind the text
pub line_back : (c : StockCertificate) → is_in_range (stock_data c) ≡ true → document_of (stock_text c ++ 10 ∷ []) ≡ Some (stock_data c)
line_back c e =
    let back = (whole c e).0 in
    let utf8 = IsUtf8-append (stock_text c) (10 ∷ []) back.utf8 (plain (10 ∷ []) refl) in
    rw (is_utf8-from_IsUtf8 (stock_text c ++ 10 ∷ []) utf8, line_read_back 4 (stock_data c) back (omega arith))

-- bytes of the value of the certificate have no fault
pub no_fault : (bytes : List ℕ) (c : StockCertificate) → is_in_range (stock_data c) ≡ true → document_of bytes ≡ Some (stock_data c) → fault_of bytes ≡ None
no_fault bytes c e read = rw (read, (whole c e).1, e)

spells_least : (l : StockClaim) → SpellsLeast (least_data l) l
spells_least claim.Alone = refl
spells_least (claim.Witness c) = (refl, refl)
spells_least (claim.Lasting s) = (refl, refl)

pub read_again : (bytes : List ℕ) (c : StockCertificate) → document_of bytes ≡ Some (stock_data c) → AreOf bytes c
read_again bytes c read = (
  stock_data c,
  read,
  record {
    keys = refl;
    at_least = refl;
    at_most = refl;
    least = (least_data c.least, refl, spells_least c.least);
    most = refl;
    type_name = refl;
    version = refl;
  },
)

-- ---- a text is that of one certificate

one_number : (n m : ℕ) → number_data n ≡ number_data m → n ≡ m
one_number n m e = cc

one_list : (ds es : List Data) → items_of ds ≡ items_of es → ds ≡ es
one_list [] [] e = refl
one_list [] (f ∷ es) e = absurd cc
one_list (d ∷ ds) [] e = absurd cc
one_list (d ∷ ds) (f ∷ es) e =
    let rest = one_list ds es cc in
    cc

one_each : {X : Type 0} (json : X → Data) → ((x y : X) → json x ≡ json y → x ≡ y) → (xs ys : List X) → map json xs ≡ map json ys → xs ≡ ys
one_each json one [] [] e = refl
one_each json one [] (y ∷ ys) e = absurd cc
one_each json one (x ∷ xs) [] e = absurd cc
one_each json one (x ∷ xs) (y ∷ ys) e =
    let first = one x y cc in
    let rest = one_each json one xs ys cc in
    cc

one_array : {X : Type 0} (json : X → Data) → ((x y : X) → json x ≡ json y → x ≡ y) → (xs ys : List X) → each_data json xs ≡ each_data json ys → xs ≡ ys
one_array json one xs ys e = one_each json one xs ys (one_list (map json xs) (map json ys) cc)

one_numbers : (ns ms : List ℕ) → each_number ns ≡ each_number ms → ns ≡ ms
one_numbers ns ms e = one_array number_data one_number ns ms e

one_bound : (n m : Option ℕ) → number_or_null n ≡ number_or_null m → n ≡ m
one_bound None None e = refl
one_bound None (Some m) e = absurd cc
one_bound (Some n) None e = absurd cc
one_bound (Some n) (Some m) e = ap Some (one_number n m e)

same_choice : {s r : ℕ} {a b c d : List ℕ} → s ≡ r → a ≡ c → b ≡ d → ◌≡◌ {A = Choice} (record { state = s; a = a; b = b }) (record { state = r; a = c; b = d })
same_choice state a b = cc

one_choice : (c d : Choice) → teams_data c ≡ teams_data d → c ≡ d
one_choice c d e =
    let state : c.state ≡ d.state = one_number c.state d.state cc in
    let a = one_numbers c.a d.a cc in
    let b = one_numbers c.b d.b cc in
    same_choice state a b

same_sets : {s r m n o p : ℕ} {a b c d e f : List ℕ} → s ≡ r → m ≡ n → o ≡ p → a ≡ b → c ≡ d → e ≡ f
    → ◌≡◌ {A = LastingSets} (record { start = s; many = m; single = o; alone = a; behind = c; first = e }) (record { start = r; many = n; single = p; alone = b; behind = d; first = f })
same_sets start many single alone behind first = cc

one_lasting : (s r : LastingSets) → lasting_data s ≡ lasting_data r → s ≡ r
one_lasting s r e =
    let start : s.start ≡ r.start = one_number s.start r.start cc in
    let many : s.many ≡ r.many = one_number s.many r.many cc in
    let single : s.single ≡ r.single = one_number s.single r.single cc in
    let alone = one_numbers s.alone r.alone cc in
    let behind = one_numbers s.behind r.behind cc in
    let first = one_numbers s.first r.first cc in
    same_sets start many single alone behind first

same_placed : {a b : List ℕ} {n m : ℕ} → a ≡ b → n ≡ m → ◌≡◌ {A = PlacedWord} (record { word = a; place = n }) (record { word = b; place = m })
same_placed word place = cc

same_join : {s r : ℕ} {a b c d : PlacedWord} → s ≡ r → a ≡ b → c ≡ d → ◌≡◌ {A = Join} (record { start = s; first = a; second = c }) (record { start = r; first = b; second = d })
same_join start first second = cc

one_join : (j i : Join) → join_data j ≡ join_data i → j ≡ i
one_join j i e =
    let start : j.start ≡ i.start = one_number j.start i.start cc in
    let word = one_numbers j.first.word i.first.word cc in
    let place : j.first.place ≡ i.first.place = one_number j.first.place i.first.place cc in
    let other = one_numbers j.second.word i.second.word cc in
    let behind : j.second.place ≡ i.second.place = one_number j.second.place i.second.place cc in
    same_join start (same_placed word place) (same_placed other behind)

one_most : (m n : Option (List Join)) → most_data m ≡ most_data n → m ≡ n
one_most None None e = refl
one_most None (Some js) e = absurd cc
one_most (Some js) None e = absurd cc
one_most (Some js) (Some is) e = ap Some (one_array join_data one_join js is e)

one_claim : (l m : StockClaim) → SpellsLeast (least_data l) m → l ≡ m
one_claim claim.Alone claim.Alone e = refl
one_claim (claim.Witness c) claim.Alone e = absurd cc
one_claim (claim.Lasting s) claim.Alone e = absurd cc
one_claim claim.Alone (claim.Witness d) e = absurd (none-some _ e.1)
one_claim (claim.Witness c) (claim.Witness d) e = ap claim.Witness (one_choice c d (same_Some _ _ e.1))
one_claim (claim.Lasting s) (claim.Witness d) e = absurd (none-some _ e.1)
one_claim claim.Alone (claim.Lasting r) e = absurd (none-some _ e.1)
one_claim (claim.Witness c) (claim.Lasting r) e = absurd (none-some _ e.1)
one_claim (claim.Lasting s) (claim.Lasting r) e = ap claim.Lasting (one_lasting s r (same_Some _ _ e.1))

same_certificate : {a b c d : Option ℕ} {l m : StockClaim} {x y : Option (List Join)} {t u : List ℕ} → a ≡ b → c ≡ d → l ≡ m → x ≡ y → t ≡ u
    → ◌≡◌ {A = StockCertificate} (record { at_least = a; at_most = c; least = l; most = x; type_name = t }) (record { at_least = b; at_most = d; least = m; most = y; type_name = u })
same_certificate at_least at_most least most name = cc

one_spelled : (c d : StockCertificate) → Spells (stock_data c) d → c ≡ d
one_spelled c d spells =
    let at_least = one_bound c.at_least d.at_least (same_Some _ _ spells.at_least) in
    let at_most = one_bound c.at_most d.at_most (same_Some _ _ spells.at_most) in
    let low = one_claim c.least d.least (subst (λ (e : Data). SpellsLeast e d.least) (sym (same_Some _ _ spells.least.1)) spells.least.2) in
    let high = one_most c.most d.most (same_Some _ _ spells.most) in
    let name : string c.type_name ≡ string d.type_name = same_Some _ _ spells.type_name in
    same_certificate at_least at_most low high cc

pub one_certificate : (c d : StockCertificate) → is_in_range (stock_data c) ≡ true → AreOf (stock_text c) d → c ≡ d
one_certificate c d e of =
    let same : stock_data c ≡ of.0 = same_Some _ _ (sym (document_back c e) ∙ of.1) in
    one_spelled c d (subst (λ (x : Data). Spells x d) (sym same) of.2)
