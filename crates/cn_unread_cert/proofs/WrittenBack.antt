-- A certificate within its ranges is read back from its text.
use Rattle.std.proofs.Common.{◌≡◌, ◌==◌, ◌||◌, ◌&&◌, ℕ, zero, suc, ◌^◌, ◌<◌, ◌≤◌, List, [], ◌∷◌, ◌++◌, Bool, true, false, Option, Some, None, codes, nat_le, nat_lt, IsUtf8, true≢false, get_or, refl, sym, ap, ◌∙◌, subst, arith, leb-true, length}
use Rattle.std.specs.List.{list_all}
use Rattle.std.proofs.lemmas.Bool.{and_parts, eqb-true}
use Rattle.std.proofs.lemmas.Bool.Decides.{nat_tests}
use Rattle.std.proofs.lemmas.Option.{none-some, same_Some}
use Rattle.std.proofs.lemmas.Str.{IsUtf8-append, IsUtf8-from_ascii, is_utf8-from_IsUtf8}
use Rattle.serde_json.specs.Data.{Data, null, boolean, number, unsigned, negative, float, string, array, object, Items, no_items, item}
use Rattle.serde_json.specs.Read.{read}
use Rattle.serde_json.specs.Written.{compact_text}
use Rattle.cn_table.specs.Names.{is_name_byte, is_name}
use Rattle.cn_choice.specs.TeamNames.{team_name}
use Rattle.cn_choice.specs.declared.team.Team.{Team}
use Rattle.cn_choice.specs.declared.team.Team.TheVariants.{A, B}
use Rattle.cn_cert.specs.CertificateText.{choice_data, number_data, number_or_null, numbers_data}
use Rattle.cn_cert.specs.Document.{document_of, list_of}
use Rattle.cn_cert.proofs.PrintedValues.{AreReadBack, HoldReadBack, IsReadBack, array_back, line_read_back, no_key, no_more, null_back, number_back, one_key, one_more, read_back, string_back}
use Rattle.cn_game.specs.declared.trap.Trap.{Trap}
use Rattle.cn_signs.specs.declared.sign_choice.SignChoice.{SignChoice}
use Rattle.cn_unread_cert.specs.Certificate.{UnreadCertificate}
use Rattle.cn_unread_cert.specs.Kinds.{any_limits, are_choice_parts, are_follow_up_parts, are_further_parts, are_sign_parts, are_standing_parts, are_turn_parts, byte_limits, has_shape, is_array, is_follow_up, is_in_range, is_least, is_list, is_most, is_null_or, is_number, is_number_list, is_row, is_run, is_side, is_standing, is_turn}
use Rattle.cn_unread_cert.specs.Reading.{AreOf, Spells, SpellsLeast, fault_of}
use Rattle.cn_unread_cert.specs.UnreadText.{at_one_key, further_data, least_data, most_data, signs_data, unread_data, unread_text}
use Rattle.cn_unread_cert.specs.declared.certificate.LeastClaim.{LeastClaim}
use Rattle.cn_unread_cert.specs.declared.certificate.LeastClaim.TheVariants as least

no : {X : Type 0} → false ≡ true → X
no e = absurd (true≢false (sym e))

either_of : (x : Bool) → (x || false) ≡ true → x ≡ true
either_of true e = refl
either_of false e = no e

both : {x y : Bool} → x ≡ true → y ≡ true → (x && y) ≡ true
both p q = rw (p, q)

-- ---- texts of bytes below 128

ascii : (text : List ℕ) → list_all (λ b. nat_lt b 128) text ≡ true → (i : ℕ) → get_or text i 0 < 128
ascii [] pass i = omega arith
ascii (b ∷ bs) pass zero = grind (arith, nat_tests)
ascii (b ∷ bs) pass (suc i) = ascii bs (and_parts _ _ pass).1 i

plain : (text : List ℕ) → list_all (λ b. nat_lt b 128) text ≡ true → IsUtf8 text
plain text pass = IsUtf8-from_ascii text (ascii text pass)

name_byte : (b : ℕ) → is_name_byte b ≡ true → nat_lt b 128 ≡ true
name_byte b pass = grind (arith, nat_tests)

name_bytes : (text : List ℕ) → list_all is_name_byte text ≡ true → list_all (λ b. nat_lt b 128) text ≡ true
name_bytes [] pass = refl
name_bytes (b ∷ bs) pass = let p = and_parts _ _ pass in both (name_byte b p.0) (name_bytes bs p.1)

name_utf8 : (text : List ℕ) → is_name text ≡ true → IsUtf8 text
name_utf8 text pass = plain text (name_bytes text (and_parts _ _ pass).1)

-- ---- what passes a test within the limits of a certificate is read back, and passes it with any limits

-- a kind of values, within the limits and with any
abbrev Fits : ℕ → (Data → Bool) → (Data → Bool) → Type 0
Fits most kind loose = (d : Data) → kind d ≡ true → IsReadBack most d × (loose d ≡ true)

number_fits : (most : ℕ) → Fits most (is_number byte_limits) (is_number any_limits)
number_fits most null e = no e
number_fits most (boolean b) e = no e
number_fits most (number (unsigned n)) e =
    let few : n ≤ 255 = leb-true n 255 e in
    (number_back most n (omega (arith, few)), grind (arith, nat_tests, few))
number_fits most (number (negative z)) e = no e
number_fits most (number (float x)) e = no e
number_fits most (string s) e = no e
number_fits most (array is) e = no e
number_fits most (object ms) e = no e

module _ (most : ℕ) (kind loose : Data → Bool) (fits : Fits most kind loose) where
  all_fit : (ds : Items) → list_all kind (list_of ds) ≡ true → AreReadBack most ds × (list_all loose (list_of ds) ≡ true)
  all_fit no_items e = (no_more most, refl)
  all_fit (item d ds) e =
      let p = and_parts _ _ e in
      let one = fits d p.0 in
      let rest = all_fit ds p.1 in
      (one_more most d ds one.0 rest.0, both one.1 rest.1)

  array_fits : Fits (suc most) (is_array kind) (is_array loose)
  array_fits null e = no e
  array_fits (boolean b) e = no e
  array_fits (number n) e = no e
  array_fits (string s) e = no e
  array_fits (array ds) e = let all = all_fit ds e in (array_back most ds all.0, all.1)
  array_fits (object ms) e = no e

  list_fits : Fits (suc most) (is_list kind byte_limits) (is_list loose any_limits)
  list_fits null e = no e
  list_fits (boolean b) e = no e
  list_fits (number n) e = no e
  list_fits (string s) e = no e
  list_fits (array ds) e =
      let p = and_parts _ _ e in
      let all = all_fit ds p.1 in
      let few : length (list_of ds) ≤ 8 = leb-true _ 8 p.0 in
      let short : nat_le (length (list_of ds)) any_limits.list ≡ true = grind (arith, nat_tests, few) in
      (array_back most ds all.0, both short all.1)
  list_fits (object ms) e = no e

numbers_fit : (most : ℕ) → Fits (suc most) (is_number_list byte_limits) (is_number_list any_limits)
numbers_fit most = list_fits most (is_number byte_limits) (is_number any_limits) (number_fits most)

-- a row
module _ (most : ℕ) (test loose : List Data → Bool) (fit : (ds : Items) → test (list_of ds) ≡ true → AreReadBack most ds × (loose (list_of ds) ≡ true)) where
  row_fits : Fits (suc most) (is_row test) (is_row loose)
  row_fits null e = no e
  row_fits (boolean b) e = no e
  row_fits (number n) e = no e
  row_fits (string s) e = no e
  row_fits (array ds) e = let all = fit ds e in (array_back most ds all.0, all.1)
  row_fits (object ms) e = no e

one_and : {most : ℕ} (d : Data) (ds : Items) → IsReadBack most d → AreReadBack most ds → AreReadBack most (item d ds)
one_and {most} d ds one rest = one_more most d ds one rest

choice_fits : (ds : Items) → are_choice_parts byte_limits (list_of ds) ≡ true → AreReadBack 1 ds × (are_choice_parts any_limits (list_of ds) ≡ true)
choice_fits no_items e = no e
choice_fits (item s no_items) e = no e
choice_fits (item s (item a no_items)) e = no e
choice_fits (item s (item a (item b no_items))) e =
    let p = and_parts _ _ e in
    let q = and_parts _ _ p.1 in
    let x = number_fits 1 s p.0 in
    let y = numbers_fit 0 a q.0 in
    let z = numbers_fit 0 b q.1 in
    (one_and s _ x.0 (one_and a _ y.0 (one_and b _ z.0 (no_more 1))), both x.1 (both y.1 z.1))
choice_fits (item s (item a (item b (item c ds)))) e = no e

follow_up_fits : (ds : Items) → are_follow_up_parts byte_limits (list_of ds) ≡ true → AreReadBack 0 ds × (are_follow_up_parts any_limits (list_of ds) ≡ true)
follow_up_fits no_items e = no e
follow_up_fits (item s no_items) e = no e
follow_up_fits (item s (item a no_items)) e = no e
follow_up_fits (item s (item a (item b no_items))) e =
    let p = and_parts _ _ e in
    let q = and_parts _ _ p.1 in
    let x = number_fits 0 s p.0 in
    let y = number_fits 0 a q.0 in
    let z = number_fits 0 b q.1 in
    (one_and s _ x.0 (one_and a _ y.0 (one_and b _ z.0 (no_more 0))), both x.1 (both y.1 z.1))
follow_up_fits (item s (item a (item b (item c ds)))) e = no e

follow_ups_fit : Fits 2 (is_array (is_follow_up byte_limits)) (is_array (is_follow_up any_limits))
follow_ups_fit = array_fits 1 (is_follow_up byte_limits) (is_follow_up any_limits)
    (row_fits 0 (are_follow_up_parts byte_limits) (are_follow_up_parts any_limits) follow_up_fits)

further_fits : (ds : Items) → are_further_parts byte_limits (list_of ds) ≡ true → AreReadBack 2 ds × (are_further_parts any_limits (list_of ds) ≡ true)
further_fits no_items e = no e
further_fits (item s no_items) e = no e
further_fits (item s (item a no_items)) e = no e
further_fits (item s (item a (item b no_items))) e = no e
further_fits (item s (item a (item b (item f no_items)))) e =
    let p = and_parts _ _ e in
    let q = and_parts _ _ p.1 in
    let r = and_parts _ _ q.1 in
    let x = number_fits 2 s p.0 in
    let y = numbers_fit 1 a q.0 in
    let z = numbers_fit 1 b r.0 in
    let w = follow_ups_fit f r.1 in
    (one_and s _ x.0 (one_and a _ y.0 (one_and b _ z.0 (one_and f _ w.0 (no_more 2)))), both x.1 (both y.1 (both z.1 w.1)))
further_fits (item s (item a (item b (item f (item c ds))))) e = no e

run_fits : (most : ℕ) → Fits most is_run is_run
run_fits most null e = no e
run_fits most (boolean b) e = no e
run_fits most (number (unsigned n)) e = (number_back most n (small (n == 1) (n == 2) refl refl e), e)
  where
    small : (one two : Bool) → (n == 1) ≡ one → (n == 2) ≡ two → (one || two) ≡ true → n < 2 ^ 64
    small true two e f g = omega (arith, eqb-true n 1 e)
    small false true e f g = omega (arith, eqb-true n 2 f)
    small false false e f g = no g
run_fits most (number (negative z)) e = no e
run_fits most (number (float x)) e = no e
run_fits most (string s) e = no e
run_fits most (array is) e = no e
run_fits most (object ms) e = no e

standing_fits : (ds : Items) → are_standing_parts byte_limits (list_of ds) ≡ true → AreReadBack 0 ds × (are_standing_parts any_limits (list_of ds) ≡ true)
standing_fits no_items e = (no_more 0, refl)
standing_fits (item o no_items) e = let x = number_fits 0 o e in (one_and o _ x.0 (no_more 0), x.1)
standing_fits (item o (item r no_items)) e = no e
standing_fits (item o (item r (item run no_items))) e =
    let p = and_parts _ _ e in
    let q = and_parts _ _ p.1 in
    let x = number_fits 0 o p.0 in
    let y = number_fits 0 r q.0 in
    let z = run_fits 0 run q.1 in
    (one_and o _ x.0 (one_and r _ y.0 (one_and run _ z.0 (no_more 0))), both x.1 (both y.1 z.1))
standing_fits (item o (item r (item run (item c ds)))) e = no e

standings_fit : Fits 2 (is_list (is_standing byte_limits) byte_limits) (is_list (is_standing any_limits) any_limits)
standings_fit = list_fits 1 (is_standing byte_limits) (is_standing any_limits)
    (row_fits 0 (are_standing_parts byte_limits) (are_standing_parts any_limits) standing_fits)

turn_fits : (ds : Items) → are_turn_parts byte_limits (list_of ds) ≡ true → AreReadBack 2 ds × (are_turn_parts any_limits (list_of ds) ≡ true)
turn_fits no_items e = no e
turn_fits (item a no_items) e = no e
turn_fits (item a (item b no_items)) e = no e
turn_fits (item a (item b (item s no_items))) e = no e
turn_fits (item a (item b (item s (item j no_items)))) e = no e
turn_fits (item a (item b (item s (item j (item run no_items))))) e =
    let p = and_parts _ _ e in
    let q = and_parts _ _ p.1 in
    let r = and_parts _ _ q.1 in
    let v = and_parts _ _ r.1 in
    let x = number_fits 2 a p.0 in
    let y = number_fits 2 b q.0 in
    let z = standings_fit s r.0 in
    let w = number_fits 2 j v.0 in
    let u = run_fits 2 run v.1 in
    (one_and a _ x.0 (one_and b _ y.0 (one_and s _ z.0 (one_and j _ w.0 (one_and run _ u.0 (no_more 2))))), both x.1 (both y.1 (both z.1 (both w.1 u.1))))
turn_fits (item a (item b (item s (item j (item run (item c ds)))))) e = no e

turns_fit : Fits 4 (is_array (is_turn byte_limits)) (is_array (is_turn any_limits))
turns_fit = array_fits 3 (is_turn byte_limits) (is_turn any_limits)
    (row_fits 2 (are_turn_parts byte_limits) (are_turn_parts any_limits) turn_fits)

side_back : (most : ℕ) (side : Team) → IsReadBack most (string (team_name side)) × (is_side (string (team_name side)) ≡ true)
side_back most A = (string_back most _ (plain _ refl), refl)
side_back most B = (string_back most _ (plain _ refl), refl)

signs_fit : (s : SignChoice) → is_row (are_sign_parts byte_limits) (signs_data s) ≡ true
    → IsReadBack 2 (signs_data s) × (is_row (are_sign_parts any_limits) (signs_data s) ≡ true)
signs_fit s e =
    let p = and_parts _ _ e in
    let q = and_parts _ _ p.1 in
    let r = and_parts _ _ q.1 in
    let v = and_parts _ _ r.1 in
    let x = number_fits 1 (number_data s.state.0) p.0 in
    let y = number_fits 1 (number_data s.single.0) q.0 in
    let z = number_fits 1 (number_data s.many.0) r.0 in
    let w = numbers_fit 0 (numbers_data s.further.items) v.0 in
    let u = side_back 1 s.side in (
      array_back 1 _ (one_and _ _ x.0 (one_and _ _ y.0 (one_and _ _ z.0 (one_and _ _ w.0 (one_and _ _ u.0 (no_more 1)))))),
      both x.1 (both y.1 (both z.1 (both w.1 u.1))),
    )

-- ---- the evidence for the lower bound

object_back : (most : ℕ) (key : List ℕ) (d : Data) → IsUtf8 key → IsReadBack most d → IsReadBack (suc most) (at_one_key key d)
object_back most key d utf8 back =
    let held : HoldReadBack most _ = one_key most key d _ utf8 back (no_key most) in
    record {
      numbers = held.numbers;
      same = rw back.same;
      shallow = omega (arith, held.shallow);
      utf8 = IsUtf8-append (123 ∷ []) _ (plain (123 ∷ []) refl) (held.utf8 false);
    }

least_fits : (l : LeastClaim) → is_least byte_limits (least_data l) ≡ true
    → IsReadBack 4 (least_data l) × (is_least any_limits (least_data l) ≡ true)
least_fits least.Alone e = (null_back 4, refl)
least_fits (least.Visible c) e =
    let x = row_fits 2 (are_choice_parts byte_limits) (are_choice_parts any_limits) choice_deep (choice_data c) (either_of _ e) in
    (object_back 3 (codes "visible") (choice_data c) (plain _ refl) x.0, rw x.1)
  where
    choice_deep : (ds : Items) → are_choice_parts byte_limits (list_of ds) ≡ true → AreReadBack 2 ds × (are_choice_parts any_limits (list_of ds) ≡ true)
    choice_deep ds e = let x = choice_fits ds e in (record { numbers = x.0.numbers; same = x.0.same; shallow = omega (arith, x.0.shallow); utf8 = x.0.utf8 }, x.1)
least_fits (least.Further f) e =
    let x = row_fits 2 (are_further_parts byte_limits) (are_further_parts any_limits) further_fits (further_data f) (either_of _ e) in
    (object_back 3 (codes "further") (further_data f) (plain _ refl) x.0, rw x.1)
least_fits (least.Signs s) e =
    let x = signs_fit s e in
    (deeper (object_back 2 (codes "signs") (signs_data s) (plain _ refl) x.0), x.1)
  where
    deeper : {d : Data} → IsReadBack 3 d → IsReadBack 4 d
    deeper back = record { numbers = back.numbers; same = back.same; shallow = omega (arith, back.shallow); utf8 = back.utf8 }

most_fits : (m : Option Trap) → is_most byte_limits (most_data m) ≡ true
    → IsReadBack 4 (most_data m) × (is_most any_limits (most_data m) ≡ true)
most_fits None e = (null_back 4, refl)
most_fits (Some trap) e = turns_fit (most_data (Some trap)) e

bound_fits : (n : Option ℕ) → is_null_or (is_number byte_limits) (number_or_null n) ≡ true
    → IsReadBack 4 (number_or_null n) × (is_null_or (is_number any_limits) (number_or_null n) ≡ true)
bound_fits None e = (null_back 4, refl)
bound_fits (Some n) e = number_fits 4 (number_data n) e

-- ---- the whole

certificate_back : (c : UnreadCertificate) → IsReadBack 4 (number_or_null c.at_least) → IsReadBack 4 (number_or_null c.at_most)
    → IsReadBack 4 (least_data c.least) → IsReadBack 4 (most_data c.most) → IsUtf8 c.type_name → IsReadBack 5 (unread_data c)
certificate_back c at_least at_most low high name =
    let type_name = string_back 4 c.type_name name in
    let version = number_back 4 4 (omega arith) in
    let held : HoldReadBack 4 _ =
    one_key 4 (codes "at_least") _ _ (plain _ refl) at_least
    (one_key 4 (codes "at_most") _ _ (plain _ refl) at_most
    (one_key 4 (codes "least") _ _ (plain _ refl) low
    (one_key 4 (codes "most") _ _ (plain _ refl) high
    (one_key 4 (codes "type") _ _ (plain _ refl) type_name
    (one_key 4 (codes "version") _ _ (plain _ refl) version (no_key 4)))))) in
    record {
      numbers = held.numbers;
      same = rw (at_least.same, at_most.same, low.same, high.same, version.same);
      shallow = omega (arith, held.shallow);
      utf8 = IsUtf8-append (123 ∷ []) _ (plain (123 ∷ []) refl) (held.utf8 false);
    }

whole : (c : UnreadCertificate) → is_in_range (unread_data c) ≡ true → IsReadBack 5 (unread_data c) × (has_shape (unread_data c) ≡ true)
whole c e =
    let p = and_parts _ _ e in
    let q = and_parts _ _ p.1 in
    let r = and_parts _ _ q.1 in
    let v = and_parts _ _ r.1 in
    let at_least = bound_fits c.at_least p.0 in
    let at_most = bound_fits c.at_most q.0 in
    let low = least_fits c.least r.0 in
    let high = most_fits c.most v.0 in
    let name = name_utf8 c.type_name (and_parts _ _ v.1).0 in
    (certificate_back c at_least.0 at_most.0 low.0 high.0 name, both at_least.1 (both at_most.1 (both low.1 (both high.1 refl))))

pub document_back : (c : UnreadCertificate) → is_in_range (unread_data c) ≡ true → document_of (unread_text c) ≡ Some (unread_data c)
document_back c e =
    let back = (whole c e).0 in
    rw (is_utf8-from_IsUtf8 (unread_text c) back.utf8, read_back 5 (unread_data c) back (omega arith))

-- the same with a line feed behind the text
pub line_back : (c : UnreadCertificate) → is_in_range (unread_data c) ≡ true → document_of (unread_text c ++ 10 ∷ []) ≡ Some (unread_data c)
line_back c e =
    let back = (whole c e).0 in
    let utf8 = IsUtf8-append (unread_text c) (10 ∷ []) back.utf8 (plain (10 ∷ []) refl) in
    rw (is_utf8-from_IsUtf8 (unread_text c ++ 10 ∷ []) utf8, line_read_back 5 (unread_data c) back (omega arith))

-- bytes of the value of the certificate have no fault
pub no_fault : (bytes : List ℕ) (c : UnreadCertificate) → is_in_range (unread_data c) ≡ true → document_of bytes ≡ Some (unread_data c) → fault_of bytes ≡ None
no_fault bytes c e read = rw (read, (whole c e).1, e)

spells_least : (l : LeastClaim) → SpellsLeast (least_data l) l
spells_least least.Alone = refl
spells_least (least.Visible c) = (refl, refl)
spells_least (least.Further f) = (refl, refl)
spells_least (least.Signs s) = (refl, refl)

pub read_again : (bytes : List ℕ) (c : UnreadCertificate) → document_of bytes ≡ Some (unread_data c) → AreOf bytes c
read_again bytes c read = (
  unread_data c,
  read,
  record {
    keys = refl;
    at_least = refl;
    at_most = refl;
    least = (least_data c.least, refl, spells_least c.least);
    most = refl;
    type_name = refl;
    version = refl;
  },
)

-- ---- what spells two certificates is one value

one_least : (l m : LeastClaim) → SpellsLeast (least_data l) m → least_data l ≡ least_data m
one_least l least.Alone e = e
one_least least.Alone (least.Visible c) e = absurd (none-some _ e.1)
one_least (least.Visible d) (least.Visible c) e = ap (at_one_key (codes "visible")) (same_Some _ _ e.1)
one_least (least.Further f) (least.Visible c) e = absurd (none-some _ e.1)
one_least (least.Signs s) (least.Visible c) e = absurd (none-some _ e.1)
one_least least.Alone (least.Further c) e = absurd (none-some _ e.1)
one_least (least.Visible d) (least.Further c) e = absurd (none-some _ e.1)
one_least (least.Further f) (least.Further c) e = ap (at_one_key (codes "further")) (same_Some _ _ e.1)
one_least (least.Signs s) (least.Further c) e = absurd (none-some _ e.1)
one_least least.Alone (least.Signs c) e = absurd (none-some _ e.1)
one_least (least.Visible d) (least.Signs c) e = absurd (none-some _ e.1)
one_least (least.Further f) (least.Signs c) e = absurd (none-some _ e.1)
one_least (least.Signs s) (least.Signs c) e = ap (at_one_key (codes "signs")) (same_Some _ _ e.1)

one_value : (c d : UnreadCertificate) → Spells (unread_data c) d → unread_data c ≡ unread_data d
one_value c d spells =
    let at_least : number_or_null c.at_least ≡ number_or_null d.at_least = same_Some _ _ spells.at_least in
    let at_most : number_or_null c.at_most ≡ number_or_null d.at_most = same_Some _ _ spells.at_most in
    let low : least_data c.least ≡ least_data d.least =
    one_least c.least d.least (subst (λ (e : Data). SpellsLeast e d.least) (sym (same_Some _ _ spells.least.1)) spells.least.2) in
    let high : most_data c.most ≡ most_data d.most = same_Some _ _ spells.most in
    let name : string c.type_name ≡ string d.type_name = same_Some _ _ spells.type_name in
    rw (at_least, at_most, low, high, name)

pub one_text : (c d : UnreadCertificate) → is_in_range (unread_data c) ≡ true → AreOf (unread_text c) d → unread_text d ≡ unread_text c
one_text c d e of =
    let same : unread_data c ≡ of.0 = same_Some _ _ (sym (document_back c e) ∙ of.1) in
    ap compact_text (sym (one_value c d (subst (λ (x : Data). Spells x d) (sym same) of.2)))
