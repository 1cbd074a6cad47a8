-- Lists of numbers at the front of a text.
use Rattle.std.proofs.Common.{◌≡◌, ◌≢◌, ℕ, zero, suc, ◌+◌, ◌-◌, ◌/◌, ◌%◌, ◌<◌, ◌≤◌, List, [], ◌∷◌, ◌++◌, length, length-append, drop, drop-cons, take, get_or, map, append_assoc, refl, sym, ap, ◌∙◌, subst, arith, All, Bool, Option, Some, None, true, false, decimal, le-leb, nat_eq, nat_le}
use denote.Ref.{Bor}
use Rattle.std.specs.Prelude.{IfSome, MatchOption}
use Rattle.std.specs.Cmp.Lexicographic.{pointwise}
use Rattle.std.specs.List.{list_all}
use Rattle.std.proofs.lemmas.Bool.Decides.{Decides-eqb}
use Rattle.std.proofs.lemmas.Fmt.{decimal_digit, decimal_step}
use Rattle.std.proofs.lemmas.List.{drop_all, take-append-le, take_all}
use Rattle.std.proofs.lemmas.List.Elements.{All-append, All-from_recursion, All-weaker}
use Rattle.std.proofs.lemmas.List.Folds.{list_all-append}
use Rattle.std.proofs.lemmas.Slice.Eq.{strip_prefix_is}
use Rattle.serde_json.specs.Data.{Items}
use Rattle.serde_json.specs.View.{items_of}
use Rattle.serde_json.specs.Written.{comma_if, compact_text, items_text}
use Rattle.cn_cert.specs.CertificateText.{number_data, numbers_data}
use Rattle.cn_check.specs.EntryTexts.{head_text}

take_suc : (xs : List ℕ) (k : ℕ) → k < length xs → take (suc k) xs ≡ take k xs ++ get_or xs k 0 ∷ []
take_suc [] k l = absurd (omega (arith, l))
take_suc (x ∷ xs) zero l = refl
take_suc (x ∷ xs) (suc k) l = ap (λ (ys : List ℕ). x ∷ ys) (take_suc xs k (omega (arith, l)))

take_next : (xs : List ℕ) (k : ℕ) → k < length xs → take (k + 1) xs ≡ take k xs ++ get_or xs k 0 ∷ []
take_next xs k l = let next : k + 1 ≡ suc k = omega arith in ap (λ (m : ℕ). take m xs) next ∙ take_suc xs k l

abbrev numbers : List ℕ → Items
numbers ns = items_of (map number_data ns)

-- ---- a piece at the front

pub piece_is : (s p : List ℕ) (r : Option (Bor (List ℕ)))
    → MatchOption r (pointwise nat_eq (take (length p) s) p ≡ false) (λ x. (pointwise nat_eq (take (length p) s) p ≡ true) × (x.now ≡ drop (length p) s) × (length x.now + length p ≡ length s))
    → IfSome r (λ x. s ≡ p ++ x.now)
piece_is s p r h = by_option r (strip_prefix_is Decides-eqb s p r h)
  where
    by_option : (o : Option (Bor (List ℕ))) → MatchOption o ((rest : List ℕ) → s ≢ p ++ rest) (λ x. s ≡ p ++ x.now) → IfSome o (λ x. s ≡ p ++ x.now)
    by_option None h = tt
    by_option (Some x) h = h

pub front_taken : (bytes front rest : List ℕ) → bytes ≡ front ++ rest → take (length bytes - length rest) bytes ≡ front
front_taken bytes front rest e =
    let all : length bytes ≡ length front + length rest = ap (λ (v : List ℕ). length v) e ∙ length-append front rest in
    let long : length bytes - length rest ≡ length front = omega (arith, all) in
    ap (λ (k : ℕ). take k bytes) long ∙ (ap (λ (v : List ℕ). take (length front) v) e ∙ (take-append-le (length front) front rest (omega arith) ∙ take_all (length front) front (omega arith)))

pub rest_fits : (bytes front rest : List ℕ) → bytes ≡ front ++ rest → length rest ≤ length bytes
rest_fits bytes front rest e = omega (arith, ap (λ (v : List ℕ). length v) e ∙ length-append front rest)

-- the front of an entry, piece by piece
pub head_spelled : (state : ℕ) (a bytes first after_state second after_a rest : List ℕ) → bytes ≡ 91 ∷ first → first ≡ decimal state ++ after_state → after_state ≡ 44 ∷ second
    → second ≡ compact_text (numbers_data a) ++ after_a → after_a ≡ 44 ∷ rest → bytes ≡ head_text state a ++ rest
head_spelled state a bytes first after_state second after_a rest e f g h i =
    let list : List ℕ = compact_text (numbers_data a) in
    let regroup : 91 ∷ (decimal state ++ 44 ∷ (list ++ 44 ∷ rest)) ≡ head_text state a ++ rest = simp append_assoc refl in
    e ∙ (ap (λ (v : List ℕ). 91 ∷ v) (f ∙ ap (λ (v : List ℕ). decimal state ++ v) (g ∙ ap (λ (v : List ℕ). 44 ∷ v) (h ∙ ap (λ (v : List ℕ). list ++ v) i))) ∙ regroup)

-- the number of a process
pub digit_text : (bytes rest : List ℕ) (byte n : ℕ) → bytes ≡ byte ∷ rest → 48 ≤ byte → n ≡ byte - 48 → n < 10 → bytes ≡ decimal n ++ rest
digit_text bytes rest byte n e low is small =
    let same : 48 + n ≡ byte = omega (arith, low, is) in
    e ∙ ap (λ (ds : List ℕ). ds ++ rest) (sym (decimal_digit n small ∙ ap (λ (b : ℕ). b ∷ []) same))

-- the number of a state above 9
pub two_digits : (n : ℕ) → 10 ≤ n → n < 16 → decimal n ≡ 49 ∷ (48 + (n - 10)) ∷ []
two_digits n low high =
    let one : n / 10 ≡ 1 = omega (arith, low, high) in
    let rest : n % 10 ≡ n - 10 = omega (arith, low, high) in
    decimal_step n low (omega (arith, high))
    ∙ (ap (λ (q : ℕ). decimal q ++ (48 + n % 10) ∷ []) one ∙ (ap (λ (ds : List ℕ). ds ++ (48 + n % 10) ∷ []) (decimal_digit 1 (omega arith)) ∙ ap (λ (d : ℕ). 49 ∷ (48 + d) ∷ []) rest))

-- ---- numbers that are known

-- one number more has been found
pub number_past : (later : Bool) (list : List ℕ) (i : ℕ) (left behind rest : List ℕ) → i < length list → left ≡ comma_if later ++ (decimal (get_or list i 0) ++ behind)
    → behind ≡ items_text true (items_of (map number_data (drop (i + 1) list))) ++ rest → left ≡ items_text later (items_of (map number_data (drop i list))) ++ rest
number_past later list i left behind rest inside e f =
    let n : ℕ = get_or list i 0 in
    let after : List ℕ = items_text true (numbers (drop (i + 1) list)) in
    let next : suc i ≡ i + 1 = omega arith in
    let here : drop i list ≡ n ∷ drop (i + 1) list = drop-cons list i 0 inside ∙ ap (λ (k : ℕ). n ∷ drop k list) next in
    e ∙ (ap (λ (v : List ℕ). comma_if later ++ (decimal n ++ v)) f ∙ (ap (λ (v : List ℕ). comma_if later ++ v) (sym (append_assoc (decimal n) after rest))
    ∙ (sym (append_assoc (comma_if later) (decimal n ++ after) rest) ∙ ap (λ (ns : List ℕ). items_text later (numbers ns) ++ rest) (sym here))))

-- each of the first numbers is small, and one more
pub small_past : (limit : ℕ) (list : List ℕ) (i : ℕ) → i < length list → get_or list i 0 ≤ limit → list_all (λ n. nat_le n limit) (take i list) ≡ true
    → list_all (λ n. nat_le n limit) (take (i + 1) list) ≡ true
small_past limit list i inside low so_far =
    let n : ℕ = get_or list i 0 in
    let small : list_all (λ n. nat_le n limit) (n ∷ []) ≡ true = rw (le-leb n limit low) refl in
    ap (λ (xs : List ℕ). list_all (λ n. nat_le n limit) xs) (take_next list i inside) ∙ (list_all-append (λ n. nat_le n limit) (take i list) (n ∷ []) ∙ rw (so_far, small) refl)

-- all numbers have been found
pub numbers_end : (later : Bool) (list : List ℕ) (i : ℕ) (left rest : List ℕ) → length list ≡ i → left ≡ 93 ∷ rest → left ≡ items_text later (items_of (map number_data (drop i list))) ++ rest
numbers_end later list i left rest end e = e ∙ ap (λ (ns : List ℕ). items_text later (numbers ns) ++ rest) (sym (drop_all i list (omega (arith, end))))

-- ---- numbers that are read

pub small_read : (limit p : ℕ) (out new : List ℕ) → new ≡ out ++ p ∷ [] → p ≤ limit → list_all (λ n. nat_le n limit) out ≡ true → list_all (λ n. nat_le n limit) new ≡ true
small_read limit p out new e low so_far =
    let small : list_all (λ n. nat_le n limit) (p ∷ []) ≡ true = rw (le-leb p limit low) refl in
    ap (λ (xs : List ℕ). list_all (λ n. nat_le n limit) xs) e ∙ (list_all-append (λ n. nat_le n limit) out (p ∷ []) ∙ rw (so_far, small) refl)

pub read_first : (bytes out left : List ℕ) → out ≡ [] → bytes ≡ 91 ∷ left
    → (n : ℕ) (ns rest : List ℕ) → left ≡ decimal n ++ (items_text true (items_of (map number_data ns)) ++ rest) → bytes ≡ compact_text (numbers_data (out ++ n ∷ ns)) ++ rest
read_first bytes out left none e n ns rest f =
    e ∙ (ap (λ (v : List ℕ). 91 ∷ v) (f ∙ sym (append_assoc (decimal n) (items_text true (numbers ns)) rest)) ∙ ap (λ (xs : List ℕ). compact_text (numbers_data (xs ++ n ∷ ns)) ++ rest) (sym none))

pub greatest_read : (before after p : ℕ) (out new : List ℕ) → new ≡ out ++ p ∷ [] → before ≤ after → p ≤ after → All (λ q. q ≤ before) out → All (λ q. q ≤ after) new
greatest_read before after p out new e low own all =
    subst (λ (xs : List ℕ). All (λ q. q ≤ after) xs) (sym e)
    (All-append (λ q. q ≤ after) out (p ∷ []) (All-weaker (λ q. q ≤ before) (λ q. q ≤ after) (λ q l. omega (arith, l, low)) out all)
    (All-from_recursion (λ q. q ≤ after) (p ∷ []) (own, tt)))

-- ---- numbers one by one

module _ (bytes out left : List ℕ)
    (text : (n : ℕ) (ns rest : List ℕ) → left ≡ decimal n ++ (items_text true (items_of (map number_data ns)) ++ rest) → bytes ≡ compact_text (numbers_data (out ++ n ∷ ns)) ++ rest) where
  pub read_end : (p : ℕ) (after rest : List ℕ) → left ≡ decimal p ++ after → after ≡ 93 ∷ rest → bytes ≡ compact_text (numbers_data (out ++ p ∷ [])) ++ rest
  read_end p after rest e f = text p [] rest (e ∙ ap (λ (v : List ℕ). decimal p ++ v) f)

  pub read_more : (p : ℕ) (after behind : List ℕ) → left ≡ decimal p ++ after → after ≡ 44 ∷ behind
      → (n : ℕ) (ns rest : List ℕ) → behind ≡ decimal n ++ (items_text true (items_of (map number_data ns)) ++ rest) → bytes ≡ compact_text (numbers_data ((out ++ p ∷ []) ++ n ∷ ns)) ++ rest
  read_more p after behind e f n ns rest g =
      let later : behind ≡ (decimal n ++ items_text true (numbers ns)) ++ rest = g ∙ sym (append_assoc (decimal n) (items_text true (numbers ns)) rest) in
      text p (n ∷ ns) rest (e ∙ ap (λ (v : List ℕ). decimal p ++ v) (f ∙ ap (λ (v : List ℕ). 44 ∷ v) later))
      ∙ ap (λ (xs : List ℕ). compact_text (numbers_data xs) ++ rest) (sym (append_assoc out (p ∷ []) (n ∷ ns)))
