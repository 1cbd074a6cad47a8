-- The finest divisions of meetings with one stock of operations have the same sizes.
use Rattle.std.proofs.Common.{ℕ, zero, suc, ◌≡◌, ◌≢◌, ◌↔◌, ◌+◌, ◌<◌, ◌≤◌, ◌⊎◌, inl, inr, Bool, true, false, cond, List, [], ◌∷◌, map, refl, sym, ap, ◌∙◌, subst, arith, nat_eq, true≢false}
use Rattle.std.specs.List.{count_by, range_with_len}
use Rattle.std.proofs.lemmas.Bool.{eqb-true, eq-eqb}
use Rattle.cn_table.specs.TypeTable.{TypeTable}
use Rattle.cn_choice.proofs.ListLemmas.Members.{IsIn}
use Rattle.cn_choice.proofs.ListLemmas.Permutations.{in_range, range_in}
use Rattle.cn_meetings.specs.Division as division
use Rattle.cn_meetings.specs.Meeting.{Meeting, Sight}
use Rattle.cn_stocks.specs.Words.{HaveSame, IsKnown, times}
use Rattle.cn_stocks.proofs.StockLemmas.{before_or_behind}
use Rattle.cn_stocks.proofs.Times.{one, one_else, one_of, one_some, same_or, same_sym, times_cons, times_none}
use Rattle.cn_divisions.specs.Divisions.{HaveSight, IsFinestOf, first, operations_of}
use Rattle.cn_divisions.specs.Joins.{AreConnected}
use Rattle.cn_divisions.specs.Sizes.{AreSizes}
use Rattle.cn_divisions.proofs.Counting.{as_one, by_value, count_cons, in_times, total}
use Rattle.cn_divisions.proofs.Links.{connected_by_operations, process_of, twins_of_three}
use Rattle.cn_divisions.proofs.Twins.{twins_connected}

-- ---- teams under other names
abbrev pub AreAlikeBelow : ℕ → (ℕ → ℕ) → (ℕ → ℕ) → Type 0
AreAlikeBelow n f g = (p q : ℕ) → p < n → q < n → (f p ≡ f q) ↔ (g p ≡ g q)

module _ (n : ℕ) (f g : ℕ → ℕ) (same : AreAlikeBelow n f g) where
  one_same : (p x : ℕ) → p < n → x < n → one (f p) (f x) ≡ one (g p) (g x)
  one_same p x l u = elim (same_or (f x) (f p)) [
    | inl e ↦ omega (arith, one_of (f p) (f x) e, one_of (g p) (g x) ((same x p u l).0 e))
    | inr m ↦ omega (arith, one_else (f p) (f x) m, one_else (g p) (g x) (λ e. m ((same x p u l).1 e)))
  ]

  times_same : (p : ℕ) → p < n → (ps : List ℕ) → ((q : ℕ) → IsIn q ps → q < n) → times (f p) (map f ps) ≡ times (g p) (map g ps)
  times_same p l [] small = refl
  times_same p l (x ∷ ps) small =
      omega (arith, times_cons (f p) (f x) (map f ps), times_cons (g p) (g x) (map g ps), one_same p x l (small x (inl refl)), times_same p l ps (λ q i. small q (inr i)))

  count_alike : (P Q : ℕ → Bool) (ps : List ℕ) → ((p : ℕ) → IsIn p ps → P (f p) ≡ Q (g p)) → count_by P (map f ps) ≡ count_by Q (map g ps)
  count_alike P Q [] alike = refl
  count_alike P Q (p ∷ ps) alike =
      omega (arith, count_cons P (f p) (map f ps), count_cons Q (g p) (map g ps), ap as_one (alike p (inl refl)), count_alike P Q ps (λ q i. alike q (inr i)))

  below_n : (p : ℕ) → IsIn p (range_with_len 0 n) → p < n
  below_n p i = let r = in_range 0 n p i in omega (arith, r.1)

  pub renamed_sizes : (sizes : List ℕ) → AreSizes (map f (range_with_len 0 n)) sizes → AreSizes (map g (range_with_len 0 n)) sizes
  renamed_sizes sizes are = record {
    sorted = are.sorted;
    some = are.some;
    counted = λ s. are.counted s
        ∙ count_alike (λ x. nat_eq (times x (map f (range_with_len 0 n))) s) (λ x. nat_eq (times x (map g (range_with_len 0 n))) s) (range_with_len 0 n)
        (λ p i. ap (λ (k : ℕ). nat_eq k s) (times_same p (below_n p i) (range_with_len 0 n) below_n));
  }

-- ---- the same stock
total_same : (f g : ℕ → ℕ) (k : ℕ) → ((x : ℕ) → f x ≡ g x) → total f k ≡ total g k
total_same f g zero e = refl
total_same f g (suc k) e = omega (arith, total_same f g k e, e k)

count_same : (P : ℕ → Bool) (k : ℕ) (xs ys : List ℕ) → IsKnown k xs → HaveSame xs ys → count_by P xs ≡ count_by P ys
count_same P k xs ys known same =
    by_value P k xs (λ x i. known x (in_times x xs i))
    ∙ (total_same (λ g. cond (P g) (times g xs) 0) (λ g. cond (P g) (times g ys) 0) k (λ x. ap (λ (m : ℕ). cond (P x) m 0) (same x))
    ∙ sym (by_value P k ys (λ x i. known x (let l = in_times x ys i in omega (arith, l, same x)))))

count_map : (P : ℕ → Bool) (C : ℕ → ℕ) (xs : List ℕ) → count_by P (map C xs) ≡ count_by (λ x. P (C x)) xs
count_map P C [] = refl
count_map P C (x ∷ xs) = omega (arith, count_cons P (C x) (map C xs), count_cons (λ y. P (C y)) x xs, count_map P C xs)

times_mapped : (C : ℕ → ℕ) (k : ℕ) (xs ys : List ℕ) → IsKnown k xs → HaveSame xs ys → (g : ℕ) → times g (map C xs) ≡ times g (map C ys)
times_mapped C k xs ys known same g =
    count_map (λ x. nat_eq x g) C xs ∙ (count_same (λ x. nat_eq (C x) g) k xs ys known same ∙ sym (count_map (λ x. nat_eq x g) C ys))

count_pointwise : (P Q : ℕ → Bool) (xs : List ℕ) → ((x : ℕ) → P x ≡ Q x) → count_by P xs ≡ count_by Q xs
count_pointwise P Q [] e = refl
count_pointwise P Q (x ∷ xs) e = omega (arith, count_cons P x xs, count_cons Q x xs, ap as_one (e x), count_pointwise P Q xs e)

stock_sizes : (C : ℕ → ℕ) (k : ℕ) (xs ys sizes : List ℕ) → IsKnown k xs → HaveSame xs ys → AreSizes (map C xs) sizes → AreSizes (map C ys) sizes
stock_sizes C k xs ys sizes known same are = record {
  sorted = are.sorted;
  some = are.some;
  counted = λ s. are.counted s
      ∙ (count_map (λ x. nat_eq (times x (map C xs)) s) C xs
      ∙ (count_same (λ x. nat_eq (times (C x) (map C xs)) s) k xs ys known same
      ∙ (count_pointwise (λ x. nat_eq (times (C x) (map C xs)) s) (λ x. nat_eq (times (C x) (map C ys)) s) ys (λ x. ap (λ (m : ℕ). nat_eq m s) (times_mapped C k xs ys known same (C x)))
      ∙ sym (count_map (λ x. nat_eq (times x (map C ys)) s) C ys))));
}

-- ---- two meetings
map_twice : (C f : ℕ → ℕ) (xs : List ℕ) → map C (map f xs) ≡ map (λ x. C (f x)) xs
map_twice C f [] = refl
map_twice C f (x ∷ xs) = ap (λ (l : List ℕ). C (f x) ∷ l) (map_twice C f xs)

in_mapped : (f : ℕ → ℕ) (p : ℕ) (xs : List ℕ) → IsIn p xs → 1 ≤ times (f p) (map f xs)
in_mapped f p [] i = absurd i
in_mapped f p (x ∷ xs) (inl e) = omega (arith, times_cons (f p) (f x) (map f xs), one_of (f p) (f x) (ap f e))
in_mapped f p (x ∷ xs) (inr i) = omega (arith, times_cons (f p) (f x) (map f xs), in_mapped f p xs i)

-- the operation of a process stands in the stock
pub in_stock : (n : ℕ) (stock : List ℕ) (M : Meeting) → HaveSame stock (operations_of M n) → (p : ℕ) → p < n → 1 ≤ times (M.operation p) stock
in_stock n stock M same p l = omega (arith, same (M.operation p), in_mapped M.operation p (range_with_len 0 n) (range_in 0 n p (omega arith) (omega (arith, l))))

-- the last process below k with the operation, or 0
find : (ℕ → ℕ) → ℕ → ℕ → ℕ
find op o zero = 0
find op o (suc k) = cond (nat_eq (op k) o) k (find op o k)

found : (op : ℕ → ℕ) (o k d : ℕ) → d < k → op d ≡ o → (find op o k < k) × (op (find op o k) ≡ o)
unfolding find
found op o zero d l e = absurd (omega (arith, l))
found op o (suc k) d l e = go (nat_eq (op k) o) refl (found op o k d)
  where
    go : (b : Bool) → nat_eq (op k) o ≡ b → (d < k → op d ≡ o → (find op o k < k) × (op (find op o k) ≡ o)) → (cond b k (find op o k) < suc k) × (op (cond b k (find op o k)) ≡ o)
    go true h rest = (omega arith, eqb-true (op k) o h)
    go false h rest = elim (same_or d k) [
      | inl u ↦ absurd (true≢false (sym (eq-eqb (op k) o (ap op (sym u) ∙ e)) ∙ h))
      | inr m ↦ (let r = rest (omega (arith, l, m)) e in (omega (arith, r.0), r.1))
    ]

module _ (t : TypeTable) (sight : Sight) (n : ℕ) (N : Meeting) (alike_n : HaveSight N n sight) (other : ℕ → ℕ) (finest_n : IsFinestOf t N n other) where
  abbrev C : ℕ → ℕ
  C o = other (find N.operation o n)

  module _ (twins_n : (p q : ℕ) → p < n → q < n → N.operation p ≡ N.operation q → division.AreConnected t N (first n) p q) where
    -- teams by operations
    by_operations : (M : Meeting) (team : ℕ → ℕ) → HaveSight M n sight → M.start ≡ N.start → HaveSame (operations_of N n) (operations_of M n) → IsFinestOf t M n team
        → ((p q : ℕ) → p < n → q < n → M.operation p ≡ M.operation q → division.AreConnected t M (first n) p q) → AreAlikeBelow n team (λ p. C (M.operation p))
    by_operations M team alike start same finest twins p q l u =
        let stock = operations_of N n in
        let here : (p : ℕ) → p < n → (d : ℕ) × (d < n) × (N.operation d ≡ M.operation p) = λ p l. process_of t N n sight alike_n stock (λ o. refl) (M.operation p) (in_stock n stock M same p l) in
        let x = here p l in
        let y = here q u in
        let xs = found N.operation (M.operation p) n x.0 x.1 x.2 in
        let ys = found N.operation (M.operation q) n y.0 y.1 y.2 in
        let at_n = connected_by_operations t N n sight alike_n stock (λ o. refl) twins_n (find N.operation (M.operation p) n) (find N.operation (M.operation q) n) xs.0 ys.0 in
        let at_m = connected_by_operations t M n sight alike stock same twins p q l u in
        let fin = finest p q l u in
        let fon = finest_n (find N.operation (M.operation p) n) (find N.operation (M.operation q) n) xs.0 ys.0 in (
          λ e. fon.1 (at_n.1 (rw (xs.1, ys.1, ← start) (at_m.0 (fin.0 e)))),
          λ e. fin.1 (at_m.1 (rw start (subst (λ (f : ℕ). AreConnected t sight N.start stock f (M.operation q)) xs.1 (subst (AreConnected t sight N.start stock (N.operation (find N.operation (M.operation p) n))) ys.1 (at_n.0 (fon.0 e)))))),
        )

    sizes_by_operations : (M : Meeting) (team : ℕ → ℕ) → HaveSight M n sight → M.start ≡ N.start → HaveSame (operations_of N n) (operations_of M n) → IsFinestOf t M n team
        → ((p q : ℕ) → p < n → q < n → M.operation p ≡ M.operation q → division.AreConnected t M (first n) p q)
        → (k : ℕ) → IsKnown k (operations_of N n) → (sizes : List ℕ) → AreSizes (map other (range_with_len 0 n)) sizes → AreSizes (map team (range_with_len 0 n)) sizes
    sizes_by_operations M team alike start same finest twins k known sizes are =
        let own = by_operations N other alike_n refl (λ o. refl) finest_n twins_n in
        let its = by_operations M team alike start same finest twins in
        let first_sizes = renamed_sizes n other (λ p. C (N.operation p)) own sizes are in
        let by_stock = subst (λ (l : List ℕ). AreSizes l sizes) (sym (map_twice C N.operation (range_with_len 0 n))) first_sizes in
        let moved = stock_sizes C k (operations_of N n) (operations_of M n) sizes known same by_stock in
        renamed_sizes n (λ p. C (M.operation p)) team (λ p q l u. ((its p q l u).1, (its p q l u).0)) sizes
        (subst (λ (l : List ℕ). AreSizes l sizes) (map_twice C M.operation (range_with_len 0 n)) moved)

-- ---- two processes
pub differing_twins : (t : TypeTable) (M : Meeting) → M.operation 0 ≢ M.operation 1 → (p q : ℕ) → p < 2 → q < 2 → M.operation p ≡ M.operation q → division.AreConnected t M (first 2) p q
differing_twins t M ne zero zero l u e = division.AreConnected.Itself 0
differing_twins t M ne zero (suc zero) l u e = absurd (ne e)
differing_twins t M ne (suc zero) zero l u e = absurd (ne (sym e))
differing_twins t M ne (suc zero) (suc zero) l u e = division.AreConnected.Itself 1
differing_twins t M ne (suc (suc p)) q l u e = absurd (omega (arith, l))
differing_twins t M ne zero (suc (suc q)) l u e = absurd (omega (arith, u))
differing_twins t M ne (suc zero) (suc (suc q)) l u e = absurd (omega (arith, u))

-- how often an operation stands in the stock of two processes
pair_times : (M : Meeting) (o : ℕ) → times o (operations_of M 2) ≡ one o (M.operation 0) + one o (M.operation 1)
pair_times M o = omega (arith, times_cons o (M.operation 0) (M.operation 1 ∷ []), times_cons o (M.operation 1) [], times_none o)

small_one : (o x : ℕ) → one o x ≤ 1
small_one o x = elim (same_or x o) [ inl e ↦ omega (arith, one_of o x e) | inr m ↦ omega (arith, one_else o x m) ]

both : (M N : Meeting) (a : ℕ) → N.operation 0 ≡ a → N.operation 1 ≡ a → HaveSame (operations_of N 2) (operations_of M 2) → (M.operation 0 ≡ a) × (M.operation 1 ≡ a)
both M N a e f same =
    let s = same a in
    let two : one a (M.operation 0) + one a (M.operation 1) ≡ 2 = omega (arith, s, pair_times M a, pair_times N a, one_of a (N.operation 0) e, one_of a (N.operation 1) f) in (
      one_some a (M.operation 0) (omega (arith, two, small_one a (M.operation 1))),
      one_some a (M.operation 1) (omega (arith, two, small_one a (M.operation 0))),
    )

twin_sizes : (t : TypeTable) (M N : Meeting) (a : ℕ) (team other : ℕ → ℕ) → N.operation 0 ≡ a → N.operation 1 ≡ a → M.start ≡ N.start → HaveSame (operations_of N 2) (operations_of M 2)
    → IsFinestOf t N 2 other → IsFinestOf t M 2 team → AreAlikeBelow 2 other team
twin_sizes t M N a team other e f start same finest_n finest p q l u =
    let its = both M N a e f same in
    let at_n = twins_connected t N a e f p q l u in
    let at_m = twins_connected t M a its.0 its.1 p q l u in
    let fon = finest_n p q l u in
    let fin = finest p q l u in (
      λ h. fin.1 (at_m.1 (elim (at_n.0 (fon.0 h)) [ inl x ↦ inl x | inr r ↦ inr (rw start r) ])),
      λ h. fon.1 (at_n.1 (elim (at_m.0 (fin.0 h)) [ inl x ↦ inl x | inr r ↦ inr (rw (← start) r) ])),
    )

three_or_two : (n : ℕ) → 2 ≤ n → (3 ≤ n) ⊎ (n ≡ 2)
three_or_two n l = elim (before_or_behind n 3) [ inl a ↦ inr (omega (arith, a, l)) | inr a ↦ inl a ]

-- two meetings that start alike, look alike and have the same operations have finest divisions of the same sizes
pub same_sizes : (t : TypeTable) (sight : Sight) (n : ℕ) (M N : Meeting) (team other : ℕ → ℕ) (sizes : List ℕ) → 2 ≤ n → HaveSight M n sight → HaveSight N n sight → M.start ≡ N.start
    → HaveSame (operations_of N n) (operations_of M n) → (k : ℕ) → IsKnown k (operations_of N n) → IsFinestOf t M n team → IsFinestOf t N n other
    → AreSizes (map other (range_with_len 0 n)) sizes → AreSizes (map team (range_with_len 0 n)) sizes
same_sizes t sight n M N team other sizes many alike_m alike_n start same k known finest_m finest_n are = elim (three_or_two n many) [
  | inl three ↦ sizes_by_operations t sight n N alike_n other finest_n (twins_of_three t N n three) M team alike_m start same finest_m (twins_of_three t M n three) k known sizes are
  | inr two ↦ of_two n two M N team other alike_m alike_n same known finest_m finest_n are start
]
  where
    of_two : (n : ℕ) → n ≡ 2 → (M N : Meeting) (team other : ℕ → ℕ) → HaveSight M n sight → HaveSight N n sight → HaveSame (operations_of N n) (operations_of M n) → IsKnown k (operations_of N n)
        → IsFinestOf t M n team → IsFinestOf t N n other → AreSizes (map other (range_with_len 0 n)) sizes → M.start ≡ N.start → AreSizes (map team (range_with_len 0 n)) sizes
    of_two zero two M N team other am an s kn fm fn are start = absurd (omega (arith, two))
    of_two (suc zero) two M N team other am an s kn fm fn are start = absurd (omega (arith, two))
    of_two (suc (suc zero)) two M N team other am an s kn fm fn are start = elim (same_or (N.operation 1) (N.operation 0)) [
      | inl e ↦ renamed_sizes 2 other team (twin_sizes t M N (N.operation 0) team other refl e start s fn fm) sizes are
      | inr m ↦ sizes_by_operations t sight 2 N an other fn (differing_twins t N (λ e. m (sym e))) M team am start s fm
          (differing_twins t M (λ e. (let b = both N M (M.operation 0) refl (sym e) (same_sym (operations_of N 2) (operations_of M 2) s) in m (b.1 ∙ sym b.0)))) k kn sizes are
    ]
    of_two (suc (suc (suc n))) two M N team other am an s kn fm fn are start = absurd (omega (arith, two))
