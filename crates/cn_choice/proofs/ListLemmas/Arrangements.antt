-- The lists of k numbers taken one after another out of a list; ranks among the numbers left choose them.
use Rattle.std.proofs.Common.{◌≡◌, ◌≢◌, ℕ, zero, suc, ◌+◌, ◌-◌, ◌<◌, ◌≤◌, inl, inr, List, [], ◌∷◌, ◌++◌, length, map, get_or, refl, sym, ap, ◌∙◌, subst, arith, Less, Equal, length-append}
use Rattle.std.specs.Bool.{⊤}
use Rattle.std.specs.List.{remove, flat_map}
use Rattle.std.proofs.lemmas.List.Edits.{length-remove}
use Rattle.itertools.specs.Odometer.{numbers, ways}
use Rattle.itertools.specs.Pool.{unranked}
use Rattle.std.specs.Ordering.{nat_cmp}
use Rattle.std.specs.Cmp.{nat_cmp_is}
use Rattle.std.proofs.lemmas.List.{map-append}
use Rattle.std.proofs.lemmas.Simd.{map-map}
use Rattle.std.specs.Cmp.Lexicographic.{slice_cmp}
use Rattle.std.proofs.lemmas.Bool.{lt-ltb}
use Rattle.cn_choice.specs.Arrangements.{arrangements}
use Rattle.cn_choice.proofs.ListLemmas.Members.{IsIn, IsIn-at, IsIn-flat_map, IsIn-flat_map_from, IsIn-map, IsIn-map_from, IsIn-remove, IsIn-remove_cases, Pairs, Pairs-at, Pairs-flat_map, Pairs-map, Pairs-remove, each_at, each_from, gone, place_of}

-- the numbers of the second list are taken one after another, each out of what is left of the first
abbrev pub IsTaken : List ℕ → List ℕ → Type 0
IsTaken free [] = ⊤
IsTaken free (x ∷ xs) = (d : ℕ) × (d < length free) × (get_or free d 0 ≡ x) × IsTaken (remove free d) xs

pub taken_in : (xs free : List ℕ) → IsTaken free xs → IsIn xs (arrangements (length xs) free)
taken_in [] free h = inl refl
taken_in (x ∷ xs) free h =
    IsIn-flat_map (λ d. map (λ ys. get_or free d 0 ∷ ys) (arrangements (length xs) (remove free d))) (x ∷ xs) h.0 0 (length free) (omega arith) (omega (arith, h.1))
    (subst (λ (y : ℕ). IsIn (y ∷ xs) (map (λ ys. get_or free h.0 0 ∷ ys) (arrangements (length xs) (remove free h.0)))) h.2
    (IsIn-map (λ ys. get_or free h.0 0 ∷ ys) xs _ (taken_in xs (remove free h.0) h.3)))

pub taken_from : (k : ℕ) (xs free : List ℕ) → IsIn xs (arrangements k free) → (length xs ≡ k) × IsTaken free xs
taken_from zero xs free h = elim h [ inl e ↦ subst (λ (ys : List ℕ). (length ys ≡ 0) × IsTaken free ys) e (refl, tt) | inr n ↦ absurd n ]
taken_from (suc k) xs free h =
    let r = IsIn-flat_map_from (λ d. map (λ ys. get_or free d 0 ∷ ys) (arrangements k (remove free d))) xs 0 (length free) h in
    let m = IsIn-map_from (λ ys. get_or free r.0 0 ∷ ys) xs _ r.3 in
    let t = taken_from k m.0 (remove free r.0) m.2 in
    subst (λ (ys : List ℕ). (length ys ≡ suc k) × IsTaken free ys) m.1
    (ap suc t.0, (r.0, omega (arith, r.2), refl, t.1))

-- each number taken is in the list
pub taken_known : (xs free : List ℕ) (x : ℕ) → IsTaken free xs → IsIn x xs → IsIn x free
taken_known [] free x h i = absurd i
taken_known (y ∷ xs) free x h i =
    elim i [ inl e ↦ subst (λ (z : ℕ). IsIn z free) (h.2 ∙ e) (IsIn-at free h.0 0 h.1) | inr j ↦ IsIn-remove x free h.0 (taken_known xs (remove free h.0) x h.3 j) ]

pub taken_long : (xs free : List ℕ) → IsTaken free xs → length xs ≤ length free
taken_long [] free h = omega arith
taken_long (x ∷ xs) free h = omega (arith, taken_long xs (remove free h.0) h.3, length-remove free h.0 h.1)

-- no number is equal to a later one
abbrev pub Differ : List ℕ → Type 0
Differ xs = Pairs (λ x y. x ≢ y) xs

-- each number is below each later one
abbrev pub Rises : List ℕ → Type 0
Rises xs = Pairs (λ x y. x < y) xs

below_itself : (x : ℕ) → x < x → ⊥
below_itself x l = omega arith

pub taken_differ : (xs free : List ℕ) → Rises free → IsTaken free xs → Differ xs
taken_differ [] free a h = tt
taken_differ (x ∷ xs) free a h = (
  each_from (λ y. x ≢ y) xs (λ y i e. gone (λ x y. x < y) free h.0 0 below_itself a h.1
      (subst (λ (z : ℕ). IsIn z (remove free h.0)) (sym (h.2 ∙ e)) (taken_known xs (remove free h.0) y h.3 i))),
  taken_differ xs (remove free h.0) (Pairs-remove (λ x y. x < y) free h.0 a) h.3,
)

pub differ_taken : (xs free : List ℕ) → Differ xs → ((x : ℕ) → IsIn x xs → IsIn x free) → IsTaken free xs
differ_taken [] free p h = tt
differ_taken (x ∷ xs) free p h =
    let w = place_of x free 0 (h x (inl refl)) in (
      w.0,
      w.1,
      w.2,
      differ_taken xs (remove free w.0) p.1 (λ y i.
          elim (IsIn-remove_cases y free w.0 0 (h y (inr i))) [ inl e ↦ absurd (each_at (λ z. x ≢ z) xs y p.0 i (sym w.2 ∙ e)) | inr r ↦ r ]),
    )

-- ---- the order of the arrangements

-- the first comes before the second in lexicographic order
abbrev pub Precedes : List ℕ → List ℕ → Type 0
Precedes xs ys = slice_cmp nat_cmp xs ys ≡ Less

pub Precedes-head : (x y : ℕ) (xs ys : List ℕ) → x < y → Precedes (x ∷ xs) (y ∷ ys)
Precedes-head x y xs ys l = rw (lt-ltb x y l) refl

pub Precedes-tail : (x : ℕ) (xs ys : List ℕ) → Precedes xs ys → Precedes (x ∷ xs) (x ∷ ys)
Precedes-tail x xs ys p = rw (sym (nat_cmp_is x x Equal refl)) p

pub arrangements_rise : (k : ℕ) (free : List ℕ) → Rises free → Pairs Precedes (arrangements k free)
arrangements_rise zero free a = (tt, tt)
arrangements_rise (suc k) free a =
    Pairs-flat_map Precedes (λ d. map (λ xs. get_or free d 0 ∷ xs) (arrangements k (remove free d))) 0 (length free)
    (λ d l u. Pairs-map (λ xs. get_or free d 0 ∷ xs) Precedes Precedes (arrangements k (remove free d)) (λ x y p. Precedes-tail (get_or free d 0) x y p)
    (arrangements_rise k (remove free d) (Pairs-remove (λ x y. x < y) free d a)))
    (λ d e x y l g u i j.
    let r = IsIn-map_from (λ xs. get_or free d 0 ∷ xs) x _ i in
    let s = IsIn-map_from (λ xs. get_or free e 0 ∷ xs) y _ j in
    subst (λ (v : List ℕ). Precedes v y) r.1 (subst (λ (v : List ℕ). Precedes (get_or free d 0 ∷ r.0) v) s.1
    (Precedes-head (get_or free d 0) (get_or free e 0) r.0 s.0 (Pairs-at (λ x y. x < y) free d e 0 a g (omega (arith, u))))))

-- ---- ranks among the numbers left give the arrangements

map-flat_map : {X Y : Type 0} (g : X → Y) (f : ℕ → List X) (h : ℕ → List Y) (a m top : ℕ) → a + m ≤ top → ((d : ℕ) → d < top → map g (f d) ≡ h d)
    → map g (flat_map f (numbers a m)) ≡ flat_map h (numbers a m)
map-flat_map g f h a zero top l e = refl
map-flat_map g f h a (suc m) top l e =
    rw (map-append g (f a) (flat_map f (numbers (a + 1) m)), e a (omega arith), map-flat_map g f h (a + 1) m top (omega arith) e) refl

pub unranked-ways : (n k : ℕ) (p free : List ℕ) → length p + length free ≡ n → map (unranked free) (ways (λ _. 0) (λ q. n - length q) k p) ≡ arrangements k free
unranked-ways n zero p free e = refl
unranked-ways n (suc k) p free e =
    let room : n - length p - 0 ≡ length free = omega arith in
    rw room (map-flat_map (unranked free) (λ d. map (λ ds. d ∷ ds) (ways (λ _. 0) (λ q. n - length q) k (p ++ d ∷ [])))
    (λ d. map (λ xs. get_or free d 0 ∷ xs) (arrangements k (remove free d))) 0 (length free) (length free) (omega arith)
    (λ d l.
    map-map (unranked free) (λ ds. d ∷ ds) (ways (λ _. 0) (λ q. n - length q) k (p ++ d ∷ []))
    ∙ sym (map-map (λ xs. get_or free d 0 ∷ xs) (unranked (remove free d)) (ways (λ _. 0) (λ q. n - length q) k (p ++ d ∷ [])))
    ∙ ap (map (λ xs. get_or free d 0 ∷ xs)) (unranked-ways n k (p ++ d ∷ []) (remove free d) (omega (arith, length-append p (d ∷ []), length-remove free d l, e)))))
