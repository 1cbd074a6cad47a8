-- Yes or no: numbers below a bound, and words of a bounded length.
use Rattle.std.proofs.Common.{◌≡◌, ℕ, zero, suc, ◌<◌, ◌≤◌, ◌⊎◌, inl, inr, List, [], ◌∷◌, length, refl, subst, arith}
use Rattle.cn_stocks.specs.Words.{HaveSame, IsKnown, IsWithin, times}
use Rattle.cn_stocks.proofs.StockLemmas.{before_or_behind}
use Rattle.cn_stocks.proofs.Times.{one, one_else, same_or, times_at, times_cons, times_none}

abbrev pub OrNot : Type 0 → Type 0
OrNot P = P ⊎ (¬ P)

pub both : (P Q : Type 0) → OrNot P → OrNot Q → OrNot (P × Q)
both P Q (inl p) (inl q) = inl (p, q)
both P Q (inr n) q = inr (λ h. n h.0)
both P Q (inl p) (inr n) = inr (λ h. n h.1)

pub some_below : (P : ℕ → Type 0) (n : ℕ) → ((i : ℕ) → i < n → OrNot (P i)) → OrNot ((i : ℕ) × (i < n) × P i)
some_below P zero each = inr (λ h. absurd (omega (arith, h.1)))
some_below P (suc n) each = elim (some_below P n (λ i l. each i (omega (arith, l)))) [
  | inl h ↦ inl (h.0, omega (arith, h.1), h.2)
  | inr none ↦ elim (each n (omega arith)) [
    | inl p ↦ inl (n, omega arith, p)
    | inr fails ↦ inr (λ h. elim (before_or_behind h.0 n) [ inl l ↦ none (h.0, l, h.2) | inr l ↦ fails (let e : h.0 ≡ n = omega (arith, l, h.1) in subst P e h.2) ])
  ]
]

pub all_below : (P : ℕ → Type 0) (n : ℕ) → ((i : ℕ) → i < n → OrNot (P i)) → OrNot ((i : ℕ) → i < n → P i)
all_below P zero each = inl (λ i l. absurd (omega (arith, l)))
all_below P (suc n) each = elim (all_below P n (λ i l. each i (omega (arith, l)))) [
  | inr fails ↦ inr (λ h. fails (λ i l. h i (omega (arith, l))))
  | inl all ↦ elim (each n (omega arith)) [
    | inr fails ↦ inr (λ h. fails (h n (omega arith)))
    | inl p ↦ inl (λ i l. elim (before_or_behind i n) [ inl u ↦ all i u | inr u ↦ (let e : n ≡ i = omega (arith, l, u) in subst P e p) ])
  ]
]

pub up_to_or_not : (a b : ℕ) → OrNot (a ≤ b)
up_to_or_not a b = elim (before_or_behind b a) [ inl l ↦ inr (λ h. absurd (omega (arith, h, l))) | inr l ↦ inl l ]

-- ---- words

pub known_none : (k : ℕ) → IsKnown k []
known_none k o l = absurd (omega (arith, l, times_none o))

pub known_more : (k x : ℕ) (word : List ℕ) → x < k → IsKnown k word → IsKnown k (x ∷ word)
known_more k x word l known o h = elim (same_or x o) [
  | inl e ↦ omega (arith, e, l)
  | inr n ↦ known o (omega (arith, h, times_cons o x word, one_else o x n))
]

pub known_first : (k x : ℕ) (word : List ℕ) → IsKnown k (x ∷ word) → x < k
known_first k x word known = known x (times_at x word)

pub known_rest : (k x : ℕ) (word : List ℕ) → IsKnown k (x ∷ word) → IsKnown k word
known_rest k x word known o h = known o (omega (arith, h, times_cons o x word))

pub record WordWith (k long : ℕ) (P : List ℕ → Type 0) : Type 0 where
  pub word : List ℕ
  pub short : length word ≤ long
  pub known : IsKnown k word
  pub has : P word

pub some_word : (k long : ℕ) (P : List ℕ → Type 0) → ((word : List ℕ) → IsKnown k word → OrNot (P word)) → OrNot (WordWith k long P)
some_word k zero P each = elim (each [] (known_none k)) [
  | inl p ↦ inl (record { word = []; short = omega arith; known = known_none k; has = p })
  | inr fails ↦ inr (λ w. empty w.word w.short w.has fails)
]
  where
    empty : (word : List ℕ) → length word ≤ 0 → P word → ¬ P [] → ⊥
    empty [] l p fails = fails p
    empty (x ∷ word) l p fails = absurd (omega (arith, l))
some_word k (suc long) P each = elim (each [] (known_none k)) [
  | inl p ↦ inl (record { word = []; short = omega arith; known = known_none k; has = p })
  | inr fails ↦ elim (some_below (λ x. WordWith k long (λ word. P (x ∷ word))) k (λ x l. some_word k long (λ word. P (x ∷ word)) (λ word known. each (x ∷ word) (known_more k x word l known)))) [
    | inl h ↦ (let w = h.2 in inl (record { word = h.0 ∷ w.word; short = omega (arith, w.short); known = known_more k h.0 w.word h.1 w.known; has = w.has }))
    | inr none ↦ inr (λ w. some w.word w.short w.known w.has fails none)
  ]
]
  where
    some : (word : List ℕ) → length word ≤ suc long → IsKnown k word → P word → ¬ P [] → ¬ ((x : ℕ) × (x < k) × WordWith k long (λ word. P (x ∷ word))) → ⊥
    some [] l known p fails none = fails p
    some (x ∷ word) l known p fails none = none (x, known_first k x word known, record { word = word; short = omega (arith, l); known = known_rest k x word known; has = p })

-- ---- within a stock

pub within_or_not : (k : ℕ) (stock word : List ℕ) → IsKnown k word → OrNot (IsWithin stock word)
within_or_not k stock word known = elim (all_below (λ o. times o word ≤ times o stock) k (λ o l. up_to_or_not (times o word) (times o stock))) [
  | inl all ↦ inl (λ o. elim (before_or_behind o k) [
    | inl l ↦ all o l
    | inr l ↦ elim (before_or_behind 0 (times o word)) [ inl some ↦ absurd (omega (arith, l, known o (omega (arith, some)))) | inr none ↦ omega (arith, none) ]
  ])
  | inr fails ↦ inr (λ h. fails (λ o l. h o))
]

-- what is left of a list without one x
pub without : (x : ℕ) (list : List ℕ) → 1 ≤ times x list → (rest : List ℕ) × HaveSame list (x ∷ rest) × (length list ≡ suc (length rest))
without x [] l = absurd (omega (arith, l, times_none x))
without x (y ∷ list) l = elim (same_or y x) [
  | inl e ↦ (list, (λ o. let same : one o y ≡ one o x = at o e in omega (arith, same, times_cons o y list, times_cons o x list)), omega arith)
  | inr n ↦ (
      let r = without x list (omega (arith, l, times_cons x y list, one_else x y n)) in
      (y ∷ r.0, (λ o. omega (arith, r.1 o, times_cons o y list, times_cons o x r.0, times_cons o x (y ∷ r.0), times_cons o y r.0)), omega (arith, r.2))
      )
]
  where
    at : (o : ℕ) → y ≡ x → one o y ≡ one o x
    at o e = subst (λ (z : ℕ). one o y ≡ one o z) e refl

pub within_short : (word stock : List ℕ) → IsWithin stock word → length word ≤ length stock
within_short [] stock w = omega arith
within_short (x ∷ word) stock w =
    let r = without x stock (omega (arith, w x, times_at x word)) in
    let rest = within_short word r.0 (λ o. omega (arith, w o, r.1 o, times_cons o x word, times_cons o x r.0)) in
    omega (arith, rest, r.2)
