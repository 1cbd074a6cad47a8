-- Teams that become one, pair after pair, lead from a division to each coarser one.
use Rattle.std.proofs.Common.{ℕ, zero, suc, ◌≡◌, ◌≢◌, ◌+◌, ◌<◌, ◌≤◌, ◌⊎◌, inl, inr, true, false, cond, List, [], ◌∷◌, length, refl, sym, ap, ◌∙◌, subst, arith, nat_eq}
use Rattle.std.specs.Prelude.{slice_index}
use Rattle.std.proofs.lemmas.Bool.Decides.{nat_tests}
use Rattle.cn_stocks.specs.Words.{times}
use Rattle.cn_stocks.proofs.Times.{one, one_else, one_of, same_or, times_cons, times_none}
use Rattle.cn_tree_costs.specs.Sizes.{team_size}
use Rattle.cn_shortest.specs.Examples.{moved}
use Rattle.cn_shortest.specs.Roots.{AreSame, AreWithin}
use Rattle.cn_shortest.specs.Sizes.{AreMerged, HasBoth}
use Rattle.cn_shortest.proofs.Dividing.{size_less}
use Rattle.cn_shortest.proofs.Permuted.{both_cons}
use Rattle.cn_shortest.proofs.TeamCounts.{counts_at, counts_long, counts_of, number, total_two}

pub moved_there : (f : ℕ → ℕ) (u v p : ℕ) → f p ≡ u → moved f u v p ≡ v
moved_there f u v p e = (let y : nat_eq (f p) u ≡ true = grind (arith, nat_tests) in ap (λ b. cond b v (f p)) y)

pub moved_not : (f : ℕ → ℕ) (u v p : ℕ) → f p ≢ u → moved f u v p ≡ f p
moved_not f u v p n = (let y : nat_eq (f p) u ≡ false = grind (arith, nat_tests) in ap (λ b. cond b v (f p)) y)

module _ (f : ℕ → ℕ) (u v : ℕ) (ne : u ≢ v) where
  size_from : (n : ℕ) → team_size (moved f u v) n u ≡ 0
  size_from zero = refl
  size_from (suc n) = elim (same_or (f n) u) [
    | inl e ↦ omega (arith, size_from n, one_else u (moved f u v n) (λ k. ne (sym k ∙ moved_there f u v n e)))
    | inr m ↦ omega (arith, size_from n, one_else u (moved f u v n) (λ k. m (sym (moved_not f u v n m) ∙ k)))
  ]

  size_to : (n : ℕ) → team_size (moved f u v) n v ≡ team_size f n u + team_size f n v
  size_to zero = refl
  size_to (suc n) = elim (same_or (f n) u) [
    | inl e ↦ omega (arith, size_to n, one_of v (moved f u v n) (moved_there f u v n e), one_of u (f n) e, one_else v (f n) (λ k. ne (sym e ∙ k)))
    | inr m ↦ omega (arith, size_to n, ap (one v) (moved_not f u v n m), one_else u (f n) m)
  ]

  size_else : (n g : ℕ) → g ≢ u → g ≢ v → team_size (moved f u v) n g ≡ team_size f n g
  size_else zero g a b = refl
  size_else (suc n) g a b = elim (same_or (f n) u) [
    | inl e ↦ omega (arith, size_else n g a b, one_else g (moved f u v n) (λ k. b (sym k ∙ moved_there f u v n e)), one_else g (f n) (λ k. a (sym k ∙ e)))
    | inr m ↦ omega (arith, size_else n g a b, ap (one g) (moved_not f u v n m))
  ]

  module _ (n k : ℕ) (lu : u < k) (lv : v < k) where
    abbrev a : ℕ
    a = team_size f n u

    abbrev b : ℕ
    b = team_size f n v

    pub balance : (x : ℕ) → number n k (moved f u v) x + (one x a + one x b) ≡ number n k f x + (one x 0 + one x (a + b))
    balance x =
        let two = total_two (λ g. one x (team_size f n g)) (λ g. one x (team_size (moved f u v) n g)) u v k lu lv ne (λ g m w. sym (ap (one x) (size_else n g m w))) in
        omega (arith, two, ap (one x) (size_from n), ap (one x) (size_to n))

    no_zero : (x : ℕ) → one (suc x) 0 ≡ 0
    no_zero x = one_else (suc x) 0 (λ e. omega (arith, e))

    unchanged : (a ≡ 0) ⊎ (b ≡ 0) → AreSame (counts_of n k f) (counts_of n k (moved f u v))
    unchanged none zero l = counts_at n k f 0 l ∙ sym (counts_at n k (moved f u v) 0 l)
    unchanged (inl e) (suc x) l =
        let w : a + b ≡ b = omega (arith, e) in
        omega (arith, counts_at n k f (suc x) l, counts_at n k (moved f u v) (suc x) l, balance (suc x), ap (one (suc x)) e, ap (one (suc x)) w)
    unchanged (inr e) (suc x) l =
        let w : a + b ≡ a = omega (arith, e) in
        omega (arith, counts_at n k f (suc x) l, counts_at n k (moved f u v) (suc x) l, balance (suc x), ap (one (suc x)) e, ap (one (suc x)) w)

    merged : 1 ≤ a → 1 ≤ b → AreMerged (counts_of n k f) a b (counts_of n k (moved f u v))
    merged la lb = record { long = counts_long n k (moved f u v); each = each }
      where
        each : (x : ℕ) → x ≤ 8 → slice_index (counts_of n k (moved f u v)) x + times x (a ∷ (b ∷ [])) ≡ slice_index (counts_of n k f) x + times x ((a + b) ∷ [])
        each zero l =
            omega (arith, counts_at n k f 0 l, counts_at n k (moved f u v) 0 l, both_cons 0 a b, times_cons 0 (a + b) [], times_none 0, one_else 0 a (λ e. omega (arith, e, la)), one_else 0 b (λ e. omega (arith, e, lb)), one_else 0 (a + b) (λ e. omega (arith, e, la)))
        each (suc x) l =
            omega (arith, counts_at n k f (suc x) l, counts_at n k (moved f u v) (suc x) l, both_cons (suc x) a b, times_cons (suc x) (a + b) [], times_none (suc x), balance (suc x), no_zero x)

    has_both : 1 ≤ a → 1 ≤ b → HasBoth (counts_of n k f) a b
    has_both la lb zero l = omega (arith, both_cons 0 a b, one_else 0 a (λ e. omega (arith, e, la)), one_else 0 b (λ e. omega (arith, e, lb)))
    has_both la lb (suc x) l = elim (same_or (a + b) (suc x)) [
      | inl e ↦ omega (arith, both_cons (suc x) a b, one_else (suc x) a (λ w. omega (arith, w, e, lb)), one_else (suc x) b (λ w. omega (arith, w, e, la)))
      | inr m ↦ omega (arith, both_cons (suc x) a b, counts_at n k f (suc x) l, balance (suc x), no_zero x, one_else (suc x) (a + b) m)
    ]

same_within : (n r : ℕ) (old new other : List ℕ) → AreWithin n r old new → AreSame new other → length other ≡ 9 → AreWithin n r old other
same_within n zero old new other w same long = λ x l. w x l ∙ same x l
same_within n (suc r) old new other (inl w) same long = inl (same_within n r old new other w same long)
same_within n (suc r) old new other (inr w) same long =
    inr (w.0, w.1, w.2, w.3, w.4, w.5, w.6, w.7, record { long = long; each = λ x l. omega (arith, w.8.each x l, same x l) })

pub more_within : (n r more most : ℕ) (old new : List ℕ) → r + more ≡ most → AreWithin n r old new → AreWithin n most old new
more_within n r zero most old new e w = (let same : r ≡ most = omega (arith, e) in subst (λ (i : ℕ). AreWithin n i old new) same w)
more_within n r (suc more) most old new e w = more_within n (suc r) more most old new (omega (arith, e)) (inl w)

-- one move
within_moved : (f : ℕ → ℕ) (u v : ℕ) → u ≢ v → (n k : ℕ) → u < k → v < k → (r : ℕ) (old : List ℕ) → team_size (moved f u v) n v < n → AreWithin n r old (counts_of n k f) → AreWithin n (suc r) old (counts_of n k (moved f u v))
within_moved f u v ne n k lu lv r old few w = elim (same_or (team_size f n u) 0) [
  | inl e ↦ inl (same_within n r old (counts_of n k f) (counts_of n k (moved f u v)) w (unchanged f u v ne n k lu lv (inl e)) (counts_long n k (moved f u v)))
  | inr a ↦ elim (same_or (team_size f n v) 0) [
    | inl e ↦ inl (same_within n r old (counts_of n k f) (counts_of n k (moved f u v)) w (unchanged f u v ne n k lu lv (inr e)) (counts_long n k (moved f u v)))
    | inr b ↦ (let la : 1 ≤ team_size f n u = omega (arith, a) in let lb : 1 ≤ team_size f n v = omega (arith, b) in
        inr (counts_of n k f, team_size f n u, team_size f n v, w, la, lb, has_both f u v ne n k lu lv la lb, omega (arith, few, size_to f u v ne n), merged f u v ne n k lu lv la lb))
  ]
]

-- each process of the finer division in turn takes its team along
abbrev pub along : (ℕ → ℕ) → (ℕ → ℕ) → ℕ → ℕ → ℕ
along f g zero = f
along f g (suc i) = moved (along f g i) (f i) (g i)

module _ (f g : ℕ → ℕ) (n k : ℕ) (high : (p : ℕ) → n ≤ f p) (top : (p : ℕ) → p < n → f p < k) (low : (p : ℕ) → p < n → g p < n) (coarse : (p q : ℕ) → p < n → q < n → f p ≡ f q → g p ≡ g q) where
  apart : (p q : ℕ) → p < n → g p ≢ f q
  apart p q l e = omega (arith, e, low p l, high q)

  either : (i : ℕ) → i ≤ n → (p : ℕ) → p < n → (along f g i p ≡ f p) ⊎ (along f g i p ≡ g p)
  either zero l p lp = inl refl
  either (suc i) l p lp = elim (same_or (along f g i p) (f i)) [
    | inl e ↦ elim (either i (omega (arith, l)) p lp) [
      | inl w ↦ inr (moved_there (along f g i) (f i) (g i) p e ∙ coarse i p (omega (arith, l)) lp (sym e ∙ w))
      | inr w ↦ absurd (apart p i lp (sym w ∙ e))
    ]
    | inr m ↦ elim (either i (omega (arith, l)) p lp) [
      | inl w ↦ inl (moved_not (along f g i) (f i) (g i) p m ∙ w)
      | inr w ↦ inr (moved_not (along f g i) (f i) (g i) p m ∙ w)
    ]
  ]

  pub moved_along : (i : ℕ) → i ≤ n → (p : ℕ) → p < i → along f g i p ≡ g p
  moved_along zero l p lp = absurd (omega (arith, lp))
  moved_along (suc i) l p lp = elim (same_or p i) [
    | inl e ↦ elim (same_or (along f g i p) (f i)) [
      | inl w ↦ moved_there (along f g i) (f i) (g i) p w ∙ ap g (sym e)
      | inr m ↦ elim (either i (omega (arith, l)) p (omega (arith, lp, l))) [
        | inl w ↦ absurd (m (w ∙ ap f e))
        | inr w ↦ moved_not (along f g i) (f i) (g i) p m ∙ w
      ]
    ]
    | inr o ↦ (let w = moved_along i (omega (arith, l)) p (omega (arith, lp, o)) in
        moved_not (along f g i) (f i) (g i) p (λ e. apart p i (omega (arith, lp, l)) (sym w ∙ e)) ∙ w)
  ]

  -- some process is in none of the teams that one of g holds
  elsewhere : (y z i : ℕ) → y < n → z < n → g y ≢ g z → i < n → (q : ℕ) × (q < n) × (g q ≢ g i)
  elsewhere y z i ly lz ne l = elim (same_or (g y) (g i)) [
    | inl e ↦ (z, lz, λ w. ne (e ∙ sym w))
    | inr m ↦ (y, ly, m)
  ]

  few : (y z i : ℕ) → y < n → z < n → g y ≢ g z → suc i ≤ n → team_size (along f g (suc i)) n (g i) < n
  few y z i ly lz ne l =
      let o = elsewhere y z i ly lz ne (omega (arith, l)) in
      size_less (along f g (suc i)) n (g i) o.0 o.1 (λ w. elim (either (suc i) l o.0 o.1) [
        | inl e ↦ apart i o.0 (omega (arith, l)) (sym w ∙ e)
        | inr e ↦ o.2 (sym e ∙ w)
      ])

  pub within_along : (y z : ℕ) → y < n → z < n → g y ≢ g z → (i : ℕ) → i ≤ n → AreWithin n i (counts_of n k f) (counts_of n k (along f g i))
  within_along y z ly lz ne zero l = λ x lx. refl
  within_along y z ly lz ne (suc i) l =
      within_moved (along f g i) (f i) (g i) (λ e. apart i i (omega (arith, l)) (sym e)) n k (top i (omega (arith, l)))
      (let lw = low i (omega (arith, l)) in let lk = top i (omega (arith, l)) in let lh = high i in omega (arith, lw, lk, lh))
      i (counts_of n k f) (few y z i ly lz ne l) (within_along y z ly lz ne i (omega (arith, l)))
