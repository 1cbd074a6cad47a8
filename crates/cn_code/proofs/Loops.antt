-- One step more of a loop over numbers.
use Rattle.std.proofs.Common.{◌≡◌, ℕ, zero, suc, ◌+◌, ◌<◌, ◌++◌, Bool, true, false, List, [], ◌∷◌, max, sym, ap, ◌∙◌, zero-add, arith}
use Rattle.std.specs.List.{fold, list_all, list_any, range_with_len}
use Rattle.std.proofs.lemmas.List.Folds.{list_all-append, list_all_at, list_any-append, list_any_at}
use Rattle.std.proofs.lemmas.List.FromFn.{get_or-range_with_len, length-range_with_len}
use Rattle.std.proofs.lemmas.List.Sums.{fold-append}
use Rattle.cn_tree_costs.specs.Cost.{greatest}

range_more : (n : ℕ) → range_with_len 0 (n + 1) ≡ range_with_len 0 n ++ n ∷ []
range_more n = let same : n + 1 ≡ suc n = omega arith in rw same (more 0 n n (omega arith))
  where
    more : (a n j : ℕ) → a + n ≡ j → range_with_len a (suc n) ≡ range_with_len a n ++ j ∷ []
    more a zero j e = let same : a ≡ j = omega (arith, e) in ap (λ (k : ℕ). k ∷ []) same
    more a (suc n) j e = ap (λ (t : List ℕ). a ∷ t) (more (a + 1) n j (omega (arith, e)))

pub all_more : (p : ℕ → Bool) (n : ℕ) → list_all p (range_with_len 0 n) ≡ true → p n ≡ true → list_all p (range_with_len 0 (n + 1)) ≡ true
all_more p n e f = ap (list_all p) (range_more n) ∙ (list_all-append p (range_with_len 0 n) (n ∷ []) ∙ rw (e, f))

pub all_fails : (p : ℕ → Bool) (n k : ℕ) → k < n → p k ≡ false → list_all p (range_with_len 0 n) ≡ false
all_fails p n k l e =
    list_all_at p (range_with_len 0 n) k 0 (omega (arith, length-range_with_len 0 n)) (ap p (get_or-range_with_len 0 n k 0 l ∙ zero-add k) ∙ e)

pub any_more : (p : ℕ → Bool) (n : ℕ) → list_any p (range_with_len 0 n) ≡ false → p n ≡ false → list_any p (range_with_len 0 (n + 1)) ≡ false
any_more p n e f = ap (list_any p) (range_more n) ∙ (list_any-append p (range_with_len 0 n) (n ∷ []) ∙ rw (e, f))

pub any_holds : (p : ℕ → Bool) (n k : ℕ) → k < n → p k ≡ true → list_any p (range_with_len 0 n) ≡ true
any_holds p n k l e =
    list_any_at p (range_with_len 0 n) k 0 (omega (arith, length-range_with_len 0 n)) (ap p (get_or-range_with_len 0 n k 0 l ∙ zero-add k) ∙ e)

pub folds_more : {A : Type 0} (f : A → ℕ → A) (a before now : A) (n : ℕ) → before ≡ fold f a (range_with_len 0 n) → now ≡ f before n → now ≡ fold f a (range_with_len 0 (n + 1))
folds_more {A} f a before now n e g = g ∙ (ap (λ (x : A). f x n) e ∙ sym (ap (fold f a) (range_more n) ∙ fold-append f a (range_with_len 0 n) (n ∷ [])))

pub greatest_more : (f : ℕ → ℕ) (before now n : ℕ) → before ≡ greatest f n → now ≡ max before (f n) → now ≡ greatest f (n + 1)
greatest_more f before now n e g = let same : n + 1 ≡ suc n = omega arith in rw same (g ∙ ap (λ (m : ℕ). max m (f n)) e)
