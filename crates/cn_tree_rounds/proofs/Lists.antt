-- Lists as functions of the index.
use Rattle.std.proofs.Common.{ℕ, ◌≡◌, ◌<◌, inl, inr, List, length, map, set, get_or, refl, sym, ap, ◌∙◌, arith, get_or-set_same, get_or-set_other}
use Rattle.std.specs.List.{range_with_len}
use Rattle.std.proofs.lemmas.Bool.{cases_eq, cases_lt}
use Rattle.std.proofs.lemmas.List.{get_or_past, length-map}
use Rattle.std.proofs.lemmas.List.FromFn.{fill_by_all, get_or-map-range_with_len, length-map-range_with_len}
use Rattle.std.proofs.Math.ListN as lists
use Rattle.cn_unread.specs.Functions.{put}
use Rattle.cn_unread.proofs.Functions.{put-other, put-same}

-- a write of a list is one of the function of its elements
pub put_stored : {A B : Type 0} (f : A → B) (xs : List A) (i : ℕ) (x : A) (d : ℕ → A) → i < length xs → (j : ℕ) → f (get_or (set xs i x) j (d j)) ≡ put (λ k. f (get_or xs k (d k))) i (f x) j
put_stored f xs i x d lt j = elim (cases_eq j i) [
  | inl e ↦ rw (e, get_or-set_same xs i x (d i) lt, put-same (λ k. f (get_or xs k (d k))) i (f x)) refl
  | inr ne ↦ ap f (get_or-set_other xs i j x (d j) ne) ∙ sym (put-other (λ k. f (get_or xs k (d k))) i (f x) j ne)
]

-- a value put where it is
pub put_own : {X : Type 0} (f : ℕ → X) (i : ℕ) (x : X) → x ≡ f i → (j : ℕ) → put f i x j ≡ f j
put_own f i x e j = elim (cases_eq j i) [
  | inl same ↦ rw (same, put-same f i x) e
  | inr ne ↦ put-other f i x j ne
]

-- an element of a list made from a function, or what the function gives past its end
pub made_at : {A : Type 0} (f : ℕ → A) (n v : ℕ) → get_or (map f (range_with_len 0 n)) v (f v) ≡ f v
made_at f n v = elim (cases_lt v n) [
  | inl lt ↦ get_or-map-range_with_len f 0 n v v (f v) lt (omega arith)
  | inr ge ↦ (let many = length-map-range_with_len f 0 n in get_or_past (map f (range_with_len 0 n)) v (f v) (omega arith))
]

-- a list as that of its elements
pub map_by_index : {A B : Type 0} (f : A → B) (xs : List A) (d : A) (n : ℕ) → length xs ≡ n → map f xs ≡ map (λ k. f (get_or xs k d)) (range_with_len 0 n)
map_by_index f xs d n e =
    fill_by_all (λ k. f (get_or xs k d)) (map f xs) n (f d) (length-map xs f ∙ e) (λ k lt. lists.get_or-map f xs k d)
