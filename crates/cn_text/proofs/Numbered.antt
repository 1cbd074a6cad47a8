-- Texts of the items of a list, numbered.
use Rattle.std.proofs.Common.{◌≡◌, ◌∙◌, ℕ, suc, ◌+◌, ◌<◌, List, ◌++◌, append_assoc, ap, arith, drop, drop-cons, length, get_or, sym}
use Rattle.cn_text.specs.Ways.{numbered}

-- the item at a place, and then those behind it
numbered_at : {X : Type 0} (text : ℕ → X → List ℕ) (k : ℕ) (xs : List X) (x : X) → k < length xs → x ≡ get_or xs k x
    → numbered text k (drop k xs) ≡ text (k + 1) x ++ numbered text (k + 1) (drop (k + 1) xs)
numbered_at text k xs x less is =
    let on : suc k ≡ k + 1 = omega arith in
    ap (numbered text k) (drop-cons xs k x less) ∙ ap (λ y. text (k + 1) y ++ numbered text (k + 1) (drop (suc k) xs)) (sym is)
    ∙ ap (λ n. text (k + 1) x ++ numbered text (k + 1) (drop n xs)) on

-- one item more is written
pub numbered_more : {X : Type 0} (text : ℕ → X → List ℕ) (k : ℕ) (xs : List X) (x : X) (before now all : List ℕ) → k < length xs → x ≡ get_or xs k x
    → before ++ numbered text k (drop k xs) ≡ all → now ≡ before ++ text (k + 1) x → now ++ numbered text (k + 1) (drop (k + 1) xs) ≡ all
numbered_more text k xs x before now all less is so_far here =
    ap (λ ys. ys ++ numbered text (k + 1) (drop (k + 1) xs)) here ∙ append_assoc before (text (k + 1) x) (numbered text (k + 1) (drop (k + 1) xs))
    ∙ ap (λ ys. before ++ ys) (sym (numbered_at text k xs x less is)) ∙ so_far
