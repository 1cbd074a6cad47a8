-- One operation more of a run is written.
use Rattle.std.proofs.Common.{◌≡◌, ◌∙◌, ℕ, suc, ◌+◌, ◌<◌, ◌==◌, List, ◌∷◌, ◌++◌, append_assoc, ap, arith, drop, drop-cons, length, get_or, sym}
use Rattle.cn_table.specs.TypeTable.{TypeTable, transition}
use Rattle.cn_table.specs.Run.{state_after}
use Rattle.cn_stock_text.specs.Joins.{step_text, steps_text}

-- the operation at a place, and those behind it
rest_at : (k : ℕ) (word : List ℕ) (o : ℕ) → k < length word → o ≡ get_or word k 0 → drop k word ≡ o ∷ drop (k + 1) word
rest_at k word o less is =
    let on : suc k ≡ k + 1 = omega arith in
    drop-cons word k 0 less ∙ ap (λ x. x ∷ drop (suc k) word) (sym is) ∙ ap (λ n. o ∷ drop n word) on

pub steps_more : (t : TypeTable) (place k state : ℕ) (word : List ℕ) (o response next : ℕ) (before now all : List ℕ) → k < length word → o ≡ get_or word k 0
    → ◌≡◌ {A = ℕ × ℕ} (response, next) (transition t o state) → before ++ steps_text t place k state (drop k word) ≡ all → now ≡ before ++ step_text t (k == place) o response
    → now ++ steps_text t place (k + 1) next (drop (k + 1) word) ≡ all
steps_more t place k state word o response next before now all less is moved so_far here =
    let answer : response ≡ (transition t o state).0 = ap (λ (x : ℕ × ℕ). x.0) moved in
    let on : next ≡ (transition t o state).1 = ap (λ (x : ℕ × ℕ). x.1) moved in
    let rest : List ℕ = drop (k + 1) word in
    ap (λ ys. ys ++ steps_text t place (k + 1) next rest) here
    ∙ append_assoc before (step_text t (k == place) o response) (steps_text t place (k + 1) next rest)
    ∙ ap (λ r. before ++ (step_text t (k == place) o r ++ steps_text t place (k + 1) next rest)) answer
    ∙ ap (λ q. before ++ (step_text t (k == place) o (transition t o state).0 ++ steps_text t place (k + 1) q rest)) on
    ∙ ap (λ xs. before ++ steps_text t place k state xs) (sym (rest_at k word o less is)) ∙ so_far

pub left_more : (t : TypeTable) (k state : ℕ) (word : List ℕ) (o response next left : ℕ) → k < length word → o ≡ get_or word k 0
    → ◌≡◌ {A = ℕ × ℕ} (response, next) (transition t o state) → state_after t state (drop k word) ≡ left → state_after t next (drop (k + 1) word) ≡ left
left_more t k state word o response next left less is moved so_far =
    ap (λ (x : ℕ × ℕ). state_after t x.1 (drop (k + 1) word)) moved ∙ ap (state_after t state) (sym (rest_at k word o less is)) ∙ so_far
