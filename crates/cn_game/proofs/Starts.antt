-- The start of the game on a board.
use Rattle.std.proofs.Common.{◌≡◌, ℕ, ◌<◌, List, length, length-set, map, sym, ap, ◌∙◌, subst, inl, inr, arith, cond, nat_eq, set, get_or}
use Rattle.std.specs.Prelude.{slice_index}
use Rattle.std.proofs.lemmas.Bool.{cases_eq}
use Rattle.std.proofs.lemmas.List.{length-map, get_or-map, get_or-set_other, get_or-set_same, get_or_default}
use Rattle.cn_unread.specs.Functions.{put}
use Rattle.cn_unread.proofs.Functions.{put-other, put-same}
use Rattle.cn_unread.specs.Defended.{Position, Status}
use Rattle.cn_unread.specs.Defended.Status.{Poised}
use Rattle.cn_game.specs.Boards.{status_of, statuses, times}
use Rattle.cn_game.specs.TrapLists.{IsCaught}
use Rattle.cn_game.specs.declared.trap.Turn.{Turn}
use Rattle.cn_game.proofs.Counts.{times-same}
use Rattle.cn_game.specs.declared.board.Standing.{Standing}
use Rattle.cn_game.specs.declared.board.Standing.TheVariants as Now

-- another standing in a place of the list
pub statuses-set : (xs : List Standing) (i : ℕ) (s : Standing) → i < length xs → (j : ℕ)
    → statuses (set xs i s) j ≡ put (statuses xs) i (status_of s) j
statuses-set xs i s l j = elim (cases_eq j i) [
  | inl e ↦ subst (λ (k : ℕ). statuses (set xs i s) k ≡ put (statuses xs) i (status_of s) k) (sym e)
      (ap status_of (get_or-set_same xs i s Now.Lost l) ∙ sym (put-same (statuses xs) i (status_of s)))
  | inr d ↦ ap status_of (get_or-set_other xs i j s Now.Lost d)
      ∙ sym (put-other (statuses xs) i (status_of s) j d)
]

-- a read at another default
pub read_status : (xs : List Standing) (i : ℕ) (d : Standing) → i < length xs
    → status_of (get_or xs i d) ≡ statuses xs i
read_status xs i d l = ap status_of (get_or_default xs i d Now.Lost l)

-- two standings put among those of poised processes
pub start_statuses : (ops : List ℕ) (a b : ℕ) (s u : Standing) → a < length ops → b < length ops
    → (j : ℕ) → j < length ops
    → statuses (set (set (map (λ (o : ℕ). Now.Poised (record { 0 = o })) ops) a s) b u) j
    ≡ put (put (λ i. Poised (slice_index ops i)) a (status_of s)) b (status_of u) j
start_statuses ops a b s u la lb j l =
    statuses-set (set poised a s) b u (omega (arith, lb, long, length-set poised a s)) j
    ∙ same_put (statuses (set poised a s)) (put (λ i. Poised (slice_index ops i)) a (status_of s)) b
    (status_of u) j (statuses-set poised a s (omega (arith, la, long)) j
    ∙ same_put (statuses poised) (λ i. Poised (slice_index ops i)) a (status_of s) j
    (ap status_of (get_or-map (λ (o : ℕ). Now.Poised (record { 0 = o })) ops j 0 Now.Lost l)))
  where
    poised : List Standing
    poised = map (λ (o : ℕ). Now.Poised (record { 0 = o })) ops

    long : length poised ≡ length ops
    long = length-map ops (λ (o : ℕ). Now.Poised (record { 0 = o }))

    same_put : (f g : ℕ → Status) (i : ℕ) (v : Status) (k : ℕ) → f k ≡ g k
        → put f i v k ≡ put g i v k
    same_put f g i v k e = ap (λ (w : Status). cond (nat_eq k i) v w) e

-- what is caught depends on the processes alone
pub caught_same : (trap : List Turn) (m n : ℕ) (x y : Position) → m ≡ n → x.first ≡ y.first
    → x.second ≡ y.second → ((j : ℕ) → j < n → x.status j ≡ y.status j) → IsCaught trap m x
    → IsCaught trap n y
caught_same trap m n x y long e f same (inl h) = inl (
  sym e ∙ (h.0 ∙ f),
  (
    h.1.0,
    h.1.1,
    subst (λ (k : ℕ). h.1.0 < k) long h.1.2,
    sym (same h.1.0 (subst (λ (k : ℕ). h.1.0 < k) long h.1.2)) ∙ h.1.3,
  ),
)
caught_same trap m n x y long e f same (inr p) = inr (
  p.0,
  p.1,
  p.2,
  p.3,
  (
    p.4.0 ∙ e,
    p.4.1 ∙ f,
    λ s. (let a = p.4.2 s in let b = times-same s x.status y.status n same in
        let d : times s x.status m ≡ times s x.status n = ap (times s x.status) long in
        omega (arith, a, b, d)),
  ),
)
