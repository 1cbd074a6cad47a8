-- Moves of roles: how often each moves, and the team that began.
use Rattle.std.proofs.Common.{◌≡◌, ◌≢◌, ℕ, ◌+◌, List, [], ◌∷◌, refl, arith, cond, nat_eq}
use Rattle.std.proofs.lemmas.List.Sums.{sum_by-cons}
use Rattle.std.proofs.lemmas.Bool.{eq-eqb, ne_eqb}
use Rattle.cn_choice.specs.declared.team.Team.{Team}
use Rattle.cn_unread.specs.Nodes.{BeganIn, moves_of}

-- the same as hit of cn_consensus
abbrev hit : ℕ → ℕ → ℕ
hit q p = cond (nat_eq q p) 1 0

-- the same as occurrences-cons of cn_consensus
moves_of-cons : (q : ℕ) (s : List ℕ) (p : ℕ) → moves_of (q ∷ s) p ≡ hit q p + moves_of s p
moves_of-cons q s p = sum_by-cons (λ x. cond (nat_eq x p) 1 0) q s

-- the same as occurrences_other of cn_consensus
pub moves_of_other : (q : ℕ) (s : List ℕ) (p : ℕ) → q ≢ p → moves_of (q ∷ s) p ≡ moves_of s p
moves_of_other q s p d =
    let none : hit q p ≡ 0 = rw (ne_eqb q p d) refl in omega (arith, moves_of-cons q s p, none)

pub one_more : (p : ℕ) (s : List ℕ) → moves_of (p ∷ s) p ≡ 1 + moves_of s p
one_more p s =
    let one : hit p p ≡ 1 = rw (eq-eqb p p refl) refl in omega (arith, moves_of-cons p s p, one)

pub began_some : (team : ℕ → Team) (q : ℕ) (s : List ℕ) → (y : Team) × BeganIn team y (q ∷ s)
began_some team q [] = (team q, refl)
began_some team q (k ∷ s) = began_some team k s
