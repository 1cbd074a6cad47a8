-- Two in a team of a choice.
use Rattle.std.proofs.Common.{◌≡◌, ◌≢◌, ℕ, zero, suc, ◌+◌, ◌<◌, ◌≤◌, inl, inr, ◌↔◌, ◌++◌, length, length-append, refl, arith, Some, replicate}
use Rattle.std.specs.Prelude.{slice_get}
use Rattle.std.proofs.lemmas.Bool.{cases_order}
use Rattle.cn_choice.specs.declared.team.Team.TheVariants.{A, B}
use Rattle.cn_choice.specs.Canonical.{Choice, raw_choice_of}
use Rattle.cn_recover.specs.Recording.{HasTwo}

marks_b : (k i : ℕ) → slice_get (replicate k B) i ≡ Some A → ⊥
marks_b zero i e = absurd (cc e)
marks_b (suc k) zero e = absurd (cc e)
marks_b (suc k) (suc i) e = marks_b k i e

in_b : (k i : ℕ) → (slice_get (replicate k B) i ≡ Some B) ↔ (i < k)
in_b zero i = (λ e. absurd (cc e), λ l. absurd (omega (arith, l)))
in_b (suc k) zero = (λ e. omega arith, λ l. refl)
in_b (suc k) (suc i) = let r = in_b k i in (λ e. omega (arith, r.0 e), λ l. r.1 (omega (arith, l)))

team_a : (m k i : ℕ) → (slice_get (replicate m A ++ replicate k B) i ≡ Some A) ↔ (i < m)
team_a zero k i = (λ e. absurd (marks_b k i e), λ l. absurd (omega (arith, l)))
team_a (suc m) k zero = (λ e. omega arith, λ l. refl)
team_a (suc m) k (suc i) = let r = team_a m k i in (λ e. omega (arith, r.0 e), λ l. r.1 (omega (arith, l)))

team_b : (m k i : ℕ) → (slice_get (replicate m A ++ replicate k B) i ≡ Some B) ↔ ((m ≤ i) × (i < m + k))
team_b zero k i = (λ e. (omega arith, omega (arith, (in_b k i).0 e)), λ l. (in_b k i).1 (omega (arith, l.1)))
team_b (suc m) k zero = (λ e. absurd (cc e), λ l. absurd (omega (arith, l.0)))
team_b (suc m) k (suc i) = let r = team_b m k i in (λ e. (omega (arith, (r.0 e).0), omega (arith, (r.0 e).1)), λ l. r.1 (omega (arith, l.0), omega (arith, l.1)))

apart_far : (i j m k : ℕ) → i ≢ j → m ≤ i → m ≤ j → i < m + k → j < m + k → 1 < k
apart_far i j m k n a b u v = elim (cases_order i j) [
  | inl e ↦ absurd (n e)
  | inr r ↦ elim r [ inl l ↦ omega (arith, a, v, l) | inr g ↦ omega (arith, b, u, g) ]
]

pub two_in_a : (c : Choice) → HasTwo (raw_choice_of c) A ↔ (1 < length c.a)
two_in_a c =
    let m = length c.a in
    let k = length c.b in (
      λ h. apart_far h.0 h.1 0 m h.2 (omega arith) (omega arith) (omega (arith, (team_a m k h.0).0 h.5)) (omega (arith, (team_a m k h.1).0 h.6)),
      λ l.
          let long = length-append c.a c.b in
          (0, 1, (let n : 0 ≢ 1 = omega arith in n), omega (arith, l, long), omega (arith, l, long), (team_a m k 0).1 (omega (arith, l)), (team_a m k 1).1 l),
    )

pub two_in_b : (c : Choice) → HasTwo (raw_choice_of c) B ↔ (1 < length c.b)
two_in_b c =
    let m = length c.a in
    let k = length c.b in (
      λ h. apart_far h.0 h.1 m k h.2 ((team_b m k h.0).0 h.5).0 ((team_b m k h.1).0 h.6).0 ((team_b m k h.0).0 h.5).1 ((team_b m k h.1).0 h.6).1,
      λ l.
          let long = length-append c.a c.b in (
            m,
            m + 1,
            (let n : m ≢ m + 1 = omega arith in n),
            omega (arith, l, long),
            omega (arith, l, long),
            (team_b m k m).1 (omega arith, omega (arith, l)),
            (team_b m k (m + 1)).1 (omega arith, omega (arith, l)),
          ),
    )
