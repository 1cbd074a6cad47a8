-- How often statuses occur.
use Rattle.std.proofs.Common.{◌≡◌, ℕ, zero, suc, ◌+◌, ◌<◌, ◌≤◌, ◌⊎◌, inl, inr, refl, sym, ap, ◌∙◌}
use Rattle.std.proofs.Common.{subst, arith, Bool, true, false, cond, true≢false}
use Rattle.std.specs.Prelude.{◌&&◌}
use Rattle.std.proofs.lemmas.Bool.{eq-eqb, eqb-true, cases_eq}
use Rattle.cn_unread.specs.Functions.{put}
use Rattle.cn_unread.proofs.Functions.{put-other, put-same}
use Rattle.cn_unread.specs.Defended.{Status}
use Rattle.cn_unread.specs.Defended.Status.{AheadInFirst, AheadInSecond, Lost, Poised}
use Rattle.cn_game.specs.Boards.{same, times}

both : (a b : Bool) → (a && b) ≡ true → (a ≡ true) × (b ≡ true)
both true true e = (refl, refl)
both true false e = absurd (true≢false (sym e))
both false b e = absurd (true≢false (sym e))

pub same-is : (s u : Status) → same s u ≡ true → s ≡ u
same-is (Poised o) (Poised p) e = ap Poised (eqb-true o p e)
same-is (Poised o) (AheadInFirst p r) e = absurd (true≢false (sym e))
same-is (Poised o) (AheadInSecond p r) e = absurd (true≢false (sym e))
same-is (Poised o) Lost e = absurd (true≢false (sym e))
same-is (AheadInFirst o q) (Poised p) e = absurd (true≢false (sym e))
same-is (AheadInFirst o q) (AheadInFirst p r) e = let h = both _ _ e in
    ap (λ (i : ℕ). AheadInFirst i q) (eqb-true o p h.0) ∙ ap (AheadInFirst p) (eqb-true q r h.1)
same-is (AheadInFirst o q) (AheadInSecond p r) e = absurd (true≢false (sym e))
same-is (AheadInFirst o q) Lost e = absurd (true≢false (sym e))
same-is (AheadInSecond o q) (Poised p) e = absurd (true≢false (sym e))
same-is (AheadInSecond o q) (AheadInFirst p r) e = absurd (true≢false (sym e))
same-is (AheadInSecond o q) (AheadInSecond p r) e = let h = both _ _ e in
    ap (λ (i : ℕ). AheadInSecond i q) (eqb-true o p h.0) ∙ ap (AheadInSecond p) (eqb-true q r h.1)
same-is (AheadInSecond o q) Lost e = absurd (true≢false (sym e))
same-is Lost (Poised p) e = absurd (true≢false (sym e))
same-is Lost (AheadInFirst p r) e = absurd (true≢false (sym e))
same-is Lost (AheadInSecond p r) e = absurd (true≢false (sym e))
same-is Lost Lost e = refl

pub same-itself : (s : Status) → same s s ≡ true
same-itself (Poised o) = eq-eqb o o refl
same-itself (AheadInFirst o r) = rw (eq-eqb o o refl, eq-eqb r r refl) refl
same-itself (AheadInSecond o r) = rw (eq-eqb o o refl, eq-eqb r r refl) refl
same-itself Lost = refl

-- one for the status, none for others
abbrev pub one : Status → Status → ℕ
one s u = cond (same s u) 1 0

pub one-itself : (s : Status) → one s s ≡ 1
one-itself s = ap (λ (b : Bool). cond b 1 0) (same-itself s)

pub times-same : (s : Status) (f g : ℕ → Status) (n : ℕ) → ((j : ℕ) → j < n → f j ≡ g j)
    → times s f n ≡ times s g n
times-same s f g zero h = refl
times-same s f g (suc n) h =
    ap (λ (u : Status). one s u + times s (λ j. f (suc j)) n) (h 0 (omega arith))
    ∙ ap (λ (k : ℕ). one s (g 0) + k)
    (times-same s (λ j. f (suc j)) (λ j. g (suc j)) n (λ j l. h (suc j) (omega (arith, l))))

-- a process with the status is counted
pub times-some : (s : Status) (f : ℕ → Status) (n j : ℕ) → j < n → f j ≡ s → 1 ≤ times s f n
times-some s f zero j l e = absurd (omega (arith, l))
times-some s f (suc n) zero l e =
    let h : one s (f 0) ≡ 1 = ap (one s) e ∙ one-itself s in omega (arith, h)
times-some s f (suc n) (suc j) l e =
    let h = times-some s (λ j. f (suc j)) n j (omega (arith, l)) e in omega (arith, h)

-- what is counted has a process
pub some-times : (s : Status) (f : ℕ → Status) (n : ℕ) → 1 ≤ times s f n
    → (j : ℕ) × (j < n) × (f j ≡ s)
some-times s f zero h = absurd (omega (arith, h))
some-times s f (suc n) h = by_first (some-times s (λ j. f (suc j)) n) (same s (f 0)) refl
  where
    by_first : (1 ≤ times s (λ j. f (suc j)) n → (j : ℕ) × (j < n) × (f (suc j) ≡ s))
        → (b : Bool) → same s (f 0) ≡ b → (j : ℕ) × (j < suc n) × (f j ≡ s)
    by_first later true e = (0, omega arith, sym (same-is s (f 0) e))
    by_first later false e =
        let none : one s (f 0) ≡ 0 = ap (λ (b : Bool). cond b 1 0) e in
        let r = later (omega (arith, h, none)) in (suc r.0, omega (arith, r.1), r.2)

-- another status in the place of one
pub times-put : (s : Status) (f : ℕ → Status) (n j : ℕ) (u : Status) → j < n
    → times s (put f j u) n + one s (f j) ≡ times s f n + one s u
times-put s f zero j u l = absurd (omega (arith, l))
times-put s f (suc n) zero u l =
    let rest = times-same s (λ k. put f 0 u (suc k)) (λ k. f (suc k)) n
    (λ k _. put-other f 0 u (suc k) (λ e. absurd (omega (arith, e)))) in
    let here : one s (put f 0 u 0) ≡ one s u = ap (one s) (put-same f 0 u) in
    omega (arith, rest, here)
times-put s f (suc n) (suc j) u l =
    let rest = times-same s (λ k. put f (suc j) u (suc k)) (put (λ k. f (suc k)) j u) n
    (λ k _. shifted k) in
    let here : one s (put f (suc j) u 0) ≡ one s (f 0) =
    ap (one s) (put-other f (suc j) u 0 (λ e. absurd (omega (arith, e)))) in
    let more = times-put s (λ k. f (suc k)) n j u (omega (arith, l)) in
    omega (arith, rest, here, more)
  where
    shifted : (k : ℕ) → put f (suc j) u (suc k) ≡ put (λ i. f (suc i)) j u k
    shifted k = elim (cases_eq k j) [
      | inl e ↦ subst (λ (i : ℕ). put f (suc j) u (suc i) ≡ put (λ i. f (suc i)) j u i) (sym e)
          (put-same f (suc j) u ∙ sym (put-same (λ i. f (suc i)) j u))
      | inr d ↦ put-other f (suc j) u (suc k) (λ e. d (omega (arith, e)))
          ∙ sym (put-other (λ i. f (suc i)) j u k d)
    ]

times-last : (s : Status) (f : ℕ → Status) (n : ℕ)
    → times s f (suc n) ≡ times s f n + one s (f n)
times-last s f zero = omega arith
times-last s f (suc n) =
    let h : times s (λ j. f (suc j)) (suc n) ≡ times s (λ j. f (suc j)) n + one s (f (suc n)) =
    times-last s (λ j. f (suc j)) n in omega (arith, h)

pub times-more : (s : Status) (f : ℕ → Status) (n : ℕ)
    → times s f (n + 1) ≡ times s f n + one s (f n)
times-more s f n = let e : suc n ≡ n + 1 = omega arith in
    subst (λ (k : ℕ). times s f k ≡ times s f n + one s (f n)) e (times-last s f n)

-- if each status of the first n processes is as often among the others, all statuses are
pub all_among : (n m : ℕ) (f g : ℕ → Status)
    → ((j : ℕ) → j < n → times (f j) f n ≤ times (f j) g m) → (s : Status)
    → times s f n ≤ times s g m
all_among n m f g h s = elim (le_or n (times s f n)) [
  | inl none ↦ omega (arith, none)
  | inr more ↦ (let r = some-times s f n more in
      subst (λ (u : Status). times u f n ≤ times u g m) r.2 (h r.0 r.1))
]
  where
    le_or : (k c : ℕ) → (c ≡ 0) ⊎ (1 ≤ c)
    le_or k zero = inl refl
    le_or k (suc c) = inr (omega arith)
