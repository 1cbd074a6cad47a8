-- Pairs of numbers as numbers, and places of a list, again and again.
use Rattle.std.proofs.Common.{◌≡◌, ℕ, zero, suc, ◌+◌, ◌-◌, ◌<◌, ◌≤◌, inl, inr, refl, sym, ap, ◌∙◌}
use Rattle.std.proofs.Common.{subst, arith, cond, nat_lt}
use Rattle.std.proofs.lemmas.Bool.{cases_lt, le-ltb, lt-ltb}

abbrev pub pair : ℕ → ℕ → ℕ × ℕ
pair x y = (x, y)

abbrev turn : ℕ → ℕ → ℕ × ℕ
turn x zero = (0, suc x)
turn x (suc y) = (suc x, y)

pub unpair : ℕ → ℕ × ℕ
unpair zero = (0, 0)
unpair (suc n) = turn (unpair n).0 (unpair n).1

abbrev Codes : ℕ → ℕ → Type 0
Codes x y = (n : ℕ) × (unpair n ≡ pair x y)

along : (s : ℕ) → Codes 0 s → (x y : ℕ) → x + y ≡ s → Codes x y
unfolding unpair
along s c zero y e = let f : s ≡ y = omega (arith, e) in subst (λ (z : ℕ). Codes 0 z) f c
along s c (suc x) y e =
    let r = along s c x (suc y) (omega (arith, e)) in
    (suc r.0, ap (λ (p : ℕ × ℕ). turn p.0 p.1) r.1)

first : (s : ℕ) → Codes 0 s
unfolding unpair
first zero = (0, refl)
first (suc s) =
    let r = along s (first s) s 0 (omega arith) in
    (suc r.0, ap (λ (p : ℕ × ℕ). turn p.0 p.1) r.1)

pub code : ℕ → ℕ → ℕ
code x y = (along (x + y) (first (x + y)) x y refl).0

pub uncoded : (x y : ℕ) → unpair (code x y) ≡ pair x y
unfolding code
uncoded x y = (along (x + y) (first (x + y)) x y refl).1

module _ (m : ℕ) where
  pub cyc : ℕ → ℕ
  cyc zero = 0
  cyc (suc k) = cond (nat_lt (suc (cyc k)) m) (suc (cyc k)) 0

  pub cyc_below : 0 < m → (k : ℕ) → cyc k < m
  unfolding cyc
  cyc_below some zero = some
  cyc_below some (suc k) = elim (cases_lt (suc (cyc k)) m) [
    | inl l ↦ rw (lt-ltb (suc (cyc k)) m l) l
    | inr n ↦ rw (le-ltb (suc (cyc k)) m n) some
  ]

  cyc_on : (k : ℕ) → suc (cyc k) < m → cyc (suc k) ≡ suc (cyc k)
  unfolding cyc
  cyc_on k l = rw (lt-ltb (suc (cyc k)) m l) refl

  cyc_wrap : (k : ℕ) → m ≤ suc (cyc k) → cyc (suc k) ≡ 0
  unfolding cyc
  cyc_wrap k l = rw (le-ltb (suc (cyc k)) m l) refl

  forward : (d u : ℕ) → cyc u + d < m → cyc (u + d) ≡ cyc u + d
  forward zero u l = let e : u ≡ u + 0 = omega arith in
      sym (ap cyc e) ∙ omega arith
  forward (suc d) u l =
      let e : suc (u + d) ≡ u + suc d = omega arith in
      let f = forward d u (omega (arith, l)) in
      let g : suc (cyc (u + d)) < m = omega (arith, l, f) in
      sym (ap cyc e) ∙ (cyc_on (u + d) g ∙ omega (arith, f))

  -- each place comes within m places from any
  pub window : (u i : ℕ) → i < m → (k : ℕ) × (u ≤ k) × (k < u + m) × (cyc k ≡ i)
  window u i l = elim (cases_lt i (cyc u)) [
    | inr n ↦ (let f = forward (i - cyc u) u (omega (arith, l, n)) in
        (u + (i - cyc u), omega arith, omega (arith, l, n), omega (arith, f, n)))
    | inl n ↦ (let c = cyc_below (omega (arith, l)) u in
        let top = forward (m - 1 - cyc u) u (omega (arith, c)) in
        let w = cyc_wrap (u + (m - 1 - cyc u)) (omega (arith, top, c)) in
        let f = forward i (suc (u + (m - 1 - cyc u))) (omega (arith, w, l)) in
        (suc (u + (m - 1 - cyc u)) + i, omega arith, omega (arith, n, c), omega (arith, f, w)))
  ]
