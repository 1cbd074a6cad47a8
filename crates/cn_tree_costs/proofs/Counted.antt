-- The sizes of teams, counted.
use Rattle.std.proofs.Common.{ℕ, zero, suc, ◌≡◌, true, false, ◌+◌, ◌<◌, ◌≤◌, length, map, slice_index_or, refl, sym, ap, ◌∙◌, subst, arith, nat_lt, nat_eq, if◌then◌else◌, inl, inr}
use Rattle.std.specs.List.{range_with_len}
use Rattle.std.specs.Prelude.{sum}
use Rattle.std.proofs.lemmas.Bool.{cases_eq, cases_lt}
use Rattle.std.proofs.lemmas.Bool.Decides.{nat_tests}
use Rattle.std.proofs.lemmas.List.FromFn.{get_or-map-range_with_len, length-map-range_with_len}
use Rattle.std.proofs.Math.ListN.{get_or-eq_default}
use Rattle.cn_table.specs.TypeTable.{TypeTable}
use Rattle.cn_meetings.specs.Meeting.{IsSightOf, Meeting, Sight}
use Rattle.cn_meetings.specs.Witness.{IsTeamWitness}
use Rattle.cn_trees.specs.Seats.{HasRoles}
use Rattle.cn_tree_costs.specs.Cost.{total}
use Rattle.cn_tree_costs.specs.Sizes.{HasSizes, team_size, team_sizes}
use Rattle.cn_tree_costs.proofs.Numbers.{sum_cons, total_first, total_same}
use Rattle.cn_tree_costs.proofs.Regrouping.{numbered}

module _ (team : ℕ → ℕ) where
  -- the process of team g with this number there
  abbrev pick : ℕ → ℕ → ℕ → ℕ
  pick g zero i = 0
  pick g (suc n) i = if nat_eq (team n) g then (if nat_eq i (team_size team n g) then n else pick g n i) else pick g n i

  record IsPicked (g n i p : ℕ) : Type 0 where
    pub known : p < n
    pub team_is : team p ≡ g
    pub before : team_size team p g ≡ i

  longer : (g n i p : ℕ) → IsPicked g n i p → IsPicked g (suc n) i p
  longer g n i p h = record { known = (let l = h.known in omega arith); team_is = h.team_is; before = h.before }

  picked : (g n i : ℕ) → i < team_size team n g → IsPicked g n i (pick g n i)
  picked g zero i lt = absurd (omega arith)
  picked g (suc n) i lt = elim (cases_eq (team n) g) [
    | inl e ↦ (let y : nat_eq (team n) g ≡ true = grind (arith, nat_tests) in
        let lt' : i < team_size team n g + 1 = rw y at lt in
        elim (cases_eq i (team_size team n g)) [
          | inl f ↦ (let z : nat_eq i (team_size team n g) ≡ true = grind (arith, nat_tests) in rw (y, z) (record { known = omega arith; team_is = e; before = sym f }))
          | inr nf ↦ (let z : nat_eq i (team_size team n g) ≡ false = grind (arith, nat_tests) in rw (y, z) (longer g n i (pick g n i) (picked g n i (omega arith))))
        ])
    | inr ne ↦ (let y : nat_eq (team n) g ≡ false = grind (arith, nat_tests) in
        let lt' : i < team_size team n g + 0 = rw y at lt in
        rw y (longer g n i (pick g n i) (picked g n i (omega arith))))
  ]

  size_within : (n k g i : ℕ) → i < slice_index_or (team_sizes team n k) g 0 → i < team_size team n g
  size_within n k g i lt = elim (cases_lt g k) [
    | inl l ↦ subst (λ m. i < m) (get_or-map-range_with_len (team_size team n) 0 k g g 0 l (omega arith)) lt
    | inr ge ↦ absurd (let z : slice_index_or (team_sizes team n k) g 0 ≡ 0 = get_or-eq_default (team_sizes team n k) 0 (omega (arith, length-map-range_with_len (team_size team n) 0 k)) in omega arith)
  ]

  roles_picked : (n k : ℕ) → HasRoles (λ p. nat_lt p n) team (λ g. slice_index_or (team_sizes team n k) g 0) (λ g i. pick g n i)
  roles_picked n k = record {
    known = λ g i lt. (let h = (picked g n i (size_within n k g i lt)).known in grind (arith, nat_tests));
    team_is = λ g i lt. (picked g n i (size_within n k g i lt)).team_is;
    apart = λ g i j li lj e. sym (picked g n i (size_within n k g i li)).before ∙ (ap (λ p. team_size team p g) e ∙ (picked g n j (size_within n k g j lj)).before);
  }

  -- ---- all processes are counted
  total_range : (f : ℕ → ℕ) (a k : ℕ) → sum (map f (range_with_len a k)) ≡ total (λ i. f (a + i)) k
  total_range f a zero = refl
  total_range f a (suc k) =
      let e : a + 0 ≡ a = omega arith in
      omega (
        arith,
        sum_cons (f a) (map f (range_with_len (a + 1) k)),
        total_range f (a + 1) k,
        total_first (λ i. f (a + i)) k,
        ap f e,
        total_same (λ i. f (a + 1 + i)) (λ i. f (a + suc i)) k (λ i lt. ap f (omega arith)),
      )

  total_both : (f g : ℕ → ℕ) (n : ℕ) → total (λ i. f i + g i) n ≡ total f n + total g n
  total_both f g zero = refl
  total_both f g (suc n) = omega (arith, total_both f g n)

  none_of : (c k : ℕ) → k ≤ c → total (λ g. if nat_eq c g then 1 else 0) k ≡ 0
  none_of c zero le = refl
  none_of c (suc k) le = let y : nat_eq c k ≡ false = grind (arith, nat_tests) in rw y (omega (arith, none_of c k (omega arith)))

  one_of : (c k : ℕ) → c < k → total (λ g. if nat_eq c g then 1 else 0) k ≡ 1
  one_of c zero lt = absurd (omega arith)
  one_of c (suc k) lt = elim (cases_eq c k) [
    | inl e ↦ (let y : nat_eq c k ≡ true = grind (arith, nat_tests) in rw y (omega (arith, none_of c k (omega arith))))
    | inr ne ↦ (let y : nat_eq c k ≡ false = grind (arith, nat_tests) in rw y (omega (arith, one_of c k (omega arith))))
  ]

  nobody_counted : (k : ℕ) → total (λ g. team_size team 0 g) k ≡ 0
  nobody_counted zero = refl
  nobody_counted (suc k) = omega (arith, nobody_counted k)

  whole : (n k : ℕ) → ((p : ℕ) → p < n → team p < k) → total (λ g. team_size team n g) k ≡ n
  whole zero k each = nobody_counted k
  whole (suc n) k each = omega (arith, total_both (λ g. team_size team n g) (λ g. if nat_eq (team n) g then 1 else 0) k, whole n k (λ p lt. each p (omega arith)), one_of (team n) k (each n (omega arith)))

  pub all_counted : (n k : ℕ) → ((p : ℕ) → p < n → team p < k) → sum (team_sizes team n k) ≡ n
  all_counted n k each = total_range (team_size team n) 0 k ∙ (total_same (λ i. team_size team n (0 + i)) (λ g. team_size team n g) k (λ i lt. ap (team_size team n) (omega arith)) ∙ whole n k each)

pub counted : (t : TypeTable) (sight : Sight) (M : Meeting) (n k : ℕ) (team : ℕ → ℕ) → M.start < length t.states → ((p : ℕ) → p < n → M.operation p < length t.operations) → ((p : ℕ) → p < n → M.sight p ≡ sight) → IsSightOf t sight
    → IsTeamWitness t M (λ p. nat_lt p n) team → HasSizes t sight (team_sizes team n k)
counted t sight M n k team start operations sights known witness =
    numbered t sight M (λ p. nat_lt p n) team (team_sizes team n k) (λ g i. pick team g n i) (roles_picked team n k) start
    (λ p h. operations p (grind (arith, nat_tests))) (λ p h. sights p (grind (arith, nat_tests))) known witness
